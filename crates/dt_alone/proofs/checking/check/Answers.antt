-- What is to be shown of `check`.
use Rattle.std.proofs.Common.{◌≡◌, Option, Some, None, sym, ap, ◌∙◌}
use Rattle.dt_proto.specs.Session.{session_account}
use Rattle.dt_alone.specs.Lent.{forms_of_lent}
use Rattle.dt_alone.proofs.Trails.{same_trail}
use Rattle.dt_alone.proofs.checking.check.Goals as goal

no_account : {A : Type 0} (found : Option A) (account : A) → None ≡ found → found ≡ Some account → ⊥
no_account found account none some = let both : None ≡ Some account = none ∙ some in cc

pub returns-in_err-account-clause-refused : goal.returns-in_err-account-clause-refused
returns-in_err-account-clause-refused c = λ is trail.
    let read = c.in_ok-trail.trail in
    let registry = c.args.machine.now.registry in
    let same = same_trail c.args.text.now trail.0 read.name.now trail.2 (forms_of_lent read.items.items) trail.3
    c.in_ok-trail.ensures.ok in
    no_account (session_account registry read.name.now) trail.1
    (rw c.in_err-account.ensures.ok_part at c.opened.ensures)
    (ap (session_account registry) (sym same.0) ∙ trail.4)
