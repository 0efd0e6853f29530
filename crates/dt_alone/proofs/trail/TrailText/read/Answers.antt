-- What is to be shown of `read`.
use Rattle.std.proofs.Common.{◌≡◌, ◌++◌, codes, Some, None, ◌∙◌}
use Rattle.std.proofs.lemmas.Bool.Decides.{Decides-eqb}
use Rattle.std.proofs.lemmas.Slice.Eq.{strip_prefix_is}
use Rattle.dt_alone.specs.Lent.{forms_of_lent}
use Rattle.dt_alone.proofs.Cuts.{no_cut}
use Rattle.dt_alone.proofs.Trails.{text_of, trail_whole, trail_begins, spells, items_after}
use Rattle.dt_alone.proofs.trail.TrailText.read.Goals as goal

pub returns-in_err-first-clause-refused : goal.returns-in_err-first-clause-refused
returns-in_err-first-clause-refused c = λ is name items h.
    no_cut 10 c.args.text.now (codes "account " ++ name) (text_of items)
    (rw c.in_err-first.ensures.ok_part at c.cut_at.ensures.none) (h.spelled ∙ trail_whole name items)

pub returns-in_err-name-clause-refused : goal.returns-in_err-name-clause-refused
returns-in_err-name-clause-refused c = λ is name items h.
    let cut = rw c.in_ok-first.ensures.ok_part at c.cut_at.ensures.found in
    let first = c.in_ok-first.first.now in
    let both = trail_begins c.args.text.now first c.in_ok-first.rest.now name items cut.whole cut.first h in
    strip_prefix_is Decides-eqb first (codes "account ") None
    (rw c.in_err-name.ensures.ok_part at c.strip_prefix.ensures.cases) name both.0

pub returns-in_err-items-clause-refused : goal.returns-in_err-items-clause-refused
returns-in_err-items-clause-refused c = λ is name items h.
    let cut = rw c.in_ok-first.ensures.ok_part at c.cut_at.ensures.found in
    let from = rw is at c.from_residual-in_err-items.ensures in
    c.in_err-items.ensures.refused (cc) items
    (items_after c.args.text.now c.in_ok-first.first.now c.in_ok-first.rest.now name items cut h)

pub returns-clause-ok : goal.returns-clause-ok
returns-clause-ok c =
    let cut = rw c.in_ok-first.ensures.ok_part at c.cut_at.ensures.found in
    let first = c.in_ok-first.first.now in
    let name = c.in_ok-name.name in
    let whole : first ≡ codes "account " ++ name.now =
    strip_prefix_is Decides-eqb first (codes "account ") (Some name)
    (rw c.in_ok-name.ensures.ok_part at c.strip_prefix.ensures.cases) in
    spells c.args.text.now first c.in_ok-first.rest.now name.now (forms_of_lent c.in_ok-items.items.items) cut whole
    c.in_ok-items.ensures.ok
