-- What is published next.
use Rattle.std.proofs.Common.{◌≡◌, ℕ, List, fold, ap, sym, ◌∙◌, subst, Option, Some, None, is_some, false, [], Result, Ok, Err, IsOk, MatchResult}
use mathlib.Core.List.{IsPrefix}
use Rattle.logbook.specs.Pages.{Book}
use Rattle.left_right.specs.Register.{TurnsAt}
use Rattle.dt_chain.specs.Writes.{Write}
use Rattle.dt_chain.specs.Copies.{Copied}
use Rattle.dt_chain.specs.declared.chain_copy.Addition.{Addition}
use Rattle.dt_chain.specs.Chains.{IsPress, IsChain, EndShows, added_to, copy_of}
use Rattle.dt_chain.proofs.Fronts.{prefix_self}
use Rattle.dt_chain.proofs.Rises.{rises}

-- Where no write waits, the pending ones lead to the whole list.
pub all_pending : (book : Book) (shown : Copied) (pending : List Addition) (waiting : Option Addition)
    (writes : List Write) → IsPress book shown pending waiting writes → is_some waiting ≡ false
    → fold added_to shown pending ≡ copy_of book writes
all_pending book shown pending None writes i none = i.all
all_pending book shown pending (Some s) writes i none = absurd cc

-- So to publish them is a step that the rule of the chains allows.
pub shows_all : (book : Book) (shown : Copied) (pending : List Addition) (waiting : Option Addition)
    (writes : List Write) → IsPress book shown pending waiting writes → is_some waiting ≡ false
    → (seat : ℕ) (v : List Write) (next : Copied) → next ≡ fold added_to shown pending
    → TurnsAt (IsChain book) seat v shown next (EndShows book)
shows_all book shown pending waiting writes i none seat v next is =
    let e : next ≡ copy_of book writes = is ∙ all_pending book shown pending waiting writes i none in
    let log : next.mark.log ≡ writes = ap (λ (c : Copied). c.mark.log) e in
    rises book seat v shown next (e ∙ ap (copy_of book) (sym log))
    (subst (λ (l : List Write). IsPrefix shown.mark.log l) (sym log) i.below)

-- Once they are published, nothing is pending and all writes are published.
pub shown_all : (book : Book) (shown next : Copied) (pending left : List Addition) (waiting : Option Addition)
    (writes : List Write) → IsPress book shown pending waiting writes → is_some waiting ≡ false
    → next ≡ fold added_to shown pending → left ≡ [] → IsPress book next left waiting writes × (next.mark.log ≡ writes)
shown_all book shown next pending left None writes i none is gone =
    let e : next ≡ copy_of book writes = is ∙ i.all in
    let log : next.mark.log ≡ writes = ap (λ (c : Copied). c.mark.log) e in (
      record {
        shown_is = e ∙ ap (copy_of book) (sym log);
        below = subst (λ (l : List Write). IsPrefix l writes) (sym log) (prefix_self writes);
        all = rw gone e;
      },
      log,
    )
shown_all book shown next pending left (Some addition) writes i none is gone = absurd cc

-- What holds after a call that succeeds.
pub of_ok : {A E : Type 0} (P Q : Type 0) (result : Result A E) → IsOk result
    → MatchResult result (λ _. P) (λ _. Q) → P
of_ok P Q (Ok value) is holds = holds
of_ok P Q (Err error) is holds = absurd cc
