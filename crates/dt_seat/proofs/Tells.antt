-- What a processor keeps track of at a seat, once it was told of a session there.
use Rattle.std.proofs.Common.{◌≡◌, ◌≢◌, ◌<◌, ◌+◌, ◌==◌, ◌⊎◌, ℕ, Bool, true, false, cond, List, [], length, arith, refl, sym, ap, ◌∙◌, subst, Option, Some, None, inl, inr, ⊎_elim}
use Rattle.std.proofs.lemmas.Bool.{cases_eq}
use mathlib.Core.List.{IsPrefix}
use Rattle.std.specs.Prelude.{nat_lt}
use Rattle.dt_chain.specs.Writes.{Write, writes_of}
use Rattle.dt_cred.specs.declared.account.Account.{Account}
use Rattle.dt_facts.specs.Lives.{IsRowOfLife}
use Rattle.dt_facts.specs.declared.fact.LastNote.{LastNote}
use Rattle.dt_facts.specs.laws.Lives.{over_stays}
use Rattle.dt_legal.specs.Rows.{IsLegalRow}
use Rattle.dt_machine.specs.Registry.{Contents}
use Rattle.dt_meeting.specs.Keeping.{KeepsTrack}
use Rattle.dt_meeting.specs.laws.Announcing.{published_among_own, published_longer}
use Rattle.dt_meeting.specs.laws.Keeping.{keeps_known}
use Rattle.dt_seat.proofs.Holds.{go_published}
use Rattle.dt_seat.specs.Keeps.{Followed, Forgets, known_by, known_of, noted_in, noted_of, over_of}
use Rattle.dt_seat.specs.Publications.{IsPublished}
use Rattle.dt_seat.specs.Receipts.{HasHeard, Received}
use Rattle.dt_seat.specs.Tracked.{AreTracked, IsAllowed, IsToldLater, IsTracked}
use Rattle.dt_seat.specs.laws.Notes.{noted_within}
use Rattle.dt_seat.specs.laws.Tracked.{allowed_before, life_moved}
use Rattle.dt_trail.specs.Items.{StartsWith, TrailItem, longer, own}
use Rattle.dt_trail.specs.declared.law.Named.{Named}

-- the longer of two is one of them
longer_is : (xs ys : List TrailItem) → (longer xs ys ≡ xs) ⊎ (longer xs ys ≡ ys)
longer_is xs ys = by_test (nat_lt (length xs) (length ys))
  where
    by_test : (b : Bool) → (cond b ys xs ≡ xs) ⊎ (cond b ys xs ≡ ys)
    by_test true = inr refl
    by_test false = inl refl

-- a note whose own firings are the same has them of each life
noted_alike : (note life : ℕ) (took : Option LastNote) (knows more : List TrailItem) → own note more ≡ own note knows
    → own note (noted_in life took more) ≡ own note (noted_in life took knows)
noted_alike note life None knows more same = refl
noted_alike note life (Some last) knows more same = by_test (last.life == life)
  where
    by_test : (b : Bool) → own note (cond b more []) ≡ own note (cond b knows [])
    by_test true = same
    by_test false = refl

module _ (contents : Contents) (received : Received) (old new : Followed) (h : HasHeard received old new) (orderly : IsToldLater new)
    (seat : received.seat ≡ old.seat) (row : Named Account) (named : IsRowOfLife received.life row new.lives) (whose_is : received.account ≡ row.account)
    (legal : IsLegalRow received.account contents received.knows)
    (go : IsPublished contents received.seat received.life received.account received.knows received.published)
    (writes : List Write) (knew : ℕ → List ℕ) (begins : IsPrefix received.published writes) (tracked : AreTracked contents writes knew old) where
  noted_same : (l : ℕ) → own (old.cpu + 1) (noted_of l new) ≡ own (old.cpu + 1) (noted_of l old)
  noted_same l =
      ap (λ (t : Option LastNote). own (old.cpu + 1) (noted_in l t (known_by new.note))) h.took
      ∙ noted_alike (old.cpu + 1) l old.took (known_by old.note) (known_by new.note) h.own_same

  before : (l : ℕ) (account : Account) → IsAllowed l account new.lives → IsTracked contents writes old l account (knew l)
  before l account allowed = tracked.each l account (allowed_before l account old.lives new.lives h.lives allowed)

  moved : (l : ℕ) (account : Account) → IsAllowed l account new.lives → (l < over_of new) ⊎ (known_of l new ≡ known_of l old)
      → IsTracked contents writes new l account (knew l)
  moved l account allowed same =
      life_moved contents writes old new l account (knew l) h.seat h.cpu h.lives same (inr (noted_same l)) (before l account allowed)

  -- the account is the session's
  theirs : (account : Account) → IsAllowed received.life account new.lives → account ≡ received.account
  theirs account allowed = allowed row named ∙ sym whose_is

  learnt : (account : Account) → IsAllowed received.life account new.lives → known_of received.life new ≡ received.knows
      → StartsWith (known_of received.life new) (known_of received.life old) → IsTracked contents writes new received.life account (knew received.life)
  learnt account allowed is longer_than = by_life (before received.life account allowed)
    where
      by_life : IsTracked contents writes old received.life account (knew received.life) → IsTracked contents writes new received.life account (knew received.life)
      by_life (inl over) = life_moved contents writes old new received.life account (knew received.life) h.seat h.cpu h.lives
          (inl (over_later over)) (inr (noted_same received.life)) (inl over)
        where
          over_later : received.life < over_of old → received.life < over_of new
          over_later over = let more = over_stays old.lives new.lives h.lives in omega (arith, over, more)
      by_life (inr keeps) =
          let own_account = theirs account allowed in
          let begins_known = subst (λ (l : List TrailItem). StartsWith l (known_of received.life old)) is longer_than in
          let whole = subst (λ (a : Account). IsLegalRow a contents received.knows) (sym own_account) legal in
          let mine = own (old.cpu + 1) (noted_of received.life old) in
          let published_old = subst (λ (s : ℕ). IsPublished contents s received.life received.account received.knows received.published) seat go in
          let published_mine = subst (λ (a : Account). IsPublished contents old.seat received.life a received.knows received.published) (sym own_account) published_old in
          let there = published_among_own account contents old.seat received.life received.knows writes
          (published_longer account contents old.seat received.life received.knows received.published writes begins
          (go_published contents old.seat received.life account received.knows received.published published_mine)) in
          let more = keeps_known account contents old.cpu old.seat received.life (writes_of writes old.seat) (known_of received.life old) mine received.knows
          (knew received.life) begins_known (noted_within old.cpu received.life old) whole there keeps in
          let at_noted = subst (λ (m : List TrailItem). KeepsTrack account contents old.cpu received.life (writes_of writes old.seat) received.knows m (knew received.life))
          (sym (noted_same received.life)) more in
          let at_known = subst (λ (k : List TrailItem). KeepsTrack account contents old.cpu received.life (writes_of writes old.seat) k
          (own (old.cpu + 1) (noted_of received.life new)) (knew received.life)) (sym is) at_noted in
          let at_cpu = subst (λ (c : ℕ). KeepsTrack account contents c received.life (writes_of writes old.seat) (known_of received.life new)
          (own (c + 1) (noted_of received.life new)) (knew received.life)) (sym h.cpu) at_known in
          inr (subst (λ (s : ℕ). KeepsTrack account contents new.cpu received.life (writes_of writes s) (known_of received.life new)
          (own (new.cpu + 1) (noted_of received.life new)) (knew received.life)) (sym h.seat) at_cpu)

  this_life : (account : Account) → IsAllowed received.life account new.lives → IsTracked contents writes new received.life account (knew received.life)
  this_life account allowed = by_one h.one h.kept
    where
      by_one : (received.life < over_of new) ⊎ (known_of received.life new ≡ longer (known_of received.life old) received.knows)
          → (received.life < over_of new) ⊎ StartsWith (known_of received.life new) (known_of received.life old)
          → IsTracked contents writes new received.life account (knew received.life)
      by_one (inl over) kept = inl over
      by_one (inr one) (inl over) = inl over
      by_one (inr one) (inr kept) =
          ⊎_elim
          (λ (first : longer (known_of received.life old) received.knows ≡ known_of received.life old). moved received.life account allowed (inr (one ∙ first)))
          (λ (second : longer (known_of received.life old) received.knows ≡ received.knows). learnt account allowed (one ∙ second) kept)
          (longer_is (known_of received.life old) received.knows)

  pub tracked_heard : AreTracked contents writes knew new
  tracked_heard = record {
    orderly = orderly;
    each = λ l account allowed. ⊎_elim
        (λ (same : l ≡ received.life). subst (λ (k : ℕ). IsTracked contents writes new k account (knew k)) (sym same)
        (this_life account (subst (λ (k : ℕ). IsAllowed k account new.lives) same allowed)))
        (λ (apart : l ≢ received.life). moved l account allowed (h.same l apart))
        (cases_eq l received.life);
  }

-- and once it let go of a note there
pub tracked_forgotten : (contents : Contents) (old new : Followed) → Forgets old new → IsToldLater new → (writes : List Write) (knew : ℕ → List ℕ)
    → AreTracked contents writes knew old → AreTracked contents writes knew new
tracked_forgotten contents old new h orderly writes knew tracked = record {
  orderly = orderly;
  each = λ l account allowed.
      life_moved contents writes old new l account (knew l) h.seat h.cpu h.lives (h.same l)
      (⊎_elim (λ (over : l < over_of new). inl over) (λ (same : noted_of l new ≡ noted_of l old). inr (ap (own (old.cpu + 1)) same)) (h.noted l))
      (tracked.each l account (allowed_before l account old.lives new.lives h.lives allowed));
}
