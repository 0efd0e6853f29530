-- A session and a processor that meet.
use Rattle.std.proofs.Common.{◌≡◌, ◌≢◌, ◌<◌, ◌+◌, ℕ, List, sym, ap, ◌∙◌, subst, arith, inl, inr, ⊎_elim}
use Rattle.std.proofs.lemmas.Bool.{cases_eq}
use mathlib.Core.List.{IsPrefix}
use Rattle.dt_chain.specs.Writes.{Write, writes_of}
use Rattle.dt_cred.specs.declared.account.Account.{Account}
use Rattle.dt_facts.specs.Lives.{IsRowOfLife}
use Rattle.dt_facts.specs.laws.Lives.{one_row, over_stays}
use Rattle.dt_legal.specs.Rows.{IsLegalRow}
use Rattle.dt_machine.specs.Registry.{Contents}
use Rattle.dt_meeting.specs.Keeping.{KeepsTrack}
use Rattle.dt_meeting.specs.Order.{IsInOrder}
use Rattle.dt_meeting.specs.Sharing.{IsShared}
use Rattle.dt_meeting.specs.laws.Announcing.{published_among_own, published_longer}
use Rattle.dt_meeting.specs.laws.Keeping.{keeps_known, keeps_shared, keeps_writes}
use Rattle.dt_publisher.specs.laws.OwnWrites.{own_begin}
use Rattle.dt_seat.proofs.Holds.{go_published}
use Rattle.dt_seat.specs.Keeps.{Carries, Followed, known_of, noted_of, over_of}
use Rattle.dt_seat.specs.Publications.{IsPublished}
use Rattle.dt_seat.specs.Tracked.{AreTracked, IsAllowed, IsToldLater, IsTracked}
use Rattle.dt_seat.specs.laws.Notes.{noted_within}
use Rattle.dt_seat.specs.laws.Tracked.{allowed_before, life_moved, life_writes}
use Rattle.dt_trail.specs.Items.{StartsWith, TrailItem, own}
use Rattle.dt_trail.specs.declared.law.Named.{Named}

module _ (contents : Contents) (told further : List Write) (knew : ℕ → List ℕ) (old new : Followed) (life : ℕ) (row : Named Account)
    (carries : Carries old new life) (named : IsRowOfLife life row new.lives) (over_is : over_of new ≡ life) (trail : List TrailItem)
    (known : known_of life new ≡ trail) (noted : noted_of life new ≡ trail) (begins : StartsWith trail (known_of life old))
    (own_is : own (old.cpu + 1) trail ≡ own (old.cpu + 1) (noted_of life old)) (legal : IsLegalRow row.account contents trail)
    (h : AreTracked contents told knew old) where
  abbrev account : Account
  account = row.account

  abbrev mine : List TrailItem
  mine = own (old.cpu + 1) (noted_of life old)

  keeps : KeepsTrack account contents old.cpu life (writes_of told old.seat) (known_of life old) mine (knew life)
  keeps = elim (h.each life account allowed) [
    | inl over ↦ absurd (not_over over)
    | inr it ↦ it
  ]
    where
      allowed : IsAllowed life account old.lives
      allowed = allowed_before life account old.lives new.lives carries.lives
          (λ r is. ap (λ (n : Named Account). n.account) (one_row new.lives life row r named is))

      not_over : life < over_of old → ⊥
      not_over over = let more = over_stays old.lives new.lives carries.lives in omega (arith, over, more, over_is)

  -- under both locks its firings and the trail stand in one row
  pub meets_shared : (all : List Write) → IsPrefix (writes_of told old.seat) all → IsInOrder account contents life all trail
      → (shared : List TrailItem) × IsShared account contents old.cpu trail (knew life) shared
  meets_shared all whole order =
      keeps_shared account contents old.cpu life (writes_of told old.seat) all (known_of life old) mine trail (knew life) whole order begins
      (noted_within old.cpu life old) own_is legal keeps

  -- and it keeps track further, once it knows of the publication
  pub meets_tracked : (go : List Write) → IsPrefix told further → IsPrefix go further → IsPublished contents old.seat life account trail go → IsToldLater new
      → AreTracked contents further knew new
  meets_tracked go more go_told published_go orderly = record {
    orderly = orderly;
    each = λ l other allowed. ⊎_elim
        (λ (same : l ≡ life). subst (λ (k : ℕ). IsTracked contents further new k other (knew k)) (sym same)
        (this_life other (subst (λ (k : ℕ). IsAllowed k other new.lives) same allowed)))
        (λ (apart : l ≢ life). other_life l other apart allowed)
        (cases_eq l life);
  }
    where
      other_life : (l : ℕ) (other : Account) → l ≢ life → IsAllowed l other new.lives → IsTracked contents further new l other (knew l)
      other_life l other apart allowed =
          life_moved contents further old new l other (knew l) carries.seat carries.cpu carries.lives (carries.same l apart)
          (⊎_elim (λ (over : l < over_of new). inl over) (λ (same : noted_of l new ≡ noted_of l old). inr (ap (own (old.cpu + 1)) same)) (carries.noted l apart))
          (life_writes contents told further old l other (knew l) more
          (h.each l other (allowed_before l other old.lives new.lives carries.lives allowed)))

      this_life : (other : Account) → IsAllowed life other new.lives → IsTracked contents further new life other (knew life)
      this_life other allowed =
          let there = published_among_own account contents old.seat life trail further
          (published_longer account contents old.seat life trail go further go_told (go_published contents old.seat life account trail go published_go)) in
          let on = keeps_writes account contents old.cpu life (writes_of told old.seat) (writes_of further old.seat) (known_of life old) mine (knew life)
          (own_begin told further old.seat more) keeps in
          let whole = keeps_known account contents old.cpu old.seat life (writes_of further old.seat) (known_of life old) mine trail (knew life) begins
          (noted_within old.cpu life old) legal there on in
          let at_noted = subst (λ (m : List TrailItem). KeepsTrack account contents old.cpu life (writes_of further old.seat) trail m (knew life))
          (sym (ap (own (old.cpu + 1)) noted ∙ own_is)) whole in
          let at_known = subst (λ (k : List TrailItem). KeepsTrack account contents old.cpu life (writes_of further old.seat) k
          (own (old.cpu + 1) (noted_of life new)) (knew life)) (sym known) at_noted in
          let at_cpu = subst (λ (c : ℕ). KeepsTrack account contents c life (writes_of further old.seat) (known_of life new)
          (own (c + 1) (noted_of life new)) (knew life)) (sym carries.cpu) at_known in
          let at_seat = subst (λ (s : ℕ). KeepsTrack account contents new.cpu life (writes_of further s) (known_of life new)
          (own (new.cpu + 1) (noted_of life new)) (knew life)) (sym carries.seat) at_cpu in
          inr (subst (λ (a : Account). KeepsTrack a contents new.cpu life (writes_of further new.seat) (known_of life new)
          (own (new.cpu + 1) (noted_of life new)) (knew life)) (sym (allowed row named)) at_seat)
