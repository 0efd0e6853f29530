-- Where a processor's own firings stand in what it knows.
use Rattle.std.proofs.Common.{◌≡◌, ◌+◌, ◌==◌, ℕ, Bool, true, false, cond, List, [], ◌∷◌, ◌++◌, ap, sym, ◌∙◌, subst, ⊎_elim, arith, Option, Some, None}
use Rattle.std.specs.List.{AllByRecursion}
use Rattle.dt_cred.specs.declared.account.Account.{Account}
use Rattle.dt_cred.specs.declared.firing.Firing.{Firing}
use Rattle.dt_facts.specs.declared.fact.LastNote.{LastNote}
use Rattle.dt_hub.specs.Processors.{IsAtSeat}
use Rattle.dt_legal.specs.Rows.{AreBelowPlace, IsAtLowerPlace}
use Rattle.dt_machine.specs.Registry.{Contents}
use Rattle.dt_seat.specs.Keeps.{Carries, Followed, Forgets, known_by, noted_in, noted_of}
use Rattle.dt_seat.specs.Receipts.{HasHeard, Received}
use Rattle.dt_seat.specs.Seats.{ComesOfFiring, HasNote, kept_items}
use Rattle.dt_seat.specs.declared.held.Held.{Held}
use Rattle.dt_seat.specs.declared.held.Held.TheVariants.{Kept, Unseen, Gone}
use Rattle.dt_trail.specs.Items.{TrailItem, line, long_line, fired, own}
use Rattle.dt_trail.specs.Known.{Noted}
use Rattle.dt_seat.specs.laws.Notes.{noted_here}

all_both : {X : Type 0} (P : X → Type 0) (xs ys : List X) → AllByRecursion P xs → AllByRecursion P ys → AllByRecursion P (xs ++ ys)
all_both P [] ys h k = k
all_both P (x ∷ xs) ys h k = (h.0, all_both P xs ys h.1 k)

all_more : {X : Type 0} (P Q : X → Type 0) → ((x : X) → P x → Q x) → (xs : List X) → AllByRecursion P xs → AllByRecursion Q xs
all_more P Q f [] h = tt
all_more P Q f (x ∷ xs) h = (f x h.0, all_more P Q f xs h.1)

lower_next : (place : ℕ) (item : TrailItem) → IsAtLowerPlace place item → IsAtLowerPlace (place + 1) item
lower_next place (fired cpu earlier) h = omega (arith, h)
lower_next place (line bytes) h = tt
lower_next place long_line h = tt

-- what is below a place is below the next
below_next : (cpu place : ℕ) (row : List TrailItem) → AreBelowPlace cpu place row → AreBelowPlace cpu (place + 1) row
below_next cpu place row h =
    all_more (IsAtLowerPlace place) (IsAtLowerPlace (place + 1)) (lower_next place) (own (cpu + 1) row) h

-- what a processor has at a seat to which nothing came, at the next place
pub at_seat_next : (cpu place seat : ℕ) (f : Followed) → IsAtSeat cpu place seat f → IsAtSeat cpu (place + 1) seat f
at_seat_next cpu place seat f h = record { seat_is = h.seat_is; cpu_is = h.cpu_is; below = below_next cpu place (known_by f.note) h.below }

below_if : (cpu place : ℕ) (b : Bool) (knows : List TrailItem) → AreBelowPlace cpu place knows
    → AreBelowPlace cpu place (cond b knows [])
below_if cpu place true knows h = h
below_if cpu place false knows h = tt

below_in : (cpu place life : ℕ) (took : Option LastNote) (knows : List TrailItem) → AreBelowPlace cpu place knows
    → AreBelowPlace cpu place (noted_in life took knows)
below_in cpu place life None knows h = tt
below_in cpu place life (Some last) knows h = below_if cpu place (last.life == life) knows h

lower_kept : (firing : Firing) (held : Held) → AllByRecursion (IsAtLowerPlace (firing.place + 1)) (kept_items held firing)
lower_kept firing Kept = (omega arith, tt)
lower_kept firing (Unseen known) = tt
lower_kept firing Gone = tt

module _ (life : ℕ) (firing : Firing) (held : Held) (old new : Followed) (seat : ℕ)
    (own_is : own (firing.cpu + 1) (noted_of life new) ≡ own (firing.cpu + 1) (noted_of life old) ++ kept_items held firing)
    (h : IsAtSeat firing.cpu firing.place seat old) where
  below_noted : AreBelowPlace firing.cpu (firing.place + 1) (noted_of life new)
  below_noted =
      subst (AllByRecursion (IsAtLowerPlace (firing.place + 1))) (sym own_is)
      (all_both (IsAtLowerPlace (firing.place + 1)) (own (firing.cpu + 1) (noted_of life old)) (kept_items held firing)
      (below_next firing.cpu firing.place (noted_of life old) (below_in firing.cpu firing.place life old.took (known_by old.note) h.below))
      (lower_kept firing held))

  below_after : (note : Noted Account) → HasNote life new note → AreBelowPlace firing.cpu (firing.place + 1) (known_by new.note)
  below_after note has =
      subst (AreBelowPlace firing.cpu (firing.place + 1)) (noted_here life note.row new.took (known_by new.note) has.took) below_noted

-- after an offer what a processor has at a seat is that seat's, and its own firings stand below the next place
pub at_seat_after : (contents : Contents) (life : ℕ) (firing : Firing) (held : Held) (old new : Followed) (seat : ℕ)
    → ComesOfFiring contents life firing held old new
    → own (firing.cpu + 1) (noted_of life new) ≡ own (firing.cpu + 1) (noted_of life old) ++ kept_items held firing
    → IsAtSeat firing.cpu firing.place seat old → IsAtSeat firing.cpu (firing.place + 1) seat new
at_seat_after contents life firing Kept old new seat comes own_is h = record {
  seat_is = comes.0.seat ∙ h.seat_is;
  cpu_is = comes.0.cpu ∙ h.cpu_is;
  below = below_after life firing Kept old new seat own_is h comes.1.0 comes.1.2;
}
at_seat_after contents life firing (Unseen known) old new seat comes own_is h = record {
  seat_is = comes.0.seat ∙ h.seat_is;
  cpu_is = comes.0.cpu ∙ h.cpu_is;
  below = below_after life firing (Unseen known) old new seat own_is h comes.1.0 comes.1.1;
}
at_seat_after contents life firing Gone old new seat comes own_is h = record {
  seat_is = ap (λ (f : Followed). f.seat) comes.0 ∙ h.seat_is;
  cpu_is = ap (λ (f : Followed). f.cpu) comes.0 ∙ h.cpu_is;
  below = subst (λ (n : Option (Noted Account)). AreBelowPlace firing.cpu (firing.place + 1) (known_by n)) (sym (ap (λ (f : Followed). f.note) comes.0))
      (at_seat_next firing.cpu firing.place seat old h).below;
}

-- after a processor was told of a session there
pub at_seat_told : (cpu place seat : ℕ) (received : Received) (old new : Followed) → HasHeard received old new → IsAtSeat cpu place seat old
    → IsAtSeat cpu place seat new
at_seat_told cpu place seat received old new told h = record {
  seat_is = told.seat ∙ h.seat_is;
  cpu_is = told.cpu ∙ h.cpu_is;
  below = subst (AllByRecursion (IsAtLowerPlace place))
      (sym (subst (λ (c : ℕ). own (c + 1) (known_by new.note) ≡ own (c + 1) (known_by old.note)) h.cpu_is told.own_same)) h.below;
}

-- after a processor let go of its note there
pub at_seat_forgotten : (cpu place seat : ℕ) (old new : Followed) → Forgets old new → IsAtSeat cpu place seat old
    → IsAtSeat cpu place seat new
at_seat_forgotten cpu place seat old new forgotten h = record {
  seat_is = forgotten.seat ∙ h.seat_is;
  cpu_is = forgotten.cpu ∙ h.cpu_is;
  below = ⊎_elim (λ same. subst (λ note. AreBelowPlace cpu place (known_by note)) (sym same) h.below)
      (λ none. subst (λ note. AreBelowPlace cpu place (known_by note)) (sym none) tt) forgotten.note;
}

-- after it met a session there
pub at_seat_met : (cpu place seat life : ℕ) (old new : Followed) (knows : List TrailItem) → Carries old new life → known_by new.note ≡ knows
    → own (old.cpu + 1) knows ≡ own (old.cpu + 1) (noted_of life old) → IsAtSeat cpu place seat old → IsAtSeat cpu place seat new
at_seat_met cpu place seat life old new knows carries whole same h = record {
  seat_is = carries.seat ∙ h.seat_is;
  cpu_is = carries.cpu ∙ h.cpu_is;
  below = subst (λ (l : List TrailItem). AllByRecursion (IsAtLowerPlace place) (own (cpu + 1) l)) (sym whole)
      (subst (AllByRecursion (IsAtLowerPlace place))
      (sym (subst (λ (c : ℕ). own (c + 1) knows ≡ own (c + 1) (noted_of life old)) h.cpu_is same))
      (below_in cpu place life old.took (known_by old.note) h.below));
}
