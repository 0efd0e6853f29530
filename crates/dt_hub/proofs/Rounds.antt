-- How far a firing was offered, as it is offered to one seat after the other.
use Rattle.std.proofs.Common.{◌≡◌, ◌≢◌, ◌<◌, ◌≤◌, ◌+◌, ◌==◌, ◌||◌, ◌++◌, ◌∷◌, ℕ, Bool, true, false, true≢false, List, [], length, refl, sym, ap, ◌∙◌, subst, arith, inl, inr, eq-eqb, ne_eqb, Option, Some, None, if◌then◌else◌}
use Rattle.std.proofs.lemmas.Bool.{cases_eq, cases_lt}
use Rattle.std.proofs.lemmas.List.{length-set}
use Rattle.std.specs.List.{slice_get, slice_set}
use Rattle.std.specs.Option.{IfSome, is_some}
use mathlib.Core.List.{IsPrefix}
use Rattle.dt_chain.specs.Chains.{IsMaskAfter}
use Rattle.dt_chain.specs.Limits.{seat_count}
use Rattle.dt_chain.specs.Seats.{life_at}
use Rattle.dt_chain.specs.Writes.{Write}
use Rattle.dt_chain.specs.declared.seat_mask.SeatMask.{SeatMask}
use Rattle.dt_cred.specs.declared.firing.Firing.{Firing}
use Rattle.dt_hub.proofs.Offers.{get_set_other, get_set_same}
use Rattle.dt_hub.proofs.Places.{at_seat_after, at_seat_next}
use Rattle.dt_hub.proofs.Publications.{known_before, known_here, known_unnamed}
use Rattle.dt_hub.proofs.Tracks.{offered_at_seat, passed_at}
use Rattle.dt_hub.specs.Firings.{ComesToSeat, IsOffered, KnowsPublicationAt}
use Rattle.dt_hub.specs.Offering.{IsOfferedBut}
use Rattle.dt_hub.specs.Processors.{AreAtSeats, IsAtSeat, counts_at, knew_at_seats}
use Rattle.dt_life.specs.laws.Options.{if_some_map, match_none, match_some, some_of}
use Rattle.dt_machine.specs.Registry.{Contents, firing_at}
use Rattle.dt_seat.specs.Keeps.{Followed, noted_of}
use Rattle.dt_seat.specs.Seats.{ComesOfFiring, KnowsPublication, kept_items}
use Rattle.dt_seat.specs.Tracked.{AreTracked, counts_with}
use Rattle.dt_seat.specs.declared.held.Held.{Held}
use Rattle.dt_seat.specs.laws.Tracked.{tracked_writes}
use Rattle.dt_trail.specs.Items.{own}

none_there : (o : Option ℕ) → is_some o ≡ false → o ≡ None
none_there None h = refl
none_there (Some x) h = absurd (true≢false h)

or_false : (b : Bool) → b || false ≡ b
or_false true = refl
or_false false = refl

-- where none was missed, those that are left are still to come
pub none_missed : (one other : Option ℕ) (missed : Bool) → one ≡ other → missed ≡ false → is_some one || missed ≡ is_some other
none_missed one other missed same off =
    ap (λ (o : Option ℕ). is_some o || missed) same ∙ (ap (λ (b : Bool). is_some other || b) off ∙ or_false (is_some other))

module _ (left new : ℕ → Option ℕ) (missed : ℕ → Bool) (s : ℕ) (taken : (other : ℕ) → new other ≡ (if other == s then None else left other)) where
  new_none : (other : ℕ) → other ≡ s → new other ≡ None
  new_none other e = taken other ∙ ap (λ (b : Bool). if b then None else left other) (eq-eqb other s e)

  new_left : (other : ℕ) → other ≢ s → new other ≡ left other
  new_left other ne = taken other ∙ ap (λ (b : Bool). if b then None else left other) (ne_eqb other s ne)

  -- one that was left is taken out, and offered the firing
  pub left_taken : missed s ≡ false → (other : ℕ)
      → is_some (new other) || missed other ≡ (if other == s then false else (is_some (left other) || missed other))
  left_taken off other = elim (cases_eq other s) [
    | inl e ↦ ap (λ (o : Option ℕ). is_some o || missed other) (new_none other e) ∙ ((ap missed e ∙ off)
        ∙ sym (ap (λ (b : Bool). if b then false else (is_some (left other) || missed other)) (eq-eqb other s e)))
    | inr ne ↦ ap (λ (o : Option ℕ). is_some o || missed other) (new_left other ne)
        ∙ sym (ap (λ (b : Bool). if b then false else (is_some (left other) || missed other)) (ne_eqb other s ne))
  ]

  -- one that was left is missed, and is still to come
  pub left_missed : (later : ℕ → Bool) (life : ℕ) → left s ≡ Some life → ((other : ℕ) → later other ≡ (if other == s then true else missed other))
      → (other : ℕ) → is_some (new other) || later other ≡ is_some (left other) || missed other
  left_missed later life was_left more other = elim (cases_eq other s) [
    | inl e ↦ ap (λ (o : Option ℕ). is_some o || later other) (new_none other e)
        ∙ ((more other ∙ ap (λ (b : Bool). if b then true else missed other) (eq-eqb other s e))
        ∙ sym (ap (λ (o : Option ℕ). is_some o || missed other) (ap left e ∙ was_left)))
    | inr ne ↦ ap (λ (o : Option ℕ). is_some o || later other) (new_left other ne)
        ∙ ap (λ (b : Bool). is_some (left other) || b) (more other ∙ ap (λ (b : Bool). if b then true else missed other) (ne_eqb other s ne))
  ]

  -- below the next no seat is left
  pub none_below : ((seat : ℕ) → seat < s → left seat ≡ None) → (seat : ℕ) → seat < s + 1 → new seat ≡ None
  none_below below seat lt = elim (cases_eq seat s) [
    | inl e ↦ new_none seat e
    | inr ne ↦ new_left seat ne ∙ below seat (omega (arith, lt, ne))
  ]

  pub same_from : (at : ℕ → Option ℕ) (next : ℕ) → next ≤ s → ((seat : ℕ) → next ≤ seat → left seat ≡ at seat) → (seat : ℕ) → s + 1 ≤ seat
      → new seat ≡ at seat
  same_from at next early from seat le = new_left seat (λ e. absurd (omega (arith, le, e))) ∙ from seat (omega (arith, le, early))

-- from the next on none was missed
pub none_missed_from : (missed later : ℕ → Bool) (s : ℕ) → ((other : ℕ) → later other ≡ (if other == s then true else missed other)) → (seat : ℕ)
    → s + 1 ≤ seat → missed seat ≡ false → later seat ≡ false
none_missed_from missed later s more seat le off =
    more seat ∙ (ap (λ (b : Bool). if b then true else missed seat) (ne_eqb seat s (λ e. absurd (omega (arith, le, e)))) ∙ off)

-- below the next none is to come once that was taken out
pub none_to_come_below : (to_come new : ℕ → Bool) (s : ℕ) → ((other : ℕ) → new other ≡ (if other == s then false else to_come other))
    → ((seat : ℕ) → seat < s → to_come seat ≡ false) → (seat : ℕ) → seat < s + 1 → new seat ≡ false
none_to_come_below to_come new s taken before seat lt = elim (cases_eq seat s) [
  | inl e ↦ taken seat ∙ ap (λ (b : Bool). if b then false else to_come seat) (eq-eqb seat s e)
  | inr ne ↦ taken seat ∙ (ap (λ (b : Bool). if b then false else to_come seat) (ne_eqb seat s ne) ∙ before seat (omega (arith, lt, ne)))
]

-- the first that is left isn't done yet
pub first_from : (left : ℕ → Option ℕ) (next s life : ℕ) → left s ≡ Some life → ((seat : ℕ) → seat < next → left seat ≡ None) → next ≤ s
first_from left next s life was_left below = elim (cases_lt s next) [
  | inl lt ↦ absurd (cc (was_left, below s lt))
  | inr le ↦ le
]

module _ (contents : Contents) (firing : Firing) (mask : SeatMask) (seen : List Write) (first : List Followed) where
  -- nobody was offered it yet: all seats that are named are still to come
  pub offered_none : (held : List Held) (told : List Write) (to_come : ℕ → Bool) → firing_at contents.scripts firing.cpu firing.place ≡ Some firing
      → IsMaskAfter contents.registry seen firing mask → AreAtSeats firing.cpu firing.place first → length held ≡ seat_count → IsPrefix seen told
      → ((seat : ℕ) → to_come seat ≡ is_some (life_at mask seat)) → IsOfferedBut contents firing mask seen first to_come held first told
  offered_none held told to_come found look begun answers further same =
      let unnamed : (seat : ℕ) → to_come seat ≡ false → life_at mask seat ≡ None = λ seat off. none_there (life_at mask seat) (sym (same seat) ∙ off) in
      record {
        begun = begun;
        many = begun.many;
        answers = answers;
        named = λ seat up. sym (same seat) ∙ up;
        untouched = λ seat up. refl;
        each = λ seat off. match_none (life_at mask seat) (slice_get first seat ≡ slice_get first seat)
            (λ life. IsOffered contents firing life (slice_get held seat) (slice_get first seat) (slice_get first seat)) (unnamed seat off) refl;
        placed = λ seat off. if_some_map (IsAtSeat firing.cpu firing.place seat) (IsAtSeat firing.cpu (firing.place + 1) seat) (slice_get first seat)
            (at_seat_next firing.cpu firing.place seat) (begun.each seat);
        published = λ seat off. known_unnamed contents mask seat first told (unnamed seat off);
        tracked = λ log places h seat off.
            passed_at contents seen firing mask first log found look places begun h told further seat (unnamed seat off);
      }

  -- it is so whatever tells which are still to come
  pub offered_same : (to_come new : ℕ → Bool) (held : List Held) (now : List Followed) (told : List Write) → ((seat : ℕ) → new seat ≡ to_come seat)
      → IsOfferedBut contents firing mask seen first to_come held now told → IsOfferedBut contents firing mask seen first new held now told
  offered_same to_come new held now told same h = record {
    begun = h.begun;
    many = h.many;
    answers = h.answers;
    named = λ seat up. h.named seat (sym (same seat) ∙ up);
    untouched = λ seat up. h.untouched seat (sym (same seat) ∙ up);
    each = λ seat off. h.each seat (sym (same seat) ∙ off);
    placed = λ seat off. h.placed seat (sym (same seat) ∙ off);
    published = λ seat off. h.published seat (sym (same seat) ∙ off);
    tracked = λ log places at seat off. h.tracked log places at seat (sym (same seat) ∙ off);
  }

  -- where none is to come, what is had at all seats stands below the next place
  pub all_placed : (to_come : ℕ → Bool) (held : List Held) (now : List Followed) (told : List Write) → ((seat : ℕ) → to_come seat ≡ false)
      → IsOfferedBut contents firing mask seen first to_come held now told → AreAtSeats firing.cpu (firing.place + 1) now
  all_placed to_come held now told none h = record { many = h.many; each = λ seat. h.placed seat (none seat) }

  -- what is had at a seat that is still to come stands below this place
  pub at_first : (to_come : ℕ → Bool) (held : List Held) (now : List Followed) (told : List Write) (s : ℕ) (f : Followed)
      → IsOfferedBut contents firing mask seen first to_come held now told → to_come s ≡ true → slice_get now s ≡ Some f
      → IsAtSeat firing.cpu firing.place s f
  at_first to_come held now told s f h comes_now there =
      some_of (slice_get first s) f (IsAtSeat firing.cpu firing.place s) (sym (h.untouched s comes_now) ∙ there) (h.begun.each s)

  module _ (to_come new : ℕ → Bool) (held : List Held) (now : List Followed) (told more : List Write) (s life : ℕ)
      (h : IsOfferedBut contents firing mask seen first to_come held now told) (found : firing_at contents.scripts firing.cpu firing.place ≡ Some firing)
      (look : IsMaskAfter contents.registry seen firing mask) (small : s < seat_count) (named : life_at mask s ≡ Some life) (comes_now : to_come s ≡ true)
      (taken : (other : ℕ) → new other ≡ (if other == s then false else to_come other)) where
    new_other : (seat : ℕ) → seat ≢ s → new seat ≡ to_come seat
    new_other seat ne = taken seat ∙ ap (λ (b : Bool). if b then false else to_come seat) (ne_eqb seat s ne)

    new_same : new s ≡ false
    new_same = taken s ∙ ap (λ (b : Bool). if b then false else to_come s) (eq-eqb s s refl)

    another : (seat : ℕ) → new seat ≡ true → seat ≢ s
    another seat up e = true≢false (sym up ∙ ap new e ∙ new_same)

    still : (seat : ℕ) → new seat ≡ true → to_come seat ≡ true
    still seat up = sym (new_other seat (another seat up)) ∙ up

    before : (seat : ℕ) → seat ≢ s → new seat ≡ false → to_come seat ≡ false
    before seat ne off = sym (new_other seat ne) ∙ off

    -- one that was to come is offered it
    pub offered_more : (answer : Held) (f g : Followed) → slice_get now s ≡ Some f → ComesOfFiring contents life firing answer f g
        → own (firing.cpu + 1) (noted_of life g) ≡ own (firing.cpu + 1) (noted_of life f) ++ kept_items answer firing
        → KnowsPublication contents life g more
        → ((knew : ℕ → List ℕ) → ((l : ℕ) → length (knew l) ≡ firing.place) → AreTracked contents seen knew f → AreTracked contents more (counts_with knew f) g)
        → IsPrefix told more
        → IsOfferedBut contents firing mask seen first new (slice_set held s answer) (slice_set now s g) more
    offered_more answer f g there comes own_is knows tracks further =
        let here : slice_get (slice_set now s g) s ≡ Some g = get_set_same now s g (rw h.many small) in
        let is : slice_get first s ≡ Some f = sym (h.untouched s comes_now) ∙ there in
        record {
          begun = h.begun;
          many = length-set now s g ∙ h.many;
          answers = length-set held s answer ∙ h.answers;
          named = λ seat up. h.named seat (still seat up);
          untouched = λ seat up. get_set_other now s seat g (another seat up) ∙ h.untouched seat (still seat up);
          each = λ seat off. elim (cases_eq seat s) [
            | inl e ↦ subst (ComesToSeat contents firing mask (slice_set held s answer) first (slice_set now s g)) (sym e)
                (match_some (life_at mask s) (slice_get (slice_set now s g) s ≡ slice_get first s)
                (λ life. IsOffered contents firing life (slice_get (slice_set held s answer) s) (slice_get first s) (slice_get (slice_set now s g) s))
                life named
                (record {
                  answer = answer;
                  before = f;
                  after = g;
                  held_is = get_set_same held s answer (rw h.answers small);
                  old_is = is;
                  new_is = here;
                  comes = comes;
                  own_firings = own_is;
                }))
            | inr ne ↦ rw (get_set_other held s seat answer ne, get_set_other now s seat g ne) (h.each seat (before seat ne off))
          ];
          placed = λ seat off. elim (cases_eq seat s) [
            | inl e ↦ subst (λ (k : ℕ). IfSome (slice_get (slice_set now s g) k) (IsAtSeat firing.cpu (firing.place + 1) k)) (sym e)
                (subst (λ (o : Option Followed). IfSome o (IsAtSeat firing.cpu (firing.place + 1) s)) (sym here)
                (at_seat_after contents life firing answer f g s comes own_is (at_first to_come held now told s f h comes_now there)))
            | inr ne ↦ rw (get_set_other now s seat g ne) (h.placed seat (before seat ne off))
          ];
          published = λ seat off. elim (cases_eq seat s) [
            | inl e ↦ subst (KnowsPublicationAt contents mask (slice_set now s g) more) (sym e)
                (known_here contents mask s (slice_set now s g) more life g named here knows)
            | inr ne ↦ known_before contents mask seat now (slice_set now s g) told more (get_set_other now s seat g ne) further
                (h.published seat (before seat ne off))
          ];
          tracked = λ log places at seat off. elim (cases_eq seat s) [
            | inl e ↦ subst (λ (k : ℕ). IfSome (slice_get (slice_set now s g) k) (AreTracked contents more (counts_at k (log ++ knew_at_seats first ∷ [])))) (sym e)
                (subst (λ (o : Option Followed). IfSome o (AreTracked contents more (counts_at s (log ++ knew_at_seats first ∷ [])))) (sym here)
                (offered_at_seat contents seen firing mask first log found look places h.begun at more s f g is tracks))
            | inr ne ↦ subst (λ (o : Option Followed). IfSome o (AreTracked contents more (counts_at seat (log ++ knew_at_seats first ∷ []))))
                (sym (get_set_other now s seat g ne))
                (if_some_map (AreTracked contents told (counts_at seat (log ++ knew_at_seats first ∷ [])))
                (AreTracked contents more (counts_at seat (log ++ knew_at_seats first ∷ []))) (slice_get now seat)
                (λ f. tracked_writes contents told more (counts_at seat (log ++ knew_at_seats first ∷ [])) f further)
                (h.tracked log places at seat (before seat ne off)))
          ];
        }
