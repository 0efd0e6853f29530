-- What a processor keeps track of at all seats, as it fires.
use Rattle.std.proofs.Common.{◌≡◌, ◌<◌, ◌==◌, ◌+◌, ℕ, Bool, true, false, cond, List, [], ◌∷◌, ◌++◌, length, eqb, refl, sym, ap, ◌∙◌, subst, arith, inl, inr, Option, Some, None}
use Rattle.std.proofs.lemmas.Bool.{cases_eq}
use Rattle.std.proofs.lemmas.Bool.Decides.{nat_tests}
use Rattle.std.proofs.lemmas.List.{length-append, length-map, map-append}
use Rattle.std.proofs.lemmas.Option.{slice_get-map}
use Rattle.std.specs.List.{slice_get, slice_set}
use Rattle.std.specs.Option.{IfNone, IfSome, option_map}
use mathlib.Core.List.{IsPrefix}
use Rattle.dt_chain.specs.Chains.{IsMaskAfter, Watched}
use Rattle.dt_chain.specs.Seats.{life_at}
use Rattle.dt_chain.specs.Writes.{Write}
use Rattle.dt_chain.specs.declared.seat_mask.SeatMask.{SeatMask}
use Rattle.dt_cred.specs.declared.firing.Firing.{Firing}
use Rattle.dt_facts.specs.declared.fact.Knew.{Knew}
use Rattle.dt_facts.specs.laws.Beginnings.{prefix_self}
use Rattle.dt_hub.proofs.Offers.{get_set_other, get_set_same}
use Rattle.dt_hub.specs.Firings.{Counts}
use Rattle.dt_hub.specs.Processors.{AreAtSeats, AreTrackedBy, IsAtSeat, count_in, counts_at, knew_at_seats, knew_of}
use Rattle.dt_life.specs.laws.Options.{if_some_map, some_of}
use Rattle.dt_machine.specs.Registry.{Contents, firing_at}
use Rattle.dt_seat.specs.Keeps.{Followed, known_of}
use Rattle.dt_seat.specs.Tracked.{AreTracked, count_of, counts_with, known_life}
use Rattle.dt_seat.specs.laws.Tracked.{counted, tracked_alike, tracked_passed, tracked_writes}

pub counts_length : (seat : ℕ) (log : List (List Knew)) (life : ℕ) → length (counts_at seat log life) ≡ length log
counts_length seat log life = length-map log (λ place. count_in life (slice_get place seat))

-- what a log says of a life at its last place is what was known there
count_last : (f : Followed) (life : ℕ) → count_in life (Some (knew_of f)) ≡ count_of f life
count_last f life = by_test (eqb (known_life f) life) refl
  where
    by_test : (b : Bool) → eqb (known_life f) life ≡ b → count_in life (Some (knew_of f)) ≡ count_of f life
    by_test true is =
        let same : known_life f ≡ life = grind (arith, nat_tests, is) in
        ap (λ (l : ℕ). cond (known_life f == life) (length (known_of l f)) 0) same
    by_test false is =
        ap (λ (b : Bool). cond b (length (known_of (known_life f) f)) 0) is
        ∙ sym (ap (λ (b : Bool). cond b (length (known_of life f)) 0) is)

-- so it counts what is known there, of each life that isn't over
pub counts_said : (contents : Contents) (writes : List Write) (log : List (List Knew)) (at_seats : List Followed) → AreTrackedBy contents writes log at_seats
    → (seat : ℕ) → IfSome (slice_get at_seats seat) (Counts (slice_get (knew_at_seats at_seats) seat))
counts_said contents writes log at_seats h seat = by_seat (slice_get at_seats seat) refl
  where
    by_seat : (o : Option Followed) → slice_get at_seats seat ≡ o → IfSome o (Counts (slice_get (knew_at_seats at_seats) seat))
    by_seat None there = tt
    by_seat (Some f) there = λ life.
        let tracked = some_of (slice_get at_seats seat) f (AreTracked contents writes (counts_at seat log)) there (h seat) in
        let noted : slice_get (knew_at_seats at_seats) seat ≡ Some (knew_of f) =
        slice_get-map knew_of at_seats seat ∙ ap (λ (o : Option Followed). option_map knew_of o) there in
        elim (counted f life tracked.orderly) [
          | inl over ↦ inl over
          | inr same ↦ inr (ap (count_in life) noted ∙ count_last f life ∙ same)
        ]

pub counts_more : (seat : ℕ) (log : List (List Knew)) (at_seats : List Followed) (f : Followed) → slice_get at_seats seat ≡ Some f
    → (life : ℕ) → counts_at seat (log ++ knew_at_seats at_seats ∷ []) life ≡ counts_with (counts_at seat log) f life
counts_more seat log at_seats f there life =
    map-append (λ place. count_in life (slice_get place seat)) log (knew_at_seats at_seats ∷ [])
    ∙ ap (λ (n : ℕ). counts_at seat log life ++ n ∷ [])
    (ap (count_in life) (slice_get-map knew_of at_seats seat) ∙ ap (λ (o : Option Followed). count_in life (option_map knew_of o)) there ∙ count_last f life)

-- a log with one place more
pub log_longer : (log : List (List Knew)) (last : List Knew) (new : List (List Knew)) (place : ℕ) → new ≡ log ++ last ∷ [] → length log ≡ place
    → length new ≡ place + 1
log_longer log last new place is many = ap length is ∙ length-append log (last ∷ []) ∙ ap (λ (n : ℕ). n + 1) many

-- a reader that looked, or was refused, knows of no fewer writes
pub look_knows : {X : Type 0} (o : Option X) (old new : Watched) → IfSome o (λ _. IsPrefix old.told new.seen) → IfSome o (λ _. new.told ≡ new.seen)
    → IfNone o (new ≡ old) → IsPrefix old.told new.told
look_knows None old new told all none = subst (λ (w : Watched). IsPrefix old.told w.told) (sym none) (prefix_self old.told)
look_knows (Some x) old new told all none = subst (λ (l : List Write). IsPrefix old.told l) (sym all) told

module _ (contents : Contents) where
  -- more writes are known
  pub all_writes : (writes more : List Write) (log : List (List Knew)) (at_seats : List Followed) → IsPrefix writes more
      → AreTrackedBy contents writes log at_seats → AreTrackedBy contents more log at_seats
  all_writes writes more log at_seats begins h seat =
      if_some_map (AreTracked contents writes (counts_at seat log)) (AreTracked contents more (counts_at seat log)) (slice_get at_seats seat)
      (λ f. tracked_writes contents writes more (counts_at seat log) f begins) (h seat)

  -- one seat's is put in place of what was there
  pub all_but_one : (writes more : List Write) (log : List (List Knew)) (at_seats : List Followed) (s : ℕ) (new : Followed) → s < length at_seats
      → IsPrefix writes more → AreTracked contents more (counts_at s log) new → AreTrackedBy contents writes log at_seats
      → AreTrackedBy contents more log (slice_set at_seats s new)
  all_but_one writes more log at_seats s new small begins here h seat = elim (cases_eq seat s) [
    | inl e ↦ subst (λ (k : ℕ). IfSome (slice_get (slice_set at_seats s new) k) (AreTracked contents more (counts_at k log))) (sym e)
        (subst (λ (o : Option Followed). IfSome o (AreTracked contents more (counts_at s log))) (sym (get_set_same at_seats s new small)) here)
    | inr ne ↦ subst (λ (o : Option Followed). IfSome o (AreTracked contents more (counts_at seat log))) (sym (get_set_other at_seats s seat new ne))
        (all_writes writes more log at_seats begins h seat)
  ]

  module _ (seen : List Write) (firing : Firing) (mask : SeatMask) (start : List Followed) (log : List (List Knew))
      (found : firing_at contents.scripts firing.cpu firing.place ≡ Some firing) (look : IsMaskAfter contents.registry seen firing mask)
      (places : length log ≡ firing.place) (begun : AreAtSeats firing.cpu firing.place start) (h : AreTrackedBy contents seen log start) where
    abbrev after : List (List Knew)
    after = log ++ knew_at_seats start ∷ []

    of_length : (seat life : ℕ) → length (counts_at seat log life) ≡ firing.place
    of_length seat life = counts_length seat log life ∙ places

    -- at a seat that isn't named
    pub passed_at : (told : List Write) → IsPrefix seen told → (seat : ℕ) → life_at mask seat ≡ None
        → IfSome (slice_get start seat) (AreTracked contents told (counts_at seat after))
    passed_at told further seat unnamed = by_seat (slice_get start seat) refl
      where
        by_seat : (o : Option Followed) → slice_get start seat ≡ o → IfSome o (AreTracked contents told (counts_at seat after))
        by_seat None e = tt
        by_seat (Some f) e =
            let at = some_of (slice_get start seat) f (IsAtSeat firing.cpu firing.place seat) e (begun.each seat) in
            let tracked = some_of (slice_get start seat) f (AreTracked contents seen (counts_at seat log)) e (h seat) in
            let mine = subst (λ (c : ℕ). firing_at contents.scripts c firing.place ≡ Some firing) (sym at.cpu_is) found in
            let passed = tracked_passed contents seen firing mask firing.place (counts_at seat log) f mine look (of_length seat) tracked
            (ap (life_at mask) at.seat_is ∙ unnamed) in
            tracked_alike contents told (counts_with (counts_at seat log) f) (counts_at seat after) f (counts_more seat log start f e)
            (tracked_writes contents seen told (counts_with (counts_at seat log) f) f further passed)

    -- before any seat was offered the firing, and at a named seat once it was
    pub offered_at_seat : (told : List Write) (seat : ℕ) (f new : Followed) → slice_get start seat ≡ Some f
        → (((knew : ℕ → List ℕ) → ((l : ℕ) → length (knew l) ≡ firing.place) → AreTracked contents seen knew f
        → AreTracked contents told (counts_with knew f) new))
        → AreTracked contents told (counts_at seat after) new
    offered_at_seat told seat f new e offered =
        tracked_alike contents told (counts_with (counts_at seat log) f) (counts_at seat after) new (counts_more seat log start f e)
        (offered (counts_at seat log) (of_length seat) (some_of (slice_get start seat) f (AreTracked contents seen (counts_at seat log)) e (h seat)))
