-- The offers of a `fire`, one by one.
use Rattle.std.proofs.Common.{◌≡◌, ◌≢◌, ℕ, zero, suc, ◌+◌, ◌<◌, ◌≤◌, ◌==◌, ◌&&◌, Bool, true, false, cond, List, [], ◌∷◌}
use Rattle.std.proofs.Common.{◌++◌, Option, Some, None, is_some, map, fold, filter, ⊎_elim, refl, sym, ap, ◌∙◌, arith}
use Rattle.std.specs.List.{range_with_len}
use Rattle.std.specs.Option.{option_map_or}
use Rattle.std.proofs.lemmas.Bool.{eq-eqb, ne_eqb, cases_eq}
use Rattle.std.proofs.lemmas.List.{map-append}
use Rattle.std.proofs.lemmas.List.Sums.{fold-append}
use Rattle.dt_chain.specs.Seats.{has}
use Rattle.dt_chain.specs.declared.seat.TheConstants.{SEATS}
use Rattle.dt_chain.specs.declared.seat_set.SeatSet.{SeatSet}
use Rattle.dt_machine.specs.Registry.{Contents}
use Rattle.dt_cred.specs.declared.firing.Firing.{Firing}
use Rattle.dt_world.specs.Replay.{Replayed, after_step_line, next_of, seats_due, firing_steps}
use Rattle.dt_world.specs.StepLine.{look_line, fire_line}
use Rattle.dt_steps.specs.Steps.{looks, offers, after_step, offering, looking}

-- the seats of a set, in rising order
unfoldable pub in_order : SeatSet → List ℕ
in_order seats = filter (has seats) (range_with_len 0 SEATS)

-- where two tests agree from a number on, they find the same
filter_same : (p q : ℕ → Bool) (a n : ℕ) → ((s : ℕ) → a ≤ s → q s ≡ p s)
    → filter p (range_with_len a n) ≡ filter q (range_with_len a n)
filter_same p q a zero h = refl
filter_same p q a (suc n) h =
    let more = filter_same p q (a + 1) n (λ s low. h s (omega (arith, low))) in
    let here : q a ≡ p a = h a (omega arith) in
    rw (here, more) refl

-- the first that a test finds, and what it finds without it
filter_first : (p q : ℕ → Bool) (seat a n : ℕ) → a ≤ seat → seat < a + n → p seat ≡ true
    → ((s : ℕ) → s < seat → p s ≡ false) → ((s : ℕ) → q s ≡ cond (s == seat) false (p s))
    → filter p (range_with_len a n) ≡ seat ∷ filter q (range_with_len a n)
filter_first p q seat a zero low high is before without = absurd (omega (arith, low, high))
filter_first p q seat a (suc n) low high is before without =
    ⊎_elim
    (λ (e : a ≡ seat).
    let gone : q a ≡ false = without a ∙ ap (λ b. cond b false (p a)) (eq-eqb a seat e) in
    let there : p a ≡ true = ap p e ∙ is in
    let more : filter p (range_with_len (a + 1) n) ≡ filter q (range_with_len (a + 1) n) =
    filter_same p q (a + 1) n
    (λ s up. without s ∙ ap (λ b. cond b false (p s)) (ne_eqb s seat (λ same. omega (arith, same, up, e)))) in
    rw (there, gone) (ap (λ n_. n_ ∷ filter p (range_with_len (a + 1) n)) e ∙ ap (λ rest. seat ∷ rest) more))
    (λ (apart : a ≢ seat).
    let below : a < seat = omega (arith, low, apart) in
    let none : p a ≡ false = before a below in
    let too : q a ≡ false = without a ∙ ap (λ b. cond b false (p a)) (ne_eqb a seat apart) ∙ none in
    rw (none, too) (filter_first p q seat (a + 1) n (omega (arith, below)) (omega (arith, high)) is before without))
    (cases_eq a seat)

none_filtered : (p : ℕ → Bool) (xs : List ℕ) → ((s : ℕ) → p s ≡ false) → filter p xs ≡ []
none_filtered p [] h = refl
none_filtered p (x ∷ xs) h = rw (h x) (none_filtered p xs h)

pub order_first : (seats left : SeatSet) (seat : ℕ) → seat < SEATS → has seats seat ≡ true
    → ((s : ℕ) → s < seat → has seats s ≡ false)
    → ((s : ℕ) → has left s ≡ cond (s == seat) false (has seats s))
    → in_order seats ≡ seat ∷ in_order left
unfolding in_order
order_first seats left seat low is before without =
    filter_first (has seats) (has left) seat 0 SEATS (omega arith) (omega (arith, low)) is before without

pub order_none : (seats : SeatSet) → ((seat : ℕ) → has seats seat ≡ false) → in_order seats ≡ []
unfolding in_order
order_none seats h = none_filtered (has seats) (range_with_len 0 SEATS) h

-- where a replay stands after a look and offers to some seats
abbrev pub offered_to : Contents → Replayed → (cpu : ℕ) → List ℕ → Replayed
offered_to contents now cpu seats =
    let looked = after_step_line contents now (look_line cpu) in record {
      world = fold (after_step contents.registry) looked.world (map (offers cpu) seats);
      taken = looked.taken;
    }

pub one_more_offer : (contents : Contents) (now : Replayed) (cpu : ℕ) (seats : List ℕ) (seat : ℕ)
    → (offered_to contents now cpu (seats ++ seat ∷ [])).world
    ≡ offering (offered_to contents now cpu seats).world cpu seat
one_more_offer contents now cpu seats seat =
    let looked = (after_step_line contents now (look_line cpu)).world in
    ap (fold (after_step contents.registry) looked) (map-append (offers cpu) seats (seat ∷ []))
    ∙ fold-append (after_step contents.registry) looked (map (offers cpu) seats) (offers cpu seat ∷ [])

module _ (contents : Contents) (now : Replayed) (cpu : ℕ) where
  abbrev taken_at : Option Firing → ℕ → ℕ
  taken_at o = λ other. cond (is_some o && other == cpu) (now.taken other + 1) (now.taken other)

  abbrev looked_at : Option Firing → Replayed
  looked_at o = record {
    world = fold (after_step contents.registry) now.world (option_map_or (λ firing. looks cpu firing ∷ []) o []);
    taken = taken_at o;
  }

  abbrev fired_at : Option Firing → Replayed
  fired_at o = record {
    world = fold (after_step contents.registry) now.world
        (option_map_or (firing_steps contents.registry now.world cpu) o []);
    taken = taken_at o;
  }

  abbrev offers_at : Option Firing → Replayed
  offers_at o = record {
    world = fold (after_step contents.registry) (looked_at o).world
        (map (offers cpu) (seats_due (looked_at o).world cpu));
    taken = taken_at o;
  }

  all_at : (o : Option Firing) (firing : Firing) → o ≡ Some firing → fired_at o ≡ offers_at o
  all_at None firing e = cc
  all_at (Some f) firing e = refl

  -- a `fire` that took a firing is its look, and then its offers
  pub fired_all : (firing : Firing) → next_of contents now cpu ≡ Some firing
      → after_step_line contents now (fire_line cpu)
      ≡ offered_to contents now cpu (seats_due (after_step_line contents now (look_line cpu)).world cpu)
  fired_all firing is = all_at (next_of contents now cpu) firing is

  pub fired_none : next_of contents now cpu ≡ None
      → after_step_line contents now (fire_line cpu) ≡ after_step_line contents now (look_line cpu)
  fired_none is = rw is refl

  -- a look names the seats to which offers are due
  pub order_due : (firing : Firing) (seats : SeatSet) → next_of contents now cpu ≡ Some firing
      → ((seat : ℕ) → has seats seat ≡ is_some ((looking contents.registry now.world cpu firing).due cpu seat))
      → in_order seats ≡ seats_due (after_step_line contents now (look_line cpu)).world cpu
  unfolding in_order seats_due
  order_due firing seats is h =
      rw is (filter_same (has seats)
      (λ s. is_some ((looking contents.registry now.world cpu firing).due cpu s)) 0 SEATS (λ s _. sym (h s)))
