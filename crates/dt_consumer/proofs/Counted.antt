-- How much a consumer that traces counts at most.
use Rattle.std.proofs.Common.{◌≡◌, ℕ, ℤ, ◌+◌, ◌*◌, ◌-◌, ◌≤◌, ◌==◌, Bool, true, false, cond, List, Option, Some, None}
use Rattle.std.proofs.Common.{subst, arith}
use Rattle.std.specs.List.{All}
use Rattle.std.specs.Option.{option_map, option_or}
use Rattle.std.proofs.lemmas.Bool.{eqb-false}
use Rattle.dt_aggstore.specs.declared.limits.TheConstants.{ADDED_LIMIT}
use Rattle.dt_aggstore.specs.declared.store.AggStore.{AggStore}
use Rattle.dt_buffer.specs.declared.limits.TheConstants.{DROPS_LIMIT}
use Rattle.dt_consumer.specs.Counts.{AtMost, COMES_MAX, FailsAtMost, GIVES_MAX, must_be_left, own_firings}
use Rattle.dt_life.specs.Uses.{GivenAtMost}
use Rattle.dt_life.specs.declared.limits.TheConstants.{HISTORY_MAX}
use Rattle.dt_consumer.specs.declared.course.Course.{Course}
use Rattle.dt_consumer.specs.declared.course.Course.TheVariants.{Running}
use Rattle.dt_life.specs.declared.phase.End.TheVariants.{Exit, History}
use Rattle.dt_consumer.specs.declared.processor.Processor.{Processor}
use Rattle.dt_consumer.specs.declared.processors.Processors.{Processors}
use Rattle.dt_consumer.proofs.Tallying.{at_most_more}

-- what is counted while tracing goes on
pub counted_on : (seen : ℕ) (ended : Course) (all : List Processor) → ended ≡ Running
    → All (AtMost (COMES_MAX * (seen + own_firings ended))) all → All (AtMost (COMES_MAX * (seen + 1))) all
counted_on seen ended all e h = subst (λ x. All (AtMost (COMES_MAX * (seen + own_firings x))) all) e h

pub left_on : (seen history : ℕ) (ended : Course) → ended ≡ Running → seen + must_be_left ended ≤ history
    → seen + 1 ≤ history
left_on seen history ended e h = subst (λ x. seen + must_be_left x ≤ history) e h

-- one firing more
pub one_more : (seen : ℕ) (all : List Processor) → All (AtMost (COMES_MAX * (seen + 1) + COMES_MAX)) all
    → All (AtMost (COMES_MAX * (seen + 2))) all
one_more seen all h = at_most_more _ (COMES_MAX * (seen + 2)) all (omega arith) h

pub below_limit : (seen history : ℕ) (all : List Processor) → seen + 1 ≤ history → history ≤ HISTORY_MAX
    → All (AtMost (COMES_MAX * (seen + 2))) all → All (AtMost (DROPS_LIMIT - COMES_MAX)) all
below_limit seen history all left few h = at_most_more _ (DROPS_LIMIT - COMES_MAX) all (omega arith) h

-- the same of the variables and the speculations
pub fails_more : (n m : ℕ) (processors : Processors) → n ≤ m → FailsAtMost n processors → FailsAtMost m processors
fails_more n m processors few h = (omega (arith, h.0), omega (arith, h.1))

pub failed_on : (seen : ℕ) (ended : Course) (processors : Processors) → ended ≡ Running
    → FailsAtMost (COMES_MAX * (seen + own_firings ended)) processors → FailsAtMost (COMES_MAX * (seen + 1)) processors
failed_on seen ended processors e h = subst (λ x. FailsAtMost (COMES_MAX * (seen + own_firings x)) processors) e h

pub failed_more : (seen : ℕ) (processors : Processors) → FailsAtMost (COMES_MAX * (seen + 1) + COMES_MAX) processors
    → FailsAtMost (COMES_MAX * (seen + 2)) processors
failed_more seen processors h = fails_more _ (COMES_MAX * (seen + 2)) processors (omega arith) h

pub failed_below : (seen history : ℕ) (processors : Processors) → seen + 1 ≤ history → history ≤ HISTORY_MAX
    → FailsAtMost (COMES_MAX * (seen + 2)) processors → FailsAtMost (DROPS_LIMIT - COMES_MAX) processors
failed_below seen history processors left few h = fails_more _ (DROPS_LIMIT - COMES_MAX) processors (omega arith) h

none_second : (exit : Option ℤ) (b : Bool) → None ≡ option_or (option_map Exit exit) (cond b (Some History) None)
    → b ≡ false
none_second None true e = cc
none_second None false e = λ i. false
none_second (Some status) b e = cc

-- a firing that is not the last leaves one
pub one_left : (exit : Option ℤ) (seen history : ℕ) → seen + 1 ≤ history
    → None ≡ option_or (option_map Exit exit) (cond (seen + 1 == history) (Some History) None)
    → (seen + 1) + 1 ≤ history
one_left exit seen history h e = omega (arith, eqb-false (seen + 1) history (none_second exit (seen + 1 == history) e))

-- the same of what stores count
pub none_more : (n m : ℕ) (stores : List AggStore) → n ≤ m → All (GivenAtMost n) stores → All (GivenAtMost m) stores
none_more n m stores few h = λ k d inside. omega (arith, h k d inside)

pub given_on : (seen : ℕ) (ended : Course) (stores : List AggStore) → ended ≡ Running
    → All (GivenAtMost (GIVES_MAX * (seen + own_firings ended))) stores
    → All (GivenAtMost (GIVES_MAX * (seen + 1))) stores
given_on seen ended stores e h =
    subst (λ x. All (GivenAtMost (GIVES_MAX * (seen + own_firings x))) stores) e h

pub given_more : (seen : ℕ) (stores : List AggStore) → All (GivenAtMost (GIVES_MAX * (seen + 1) + GIVES_MAX)) stores
    → All (GivenAtMost (GIVES_MAX * (seen + 2))) stores
given_more seen stores h = none_more _ (GIVES_MAX * (seen + 2)) stores (omega arith) h

pub given_below : (seen history : ℕ) (stores : List AggStore) → seen + 1 ≤ history → history ≤ HISTORY_MAX
    → All (GivenAtMost (GIVES_MAX * (seen + 2))) stores → All (GivenAtMost (ADDED_LIMIT - GIVES_MAX)) stores
given_below seen history stores left few h = none_more _ (ADDED_LIMIT - GIVES_MAX) stores (omega arith) h
