-- What is told of each processor.
use Rattle.std.proofs.Common.{◌≡◌, ℕ, zero, suc, ◌+◌, ◌<◌, List, ◌∷◌, Result, Ok, Err, filter, length, map, refl, ap, ◌∙◌, arith}
use Rattle.std.specs.List.{range_with_len}
use Rattle.std.specs.Result.{IfOk}
use Rattle.dt_aggstore.specs.Chosen.{drops}
use Rattle.dt_aggstore.specs.History as store
use Rattle.dt_cred.specs.declared.account.Account.{Account}
use Rattle.dt_machine.specs.Registry.{Registry}
use Rattle.dt_alone.specs.Happened.{counted_on, given_to, is_draw_failed}
use Rattle.dt_alone.specs.Runs.{Has, HasIn, all_counted}
use Rattle.dt_alone.specs.declared.happened.StatusCount.{StatusCount}
use Rattle.dt_alone.specs.declared.happened.StatusCount.TheVariants as counted
use Rattle.dt_alone.specs.declared.runner.Runner.{Runner}
use Rattle.dt_life.specs.Life.{Item, SetUp, set_up}
use Rattle.dt_life.specs.Options.{OptionsForm}
use Rattle.dt_life.specs.Stores.{given_in}
use Rattle.dt_life.specs.Variables.{specfails_in}
use Rattle.dt_life.specs.declared.phase.Phase.{Phase}

pub if_ok_both : {T E : Type 0} (P Q R : T → Type 0) (r : Result T E) → ((x : T) → P x → Q x → R x)
    → IfOk r P → IfOk r Q → IfOk r R
if_ok_both P Q R (Ok x) f h k = f x h k
if_ok_both P Q R (Err e) f h k = h

mapped_same : (f g : ℕ → ℕ) (from n : ℕ) → ((cpu : ℕ) → cpu < from + n → f cpu ≡ g cpu)
    → map f (range_with_len from n) ≡ map g (range_with_len from n)
mapped_same f g from zero same = refl
mapped_same f g from (suc n) same =
    ap (λ k. k ∷ map f (range_with_len (from + 1) n)) (same from (omega arith))
    ∙ ap (λ ks. g from ∷ ks) (mapped_same f g (from + 1) n (λ cpu inside. same cpu (omega (arith, inside))))

abbrev pub past_of : ℕ → List store.Event → store.Past
past_of size events = record { size = size; events = events }

module _ (account : Account) (registry : Registry) (s : SetUp) (phase : Phase) (r : Runner)
    (h : HasIn account registry s phase r) where
  -- the past of a processor's store
  pub given_is : (cpu : ℕ) → cpu < registry.cpus
      → past_of r.options.aggsize (given_to cpu r.since.items) ≡ given_in account registry s cpu
  given_is cpu inside =
      ap (λ n. past_of n (given_to cpu r.since.items)) (ap (λ (o : OptionsForm). o.aggsize) h.options)
      ∙ ap (λ t. past_of s.options.aggsize t.given) (h.brings cpu inside)

  pub all_drops : (n : ℕ) → n ≡ registry.cpus
      → map (λ cpu. drops (past_of r.options.aggsize (given_to cpu r.since.items)))
      (range_with_len 0 n)
      ≡ map (λ cpu. drops (given_in account registry s cpu)) (range_with_len 0 registry.cpus)
  all_drops n e =
      ap (λ k. map (λ cpu. drops (past_of r.options.aggsize (given_to cpu r.since.items))) (range_with_len 0 k)) e
      ∙ mapped_same (λ cpu. drops (past_of r.options.aggsize (given_to cpu r.since.items)))
      (λ cpu. drops (given_in account registry s cpu)) 0 registry.cpus
      (λ cpu inside. ap drops (given_is cpu (omega (arith, inside))))

  -- the draws that failed are told of each processor, of which there is one
  pub all_failed : 0 < registry.cpus → length (filter is_draw_failed r.since.items) ≡ specfails_in account registry s
  all_failed some = ap (λ t. t.draws_failed) (h.brings 0 some)

-- what is counted on each processor
pub all_counts : (account : Account) (registry : Registry) (life : List Item) (r : Runner)
    → Has account registry (set_up account registry life) r → (what : StatusCount) (n : ℕ) → n ≡ registry.cpus
    → map (λ cpu. counted_on what cpu r.since.items) (range_with_len 0 n) ≡ all_counted account registry life what
all_counts account registry life r h counted.Failed n e =
    ap (λ k. map (λ cpu. counted_on counted.Failed cpu r.since.items) (range_with_len 0 k)) e
    ∙ mapped_same _ _ 0 registry.cpus (λ cpu inside. ap (λ t. t.failures) (h.within.brings cpu (omega (arith, inside))))
all_counts account registry life r h counted.VariableDropped n e =
    ap (λ k. map (λ cpu. counted_on counted.VariableDropped cpu r.since.items) (range_with_len 0 k)) e
    ∙ mapped_same _ _ 0 registry.cpus (λ cpu inside. ap (λ t. t.variables_dropped) (h.within.brings cpu (omega (arith, inside))))
all_counts account registry life r h counted.RecordDropped n e =
    ap (λ k. map (λ cpu. counted_on counted.RecordDropped cpu r.since.items) (range_with_len 0 k)) e
    ∙ mapped_same _ _ 0 registry.cpus (λ cpu inside. ap (λ t. t.records_dropped) (h.within.brings cpu (omega (arith, inside))))
