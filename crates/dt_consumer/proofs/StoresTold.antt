-- What `agg` and `status` tell of the stores.
use Rattle.std.proofs.Common.{◌≡◌, ℕ, Bool, true, false, List, [], ◌∷◌, ◌++◌, length, Option, Some, None, map}
use Rattle.std.proofs.Common.{append_assoc, replicate, refl, sym, ap, ◌∙◌, arith}
use Rattle.std.specs.List.{AllByRecursion, AllZip, flat_map, range_with_len}
use Rattle.std.specs.Option.{option_map, option_to_list}
use Rattle.std.specs.Vec.{vec_len}
use Rattle.std.proofs.lemmas.List.{append-nil}
use Rattle.dt_aggfn.specs.Answers.{answer_of_bag}
use Rattle.dt_aggstore.specs.Chosen.{choice_of, drops, gives_value}
use Rattle.dt_aggstore.specs.Held.{Contribution, counted, distinct, held_after}
use Rattle.dt_aggstore.specs.Table.{joined_bag}
use Rattle.dt_aggstore.specs.TableOf.{rising_keys, table_of}
use Rattle.dt_aggstore.specs.History as store
use Rattle.dt_aggstore.specs.IsAt.{IsAt}
use Rattle.dt_aggstore.specs.declared.key.Aggregation.{Aggregation}
use Rattle.dt_cred.specs.declared.account.Account.{Account}
use Rattle.dt_ecb.specs.Shapes.{ShapeForm}
use Rattle.dt_machine.specs.Registry.{Registry}
use Rattle.dt_life.specs.Aggregations.{aggregation_of}
use Rattle.dt_consumer.specs.Keeps.{IsTracing, is_quiet}
use Rattle.dt_life.specs.Life.{Item, SetUp, set_up, shapes_in, tracing_steps}
use Rattle.dt_life.specs.Reply.{all_aggdrops}
use Rattle.dt_life.specs.Stores.{aggdrops_in, given_by_steps, given_in, stores_in}
use Rattle.dt_life.specs.TracingSteps.{TracingStep, takes, reads, truncates}
use Rattle.dt_consumer.specs.declared.tracing.Tracing.{Tracing}
use Rattle.dt_life.specs.laws.Stores.{are_zipped}
use Rattle.dt_life.specs.laws.Lists.{all_zero}
use Rattle.dt_consumer.proofs.Idle.{AreIdle, quiet_steps}

-- as many stores as processors
all_stores : (account : Account) (registry : Registry) (s : SetUp) (t : Tracing) → IsTracing account registry s t
    → length t.processors.stores.items ≡ registry.cpus
all_stores account registry s t is = omega (arith, t.processors.each, is.all_processors)

as_many : (account : Account) (registry : Registry) (s : SetUp) (t : Tracing) → IsTracing account registry s t
    → vec_len t.processors.stores ≡ registry.cpus
as_many account registry s t is = omega (arith, t.processors.each, is.all_processors)

-- the stores of a consumer that traces are at the ends of their pasts
pub stores_told : (account : Account) (registry : Registry) (s : SetUp) (t : Tracing) → IsTracing account registry s t
    → AllZip IsAt (stores_in account registry s) t.processors.stores.items
stores_told account registry s t is =
    are_zipped (given_in account registry s) t.processors.stores.items registry.cpus
    (all_stores account registry s t is) is.processors.stores

pub aggdrops_told : (account : Account) (registry : Registry) (life : List Item) (t : Tracing)
    → IsTracing account registry (set_up account registry life) t
    → map (λ cpu. drops (given_in account registry (set_up account registry life) cpu))
    (range_with_len 0 (vec_len t.processors.stores)) ≡ all_aggdrops account registry life
aggdrops_told account registry life t is =
    ap (λ n. map (aggdrops_in account registry (set_up account registry life)) (range_with_len 0 n))
    (as_many account registry (set_up account registry life) t is)

-- where a consumer never traced, nothing was given
module _ (fresh : (size : ℕ) → drops (store.new_past size) ≡ 0)
    (cut : (past : store.Past) (a : Aggregation) → drops (store.after past (store.truncated a)) ≡ drops past) where
  one_cut : (size : ℕ) (events : List store.Event) (o : Option Aggregation)
      → drops (record { size = size; events = events ++ option_to_list (option_map store.truncated o) })
      ≡ drops (record { size = size; events = events })
  one_cut size events None = ap (λ es. drops (record { size = size; events = es })) (append-nil events)
  one_cut size events (Some a) = cut (record { size = size; events = events }) a

  none_given : (shapes : List ShapeForm) (cpu size : ℕ) (steps : List TracingStep) (before : List store.Event)
      → AreIdle steps → drops (record { size = size; events = before }) ≡ 0
      → drops (record { size = size; events = before ++ given_by_steps shapes cpu steps }) ≡ 0
  none_given shapes cpu size [] before h e = ap (λ es. drops (record { size = size; events = es })) (append-nil before) ∙ e
  none_given shapes cpu size (takes t ∷ steps) before h e = absurd h.0
  none_given shapes cpu size (reads n ∷ steps) before h e = none_given shapes cpu size steps before h.1 e
  none_given shapes cpu size (truncates name ∷ steps) before h e =
      ap (λ es. drops (record { size = size; events = es }))
      (sym (append_assoc before (option_to_list (option_map store.truncated (aggregation_of shapes name)))
      (given_by_steps shapes cpu steps)))
      ∙ none_given shapes cpu size steps
      (before ++ option_to_list (option_map store.truncated (aggregation_of shapes name))) h.1
      (one_cut size before (aggregation_of shapes name) ∙ e)

  pub no_aggdrops : (account : Account) (registry : Registry) (life : List Item)
      → is_quiet (set_up account registry life).since ≡ true
      → replicate registry.cpus 0 ≡ all_aggdrops account registry life
  no_aggdrops account registry life quiet =
      let s = set_up account registry life in
      sym (all_zero (aggdrops_in account registry s) registry.cpus 0
      (λ cpu. none_given (shapes_in s) cpu s.options.aggsize (tracing_steps account registry s) []
      (quiet_steps account registry s quiet) (fresh s.options.aggsize)))

-- nothing is held where nothing was given
abbrev gives_none : List store.Event → Type 0
gives_none = AllByRecursion (λ event. gives_value event ≡ false)

none_counted : (events : List store.Event) (chosen : List Bool) → gives_none events → counted events chosen ≡ []
none_counted [] chosen none = refl
none_counted (store.given aggregation key value ∷ later) chosen none = cc
none_counted (store.truncated aggregation ∷ later) [] none = refl
none_counted (store.truncated aggregation ∷ later) (c ∷ chosen) none = none_counted later chosen none.1

none_held : (events : List store.Event) (chosen : List Bool) → gives_none events → held_after events chosen ≡ []
none_held events chosen none = ap (λ cs. distinct (map (λ (c : Contribution). c.entry) cs))
    (none_counted events chosen none)

append_none : (a b : List store.Event) → gives_none a → gives_none b → gives_none (a ++ b)
append_none [] b h k = k
append_none (x ∷ a) b h k = (h.0, append_none a b h.1 k)

quiet_gives : (shapes : List ShapeForm) (cpu : ℕ) (steps : List TracingStep) → AreIdle steps
    → gives_none (given_by_steps shapes cpu steps)
quiet_gives shapes cpu [] h = tt
quiet_gives shapes cpu (takes t ∷ steps) h = absurd h.0
quiet_gives shapes cpu (reads n ∷ steps) h = quiet_gives shapes cpu steps h.1
quiet_gives shapes cpu (truncates name ∷ steps) h =
    append_none (option_to_list (option_map store.truncated (aggregation_of shapes name))) _
    (cut (aggregation_of shapes name)) (quiet_gives shapes cpu steps h.1)
  where
    cut : (o : Option Aggregation) → gives_none (option_to_list (option_map store.truncated o))
    cut None = tt
    cut (Some a) = (refl, tt)

-- the table of stores to which nothing was given
all_held : (f : ℕ → store.Past) (cpus : List ℕ) → ((cpu : ℕ) → gives_none (f cpu).events)
    → flat_map (λ (past : store.Past). held_after past.events (choice_of past)) (map f cpus) ≡ []
all_held f [] none = refl
all_held f (cpu ∷ cpus) none =
    ap (λ es. es ++ flat_map (λ (past : store.Past). held_after past.events (choice_of past)) (map f cpus))
    (none_held (f cpu).events (choice_of (f cpu)) (none cpu))
    ∙ all_held f cpus none

pub empty_table : (account : Account) (registry : Registry) (s : SetUp) (a : Aggregation)
    → is_quiet s.since ≡ true → [] ≡ table_of (stores_in account registry s) a
unfolding table_of
empty_table account registry s a quiet =
    let pasts = stores_in account registry s in
    sym (ap
    (λ es. map (λ key. record {
      key = key;
      value = answer_of_bag a.function (joined_bag a key pasts (map choice_of pasts));
    }) (rising_keys a es))
    (all_held (given_in account registry s) (range_with_len 0 registry.cpus)
    (λ cpu. quiet_gives (shapes_in s) cpu (tracing_steps account registry s) (quiet_steps account registry s quiet))))
