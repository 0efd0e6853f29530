-- What a buffer shows where a consumer never traced: nothing.
use Rattle.std.proofs.Common.{◌≡◌, ℕ, ◌==◌, Bool, true, false, cond, List, [], ◌∷◌, ◌++◌, refl, sym, subst, ⊎_elim}
use Rattle.std.proofs.Common.{arith}
use Rattle.std.specs.List.{AllByRecursion}
use Rattle.dt_buffer.specs.Beginning.{ShowsFill, IsLongestBeginning}
use Rattle.dt_buffer.specs.Choice.{ShowsSwitch}
use Rattle.dt_buffer.specs.Ending.{ShowsRing}
use Rattle.dt_buffer.specs.History.{BufferPast, attempts, of_end, ordinary, since_swap, swap}
use Rattle.dt_buffer.specs.History as buffer
use Rattle.dt_buffer.specs.Shows.{ShownBy, Shows}
use Rattle.dt_buffer.specs.declared.policy.Policy.{Policy}
use Rattle.dt_buffer.specs.declared.policy.Policy.TheVariants.{Switch, Fill, Ring}
use Rattle.dt_cred.specs.declared.account.Account.{Account}
use Rattle.dt_machine.specs.Registry.{Registry}
use Rattle.dt_life.specs.Buffers.{comes_by_steps, past_in}
use Rattle.dt_consumer.specs.Keeps.{is_quiet}
use Rattle.dt_life.specs.Life.{SetUp, tracing_steps}
use Rattle.dt_life.specs.TracingSteps.{TracingStep, takes, reads, truncates}
use Rattle.dt_consumer.proofs.Idle.{AreIdle, quiet_steps}

abbrev are_swaps : List buffer.BufferEvent → Type 0
are_swaps = AllByRecursion (λ event. event ≡ swap)

append_swaps : (a b : List buffer.BufferEvent) → are_swaps a → are_swaps b → are_swaps (a ++ b)
append_swaps [] b h k = k
append_swaps (x ∷ a) b h k = (h.0, append_swaps a b h.1 k)

quiet_swaps : (cpu : ℕ) (steps : List TracingStep) → AreIdle steps → are_swaps (comes_by_steps cpu steps)
quiet_swaps cpu [] h = tt
quiet_swaps cpu (takes t ∷ steps) h = absurd h.0
quiet_swaps cpu (reads n ∷ steps) h = append_swaps (cond (n == cpu) (swap ∷ []) []) _ (here (n == cpu)) (quiet_swaps cpu steps h.1)
  where
    here : (b : Bool) → are_swaps (cond b (swap ∷ []) [])
    here true = (refl, tt)
    here false = tt
quiet_swaps cpu (truncates name ∷ steps) h = quiet_swaps cpu steps h.1

-- by swaps alone no record comes
record NoneCame (events : List buffer.BufferEvent) : Type 0 where
  of_all : attempts events ≡ []
  of_ordinary : ordinary events ≡ []
  of_last : of_end events ≡ []
  of_since : since_swap events ≡ []

none_came : (events : List buffer.BufferEvent) → are_swaps events → NoneCame events
none_came [] h = record { of_all = refl; of_ordinary = refl; of_last = refl; of_since = refl }
none_came (buffer.attempt bytes in_end ∷ later) h = cc
none_came (swap ∷ later) h =
    let rest = none_came later h.1 in
    record { of_all = rest.of_all; of_ordinary = rest.of_ordinary; of_last = rest.of_last; of_since = rest.of_since }

shows_switch : (size : ℕ) → ShowsSwitch size [] [] 0
shows_switch size = record {
  chosen = [];
  choice = record { whole = refl; exactly = λ i h. absurd (omega arith) };
  kept = refl;
  dropped = refl;
}

longest_of_none : (room : ℕ) → IsLongestBeginning room [] 0
longest_of_none room = record { within = omega arith; fits = omega arith; longest = λ n h fits. h }

shows_fill : (size reserve : ℕ) → ShowsFill size reserve [] [] [] false
shows_fill size reserve = record {
  first = 0;
  last = 0;
  ordinary_kept = longest_of_none _;
  end_kept = longest_of_none _;
  kept = refl;
  is_filled = (λ no. cc, λ either. ⊎_elim (λ h. absurd (omega arith)) (λ h. absurd (omega arith)) either);
}

shows_ring : (size : ℕ) → ShowsRing size [] [] 0
shows_ring size = record {
  passed = 0;
  newest = record { within = omega arith; fits = omega arith; longest = λ n h. omega arith };
  kept = refl;
  dropped = refl;
}

nothing_by : (past : BufferPast) (policy : Policy) → NoneCame past.events → ShownBy past policy [] 0 false
nothing_by past Switch none =
    (subst (λ xs. ShowsSwitch past.size xs [] 0) (sym none.of_since) (shows_switch past.size), refl)
nothing_by past Fill none = (
  subst (λ xs. ShowsFill past.size past.reserve xs (of_end past.events) [] false) (sym none.of_ordinary)
      (subst (λ xs. ShowsFill past.size past.reserve [] xs [] false) (sym none.of_last)
      (shows_fill past.size past.reserve)),
  refl,
)
nothing_by past Ring none =
    (subst (λ xs. ShowsRing past.size xs [] 0) (sym none.of_all) (shows_ring past.size), refl)

pub nothing_shown : (account : Account) (registry : Registry) (s : SetUp) (cpu : ℕ) → is_quiet s.since ≡ true
    → Shows (past_in account registry s cpu) [] 0 false
nothing_shown account registry s cpu quiet =
    let past = past_in account registry s cpu in
    nothing_by past past.policy
    (none_came past.events (quiet_swaps cpu (tracing_steps account registry s) (quiet_steps account registry s quiet)))
