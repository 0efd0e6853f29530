-- The ECBs so far were taken, and none of them exited.
use Rattle.std.proofs.Common.{◌≡◌, ◌+◌, ◌*◌, ℕ, [], List, All, length, take}
use Rattle.dt_buffer.specs.History.{of_end}
use Rattle.dt_consumer.specs.Counts.{AtMost, COMES_BY_ONE, FailsAtMost}
use Rattle.dt_consumer.specs.Enabling.{IsEnabledBy}
use Rattle.dt_consumer.specs.Keeps.{AreAfter}
use Rattle.dt_cred.specs.declared.account.Account.{Account}
use Rattle.dt_life.specs.Buffers.{comes_by_steps}
use Rattle.dt_life.specs.Life.{SetUp}
use Rattle.dt_life.specs.TracingSteps.{TracingStep}
use Rattle.dt_life.specs.Uses.{GivenAtMost}
use Rattle.dt_machine.specs.Context.{form_of_context}
use Rattle.dt_machine.specs.Registry.{Registry}
use Rattle.dt_program.specs.declared.clause.TheConstants.{STATEMENTS_MAX}
use Rattle.dt_consumer.proofs.Turning.{HasTurned}
use Rattle.dt_consumer.proofs.processors.Processors.take_each.Given as goal

abbrev pub invariant-loop-ecb : goal.invariant-loop-ecb
invariant-loop-ecb l = record {
  len : length l.self.all.items ≡ length l.fn.self.all.items;
  counts : (n : ℕ) → All (AtMost n) l.fn.self.all.items → All (AtMost (n + COMES_BY_ONE * l.ecb-index)) l.self.all.items;
  fails : (n : ℕ) → FailsAtMost n l.fn.self → FailsAtMost (n + COMES_BY_ONE * l.ecb-index) l.self;
  gives : (n : ℕ) → All (GivenAtMost n) l.fn.self.stores.items
      → All (GivenAtMost (n + STATEMENTS_MAX * l.ecb-index)) l.self.stores.items;
  turned : (account : Account) (registry : Registry) (s : SetUp) (steps : List TracingStep)
      → IsEnabledBy s l.enabled → AreAfter account registry s steps l.fn.self
      → ((cpu : ℕ) → of_end (comes_by_steps cpu steps) ≡ [])
      → HasTurned account registry s steps (form_of_context l.context) (take l.ecb-index l.ecb-items) l.self;
}
