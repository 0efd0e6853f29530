-- Which firings a consumer that traces sees.
use Rattle.std.proofs.Common.{◌≡◌, ◌≢◌, ◌<◌, ℕ, zero, suc, ◌+◌, List, [], Some, length, refl, sym}
use Rattle.std.proofs.Common.{ap, ◌∙◌, arith}
use Rattle.std.proofs.lemmas.Option.{slice_get_within}
use Rattle.dt_cred.specs.declared.account.Account.{Account}
use Rattle.dt_cred.specs.declared.firing.Firing.{Firing}
use Rattle.dt_cred.specs.declared.probe.Probe.{Probe}
use Rattle.dt_machine.specs.Context.{IsContext, form_of_context, context_of}
use Rattle.dt_machine.specs.Registry.{Registry, probe_of}
use Rattle.dt_machine.specs.Shown.{IsShown}
use Rattle.dt_machine.specs.declared.context.Context.{Context}
use Rattle.dt_ecb.specs.Ecbs.{of_probe}
use Rattle.dt_life.specs.Life.{Item, ecbs}
use Rattle.dt_life.specs.Sees.{Sees}
use Rattle.dt_consumer.specs.Keeps.{IsTracing, phase_by}
use Rattle.dt_consumer.specs.declared.course.Course.{Course}
use Rattle.dt_consumer.specs.declared.course.Course.TheVariants.{Running, Over}
use Rattle.dt_consumer.specs.declared.tracing.Tracing.{Tracing}
use Rattle.dt_life.specs.Life.{set_up}
use Rattle.dt_life.specs.declared.phase.Phase.TheVariants.{Active}

-- a probe of the machine is below its number of lists
pub known_probe : (registry : Registry) (id : ℕ) (probe : Probe) → probe_of registry id ≡ Some probe
    → id < length registry.probes + 1
known_probe registry zero probe is = omega arith
known_probe registry (suc before) probe is = omega (arith, slice_get_within registry.probes before probe is)

-- it is active only while it goes on
pub runs : (course : Course) → phase_by course ≡ Active → course ≡ Running
runs Running is = refl
runs (Over cause) is = cc

-- a context of the machine is the one that its firing names
pub names_its : (registry : Registry) (context : Context) → IsContext registry context
    → context_of registry context.firing.now ≡ Some (form_of_context context)
names_its registry context is = rw (is.probe, is.process) refl

module _ (account : Account) (registry : Registry) (life : List Item) (context : Context) (is : IsContext registry context)
    (tracing : Tracing) (t : IsTracing account registry (set_up account registry life) tracing) where
  abbrev firing : Firing
  firing = context.firing.now

  pub sees_its : tracing.course ≡ Running → of_probe firing.probe (ecbs account registry life) ≢ []
      → IsShown account registry firing → Sees account registry life firing
  sees_its going named shown = record {
    active = t.standing ∙ ap phase_by going;
    belongs = is.belongs;
    named = named;
    admitted = shown;
  }

  -- what sees a firing goes on, on a processor and with a list of ECBs that are there
  pub seen_runs : Sees account registry life firing → tracing.course ≡ Running
  seen_runs sees = runs tracing.course (sym t.standing ∙ sees.active)

  pub seen_cpu : Sees account registry life firing → firing.cpu < length tracing.processors.all.items
  seen_cpu sees = omega (arith, sees.belongs.cpu, t.all_processors)

  pub seen_probe : firing.probe < length tracing.lists.items
  seen_probe = omega (arith, t.all_lists, known_probe registry firing.probe context.probe.now is.probe)
