-- The probe and the process are those that the firing names.
use Rattle.std.proofs.Common.{ap, sym, ◌∙◌, true}
use Rattle.std.specs.Option.{option_map_or}
use Rattle.dt_cred.specs.Rights.{admits}
use Rattle.dt_machine.specs.Registry.{process_of}
use Rattle.dt_machine.specs.Tests.{is_shown}
use Rattle.dt_machine.proofs.context.Context.is_shown.Goals as goal

pub returns : goal.returns
unfolding is_shown
returns c = λ registry is.
    let m = c.args.self.now in
    let a = c.args.account.now in
    c.admits.ensures.test
    ∙ sym (ap (λ o. option_map_or (λ process. admits a m.probe.now.class m.firing.now.mode process) o true) is.process)
    ∙ sym (ap (λ o. option_map_or (λ probe. option_map_or (λ process. admits a probe.class m.firing.now.mode process)
    (process_of registry m.firing.now.pid) true) o true) is.probe)
