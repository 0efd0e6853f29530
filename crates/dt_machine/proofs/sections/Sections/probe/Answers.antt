-- What the proof of `Sections::probe` is told at its goals.
use Rattle.std.proofs.Common.{◌-◌, slice_get, ◌∙◌, sym, ap}
use Rattle.dt_machine.specs.Sections.{registry_of}
use Rattle.dt_machine.proofs.Registries.{probe_of-before, option_copied-from_get}
use Rattle.dt_machine.proofs.sections.Sections.probe.Goals as goal

pub returns : goal.returns
returns c =
    let looked_up = option_copied-from_get c.as_slice-probes.result.now (c.args.id - 1) c.get.result
    c.get.ensures.lookup in
    looked_up ∙ ap (λ xs. slice_get xs (c.args.id - 1)) c.as_slice-probes.ensures.value
    ∙ sym (probe_of-before (registry_of c.args.self.now) c.args.id c.if-id-eq0.false)
