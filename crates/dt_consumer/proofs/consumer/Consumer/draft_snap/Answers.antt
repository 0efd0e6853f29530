-- A processor's buffer is read.
use Rattle.std.proofs.Common.{sym, ap, ◌∙◌, arith}
use Rattle.dt_life.specs.Life.{is_readable, set_up}
use Rattle.dt_consumer.proofs.Drafting.{snap_draft}
use Rattle.dt_consumer.proofs.consumer.Consumer.draft_snap.Goals as goal

pub returns-clause-drafted : goal.returns-clause-drafted
returns-clause-drafted c = λ account life m.
    let registry = c.args.machine.now.registry in
    snap_draft account registry life c.args.cpu c.in_ok-shown.field-0 m.in_quota (omega arith)
    (sym (c.is_readable.ensures (set_up account registry life) m.stands.keeps.options
    ∙ ap (is_readable (set_up account registry life)) (c.phase.ensures account registry life m.stands))
    ∙ c.if-not-is_readable.false)
    (c.in_ok-shown.ensures account registry life m.stands (omega arith))
