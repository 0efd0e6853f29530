-- Tracing goes on after BEGIN, or ends by it.
use Rattle.std.proofs.Common.{◌∙◌, ◌==◌, [], sym, ap}
use Rattle.dt_life.specs.Life.{since_then, with_event}
use Rattle.dt_life.specs.Options.{OptionsForm}
use Rattle.dt_life.specs.Takings.{began, ended}
use Rattle.dt_consumer.proofs.Tracings.{becomes}
use Rattle.dt_life.specs.laws.Tracings.{end_is, happens_last, happens_on}
use Rattle.dt_consumer.proofs.tracing.Tracing.begin.Goals as goal

pub returns-in_default-clause-traces : goal.returns-in_default-clause-traces
returns-in_default-clause-traces c = λ s same own kept shaped room.
    let account = c.args.account.now in
    let registry = c.args.machine.now.registry in
    let fresh = since_then s [] in
    let fired = c.in_ok-tracing.ensures.fired s same own kept shaped room in
    becomes account registry (with_event fresh began) _ _
    (happens_on account registry fresh began
    (end_is account registry fresh began c.in_ok-tracing.exit (0 == c.args.options.histsize) fired.1
    (ap (λ (o : OptionsForm). 0 == o.histsize) (sym same))
    ∙ sym c.after.ensures ∙ c.in_default.is))
    fired.0

pub returns-clause-traces : goal.returns-clause-traces
returns-clause-traces c = λ s same own kept shaped room.
    let account = c.args.account.now in
    let registry = c.args.machine.now.registry in
    let fresh = since_then s [] in
    let next = with_event fresh began in
    let fired = c.in_ok-tracing.ensures.fired s same own kept shaped room in
    becomes account registry (with_event next (ended c.in-Some.end)) _ _
    (happens_last account registry fresh began c.in-Some.end
    (end_is account registry fresh began c.in_ok-tracing.exit (0 == c.args.options.histsize) fired.1
    (ap (λ (o : OptionsForm). 0 == o.histsize) (sym same))
    ∙ sym c.after.ensures ∙ c.in-Some.is))
    (c.finish.ensures.ended next fired.0 own)
