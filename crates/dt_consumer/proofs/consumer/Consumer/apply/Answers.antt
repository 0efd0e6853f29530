-- Each change is the one that the draft says.
use Rattle.std.proofs.Common.{sym, ◌∙◌, subst}
use Rattle.dt_consumer.specs.Draft.{BeginsTracing, Drafted}
use Rattle.dt_consumer.proofs.consumer.Consumer.apply.Goals as goal

pub returns-in-Enable : goal.returns-in-Enable
returns-in-Enable c = λ account life line s drafted.
    let registry = c.args.machine.now.registry in
    c.enable.ensures account registry life line s
    (subst (Drafted account registry life line) (sym c.into_change.ensures ∙ c.in-Enable.is) drafted.makes)

pub returns-in-Go : goal.returns-in-Go
returns-in-Go c = λ account life line s drafted.
    let registry = c.args.machine.now.registry in
    c.begin.ensures account registry life line s
    (subst (BeginsTracing account registry life line) (sym c.into_inner.ensures)
    (subst (Drafted account registry life line) (sym c.into_change.ensures ∙ c.in-Go.is) drafted.makes))

pub returns-in-Snap : goal.returns-in-Snap
returns-in-Snap c = λ account life line s drafted.
    let registry = c.args.machine.now.registry in
    c.snap.ensures account registry life line s
    (subst (Drafted account registry life line) (sym c.into_change.ensures ∙ c.in-Snap.is) drafted.makes)

pub returns-in-Stop : goal.returns-in-Stop
returns-in-Stop c = λ account life line s drafted.
    let registry = c.args.machine.now.registry in
    c.stop.ensures account life line s
    (subst (Drafted account registry life line) (sym c.into_change.ensures ∙ c.in-Stop.is) drafted.makes)

pub returns-in-Trunc : goal.returns-in-Trunc
returns-in-Trunc c = λ account life line s drafted.
    let registry = c.args.machine.now.registry in
    c.trunc.ensures account registry life line s
    (subst (Drafted account registry life line) (sym c.into_change.ensures ∙ c.in-Trunc.is) drafted.makes)

pub returns-in-Close : goal.returns-in-Close
returns-in-Close c = λ account life line s drafted.
    let registry = c.args.machine.now.registry in
    c.close.ensures account registry life line s
    (subst (Drafted account registry life line) (sym c.into_change.ensures ∙ c.in-Close.is) drafted.makes)
