-- A published `go` took effect on a seat.
use Rattle.std.proofs.Common.{option_map}
use Rattle.dt_steps.proofs.Holding.{finished-session, served_session, some_weaker}
use Rattle.dt_steps.proofs.place.Place.finish.Goals as goal

pub returns-in-Some-clause-finished : goal.returns-in-Some-clause-finished
returns-in-Some-clause-finished c = λ place h.
    finished-session c.args.machine.now.registry place c.args.self.now h
    (option_map (λ finished. finished.text.items) c.finish.result)
    c.in-Some.session c.finish.new.self c.in-Some.is c.finish.ensures.finished

pub returns-in-Some-clause-line : goal.returns-in-Some-clause-line
returns-in-Some-clause-line c =
    some_weaker c.finish.result _ _
    (λ finished told place session pending h at.
    told session pending (served_session c.args.machine.now.registry place c.args.self.now h c.in-Some.session session
    c.in-Some.is at))
    c.finish.ensures.line
