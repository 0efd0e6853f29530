-- A published `go` takes effect.
use Rattle.std.proofs.Common.{◌≡◌, true, Some, rules}
use Rattle.dt_proto.specs.Line.{ask_in}
use Rattle.dt_steps.specs.World.{life_in}
use Rattle.dt_steps.proofs.Serving.{finishing}
use Rattle.dt_steps.proofs.session.Session.finish.Goals as goal

pub returns-clause-finished : goal.returns-clause-finished
returns-clause-finished c = λ session h.
    let registry = c.args.machine.now.registry in
    let life = life_in registry session in
    let held = c.in_ok-pending.pending in
    let published : held.is_published ≡ true = search rules in
    let is : c.args.self.now.go ≡ Some held = search rules in
    finishing registry session c.args.self.now h held c.apply.new.self c.take.new.self is c.take.ensures.after published
    (λ line drafted. c.apply.ensures session.account life (ask_in line) h.stands drafted) _
