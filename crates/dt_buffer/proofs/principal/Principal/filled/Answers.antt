-- A buffer under another policy is never filled.
use Rattle.dt_buffer.proofs.Pasts.{unfilled}
use Rattle.dt_buffer.proofs.principal.Principal.filled.Goals as goal

pub returns-in_default : goal.returns-in_default
returns-in_default c = λ past s. unfilled past c.args.self.now.store c.in_default.not-Fill s
