-- A swap empties a switch buffer and leaves the others.
use Rattle.std.proofs.Common.{subst}
use Rattle.dt_buffer.proofs.Pasts.{swap_switch, swap_other}
use Rattle.dt_buffer.specs.History.{since_swap}
use Rattle.dt_buffer.specs.IsAt.{StoreIsAt}
use Rattle.dt_buffer.specs.declared.principal.Store.{Store}
use Rattle.dt_buffer.proofs.principal.Principal.swap.Goals as goal

pub returns-in-Switch-clause-stands : goal.returns-in-Switch-clause-stands
returns-in-Switch-clause-stands c = λ past s.
    let P : Store → Type 0 = λ x. StoreIsAt past x in
    let held = subst P c.in-Switch.is s in
    swap_switch past c.in-Switch.store c.clear.new.self held
    (c.clear.ensures.stands past.size (since_swap past.events) held.1)

pub returns-in_default-clause-stands : goal.returns-in_default-clause-stands
returns-in_default-clause-stands c = λ past s. swap_other past c.args.self.now.store c.in_default.not-Switch s
