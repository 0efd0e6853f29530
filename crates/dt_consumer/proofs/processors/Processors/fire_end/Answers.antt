-- END fired on the first processor.
use Rattle.std.proofs.Common.{map, sym, ap, ◌∙◌}
use Rattle.std.specs.Option.{option_copied}
use Rattle.dt_lang.specs.Program.{form_of_clause}
use Rattle.dt_life.specs.declared.limits.TheConstants.{END}
use Rattle.dt_life.specs.laws.Contexts.{own_is}
use Rattle.dt_life.specs.laws.Options.{some_and}
use Rattle.dt_consumer.proofs.processors.Processors.fire_end.Goals as goal

pub returns-clause-after : goal.returns-clause-after
returns-clause-after c = λ s steps clauses uses are.
    some_and _ _ _
    (own_is c.args.account.now c.args.machine.now.registry END c.unwrap.result.now c.own_process-process.result
    c.own_firing-firing.result (sym (ap option_copied c.unwrap.ensures) ∙ c.probe.ensures.value)
    c.own_process-process.ensures c.own_firing-firing.ensures)
    (c.take_end.ensures.after c.args.account.now c.args.machine.now.registry s steps
    (record { clauses = ap (map form_of_clause) c.clauses.ensures.value ∙ clauses; uses = uses }) are)
