-- The set has the probes of the life's ECBs.
use Rattle.dt_life.specs.Life.{ecbs_in, set_up}
use Rattle.dt_consumer.proofs.Interests.{has_forms}
use Rattle.dt_consumer.proofs.consumer.Consumer.interest.Goals as goal

pub returns-clause-named : goal.returns-clause-named
returns-clause-named c = λ account registry life s.
    let own = set_up account registry life in
    has_forms own.clauses (ecbs_in account registry own) c.args.self.now.programs.ecbs.items s.keeps.ecbs
    c.interest.result c.interest.ensures
