-- The name is the one that was asked for, and the aggregation is its.
use Rattle.dt_ecb.specs.Forms.{shapes_of}
use Rattle.dt_life.proofs.Names.{named_so, aggregation_so}
use Rattle.dt_life.proofs.named_aggregation.NamedAggregation.of.Goals as goal

pub returns-clause-named : goal.returns-clause-named
returns-clause-named c =
    named_so (shapes_of c.args.shapes.now) c.args.name.now c.named.result c.in_ok-named.named c.in_ok-named.was
    c.named.ensures

pub returns-clause-is : goal.returns-clause-is
returns-clause-is c =
    aggregation_so (shapes_of c.args.shapes.now) c.args.name.now c.named.result c.in_ok-named.named c.in_ok-named.was
    c.named.ensures
