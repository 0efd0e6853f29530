-- What is to be shown of `bar_columns`: the numbers that are widened are those of the arguments.
use Rattle.std.proofs.Common.{◌<◌, arith}
use Rattle.dt_front.proofs.Bars.{bar_within}
use Rattle.dt_front.proofs.picture.bar_columns.Goals as goal

pub returns-clause-within : goal.returns-clause-within
returns-clause-within c =
    let some : 0 < c.args.total = omega (arith, c.if-total-eq0.false) in
    rw (c.from.ensures, c.from-2.ensures, c.from-3.ensures)
    (bar_within c.args.longest c.args.count c.args.total some c.requires.part)
