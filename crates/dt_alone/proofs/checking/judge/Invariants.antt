-- What holds at each turn of a loop of `judge`.
use Rattle.std.proofs.Common.{take, reverse}
use Rattle.dt_alone.specs.Judging.{HasJudged}
use Rattle.dt_proto.specs.Legal.{Agrees}
use Rattle.dt_alone.specs.Lent.{forms_of_lent}
use Rattle.dt_alone.proofs.checking.judge.Given as goal

-- the items so far agree, and the judge is after them
abbrev pub invariant-loop-index : goal.invariant-loop-index
invariant-loop-index l = record {
  agreed : Agrees l.account l.machine (reverse (forms_of_lent (take l.index l.items)));
  after : HasJudged l.account l.machine (reverse (forms_of_lent (take l.index l.items))) l.judge;
}
