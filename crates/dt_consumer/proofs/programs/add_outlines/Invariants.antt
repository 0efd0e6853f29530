-- It is known of the clauses so far.
use Rattle.std.proofs.Common.{◌≡◌, ◌+◌, ◌++◌, take, vec_len}
use Rattle.std.specs.Prelude.{vec_capacity}
use Rattle.dt_consumer.specs.Recording.{outlines_of}
use Rattle.dt_consumer.proofs.programs.add_outlines.Given as goal

abbrev pub invariant-loop-clause : goal.invariant-loop-clause
invariant-loop-clause l = record {
  items : l.outlines.items ≡ l.fn.outlines.items ++ outlines_of (take l.clause-index l.clauses);
  counted : vec_len l.outlines ≡ vec_len l.fn.outlines + l.clause-index;
  room : vec_capacity l.outlines ≡ vec_capacity l.fn.outlines;
}
