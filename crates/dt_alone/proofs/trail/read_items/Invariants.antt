-- What holds at each turn of a loop of `read_items`.
use Rattle.std.proofs.Common.{◌≡◌, ◌++◌, length}
use Rattle.std.specs.List.{AllByRecursion}
use Rattle.dt_proto.specs.Trail.{IsWritable}
use Rattle.dt_alone.specs.Lent.{forms_of_lent}
use Rattle.dt_alone.proofs.Trails.{text_of}
use Rattle.dt_alone.proofs.trail.read_items.Given as goal

-- the text is that of the items so far, and the rest
abbrev pub invariant-loop-rest : goal.invariant-loop-rest
invariant-loop-rest l = record {
  spelled : l.text ≡ text_of (forms_of_lent l.items.items) ++ l.rest;
  writable : AllByRecursion IsWritable (forms_of_lent l.items.items);
}

abbrev pub decreases-loop-rest : goal.decreases-loop-rest
decreases-loop-rest l = length l.rest
