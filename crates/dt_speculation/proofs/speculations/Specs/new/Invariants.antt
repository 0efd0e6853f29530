-- The identifiers so far aren't in use, and their parts are empty.
use Rattle.std.proofs.Common.{◌≡◌, [], false, length}
use Rattle.std.specs.List.{All}
use Rattle.dt_speculation.specs.IsAt.{SpeculationIsAt}
use Rattle.dt_speculation.proofs.speculations.Specs.new.Given as goal

abbrev pub invariant-loop-place : goal.invariant-loop-place
invariant-loop-place l = record {
  counted : length l.all.items ≡ l._place;
  parts : All (λ one. length one.parts.items ≡ l.cpus) l.all.items;
  fresh : All (SpeculationIsAt l.specsize false (λ cpu. [])) l.all.items;
}
