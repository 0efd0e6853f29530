-- What is to be shown of `new`.
use Rattle.std.proofs.Common.{[], refl}
use Rattle.dt_world.proofs.LineLists.{no_lines}
use Rattle.dt_world.proofs.Taken.{zeros, nothing_told}
use Rattle.dt_world.proofs.progress.Progress.new.Goals as goal

pub returns : goal.returns
returns c = record {
  forms = [];
  steps = no_lines c.args.machine.now.registry;
  after = record {
    at = c.in_ok-new.ensures;
    taken = λ cpu low. zeros 64 cpu;
    same = refl;
    told = nothing_told c.args.wanted c.args.machine.now.registry c.new-2.result.items c.new-2.ensures.items;
  };
}
