-- The phase in words.
use Rattle.dt_life.specs.Life.{set_up}
use Rattle.dt_life.specs.laws.Phases.{waiting, closing, beginning, going_on, staying}
use Rattle.dt_life.proofs.laws.phases.Goals as goal

pub returns : goal.returns
returns c = record {
  waits = λ account registry life item quiet no_go no_close.
      waiting account registry (set_up account registry life) quiet item no_go no_close;
  closes = λ account registry life quiet. closing account registry (set_up account registry life) quiet;
  begins = λ account registry life quiet room. beginning account registry (set_up account registry life) quiet room;
  goes_on = λ account registry life item on. going_on account registry (set_up account registry life) on item;
  stays = λ account registry life item cause off. staying account registry (set_up account registry life) cause off item;
}
