-- The first is taken out.
use Rattle.dt_machine.proofs.bit_word.BitWord.pop_first.Goals as goal

pub returns : goal.returns
returns c =
    let first = c.in_ok-first.ensures in
    (first.0, first.1, c.remove.ensures.less first.1, c.remove.ensures.others)
