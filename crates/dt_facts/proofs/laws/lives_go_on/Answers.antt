-- What is to be shown of `lives_go_on`.
use Rattle.dt_facts.specs.laws.Lives.{row_stays, over_stays, one_row, life_opens, life_closes, over_open, over_closed}
use Rattle.dt_facts.proofs.laws.lives_go_on.Goals as goal

pub returns : goal.returns
returns c = record {
  row = row_stays;
  over = over_stays;
  one_row = one_row;
  opens = life_opens;
  closes = life_closes;
  over_before = over_open;
  all_over = over_closed;
}
