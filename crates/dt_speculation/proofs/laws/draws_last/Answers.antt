-- How long a draw lasts.
use Rattle.dt_speculation.specs.laws.Lives.{draw_lasts, until_free}
use Rattle.dt_speculation.proofs.laws.draws_last.Goals as goal

pub returns-clause-lasts : goal.returns-clause-lasts
returns-clause-lasts c = λ past earlier later id answered is h unfreed.
    draw_lasts past earlier later id answered is h unfreed

pub returns-clause-until : goal.returns-clause-until
returns-clause-until c = until_free
