-- What a line within the quota leaves.
use Rattle.std.proofs.Common.{◌≡◌, ◌<◌, false, cond, List, ◌∷◌, Result, ap}
use Rattle.std.proofs.lemmas.Bool.{leb-false}
use Rattle.dt_life.specs.Ask.{Ask}
use Rattle.dt_life.specs.Acceptance.{after_line}
use Rattle.dt_life.specs.Life.{Item, asked, lines, is_over}
use Rattle.dt_life.specs.Limits.{lines_max}
use Rattle.dt_life.specs.declared.refusal.Refusal.{Refusal}

-- a life after a line within the quota
pub after_counted : (life : List Item) (line : Result Ask Refusal) → is_over life ≡ false
    → after_line life line ≡ asked line ∷ life
after_counted life line e = ap (λ b. cond b life (asked line ∷ life)) e

pub quota_left : (life : List Item) → is_over life ≡ false → lines life < lines_max
quota_left life e = leb-false lines_max (lines life) e
