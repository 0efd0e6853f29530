-- What the list of a seat's lives says of them, and what was known of each.
use Rattle.std.specs.Prelude.{◌≡◌, ℕ, ◌+◌, ◌*◌, ◌/◌, ◌==◌, List, ◌++◌, length, drop, map, filter, slice_get, Some}
use Rattle.dt_cred.specs.declared.account.Account.{Account}
use Rattle.dt_trail.specs.Items.{TrailItem}
use Rattle.dt_trail.specs.declared.law.Named.{Named}
use Rattle.dt_facts.specs.declared.fact.LifeItem.{LifeItem}
use Rattle.dt_facts.specs.declared.fact.LifeStep.{LifeStep}
use Rattle.dt_facts.specs.declared.fact.LifeStep.TheVariants as steps

-- a life opened, with this trail
abbrev pub opened : Named Account → LifeStep
opened row = steps.Opened row

-- the life that was open closed
abbrev pub closed : LifeStep
closed = steps.Closed

-- how many lives are over: they have the numbers below this one. It is half the steps, where who keeps the list adds an opening and a closing in turn
abbrev pub lives_over : List LifeStep → ℕ
lives_over steps = length steps / 2

-- the life of this number opened with this trail
abbrev pub IsRowOfLife : ℕ → Named Account → List LifeStep → Type 0
IsRowOfLife life row steps = slice_get steps (2 * life) ≡ Some (opened row)

-- the life of this number opened with this trail, and didn't close
abbrev pub IsOpenAs : ℕ → Named Account → List LifeStep → Type 0
IsOpenAs life row steps = (length steps ≡ 2 * life + 1) × IsRowOfLife life row steps

-- the list has an opening and a closing of each of this many lives, where they were added in turn
abbrev pub AreClosed : ℕ → List LifeStep → Type 0
AreClosed lives steps = length steps ≡ 2 * lives

abbrev pub life_item : ℕ → TrailItem → LifeItem
life_item life item = record { life = life; item = item }

-- the items of one life, in order
abbrev pub items_of_life : ℕ → List LifeItem → List TrailItem
items_of_life life list = map (λ one. one.item) (filter (λ one. one.life == life) list)

-- the list, once all these items of a life are known
abbrev pub known_more : ℕ → List TrailItem → List LifeItem → List LifeItem
known_more life knows list = list ++ map (life_item life) (drop (length (items_of_life life list)) knows)
