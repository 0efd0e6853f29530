-- Which lines take effect by themselves: an accepted `go` and an accepted `close`, and what a life is after a line.
use Rattle.std.specs.Prelude.{◌≡◌, Bool, true, false, List, ◌∷◌, Result, Ok, if◌then◌else◌}
use Rattle.dt_cred.specs.declared.account.Account.{Account}
use Rattle.dt_machine.specs.Registry.{Registry}
use Rattle.dt_life.specs.Ask.{Ask, go, close}
use Rattle.dt_life.specs.Life.{Item, asked, is_over, set_up, phase, has_room}
use Rattle.dt_life.specs.declared.phase.Phase.TheVariants.{Inactive}
use Rattle.dt_life.specs.declared.refusal.Refusal.{Refusal}

-- a life after a line: one over the quota is no part of it
abbrev pub after_line : List Item → Result Ask Refusal → List Item
after_line life line = if is_over life then life else asked line ∷ life

-- the line asks to close the session
abbrev pub is_close : Result Ask Refusal → Bool
is_close (Ok close) = true
is_close _ = false

module _ (account : Account) (registry : Registry) (life : List Item) where
  -- The line is a `go` that is accepted: tracing begins after it.
  abbrev pub IsAcceptedGo : Result Ask Refusal → Type 0
  IsAcceptedGo line =
      (is_over life ≡ false) × (phase account registry life ≡ Inactive)
      × (has_room account registry (set_up account registry life) ≡ true) × (line ≡ Ok go)

  -- The line is a `close` that is accepted, as any is within the quota: the session ends by it.
  abbrev pub IsAcceptedClose : Result Ask Refusal → Type 0
  IsAcceptedClose line = (is_over life ≡ false) × (line ≡ Ok close)
