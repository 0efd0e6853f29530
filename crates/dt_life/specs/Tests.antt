-- Whether a consumer sees a firing, and whether a line begins its tracing, as tests.
use Rattle.std.specs.Prelude.{◌&&◌, Bool, true, false, not, List, Result, Ok}
use Rattle.dt_cred.specs.declared.account.Account.{Account}
use Rattle.dt_machine.specs.Registry.{Registry}
use Rattle.dt_cred.specs.declared.firing.Firing.{Firing}
use Rattle.dt_life.specs.Ask.{Ask, go}
use Rattle.dt_life.specs.Life.{Item, phase, ecbs, has_room, is_active, is_inactive, is_over, set_up}
use Rattle.dt_life.specs.declared.refusal.Refusal.{Refusal}
use Rattle.dt_machine.specs.Tests.{belongs, is_shown}
use Rattle.dt_ecb.specs.Interest.{is_wanted}

-- a consumer of this life sees the firing
unfoldable pub is_seen : Account → Registry → List Item → Firing → Bool
is_seen account registry life firing =
    is_active (phase account registry life) && (belongs registry firing
    && (is_wanted (ecbs account registry life) firing.probe && is_shown account registry firing))

-- the line asks to begin tracing
abbrev pub is_go : Result Ask Refusal → Bool
is_go (Ok go) = true
is_go _ = false

-- the line is a `go` that is accepted after this life
unfoldable pub is_accepted_go : Account → Registry → List Item → Result Ask Refusal → Bool
is_accepted_go account registry life line =
    not (is_over life) && (is_inactive (phase account registry life)
    && (has_room account registry (set_up account registry life) && is_go line))
