-- The test of an accepted `go` is the relation that it stands for.
use Rattle.std.proofs.Common.{◌≡◌, true, List, Result, Ok, Err, refl, ap}
use Rattle.std.proofs.lemmas.Bool.{and_parts, and_from, not-true, not_from_false}
use Rattle.dt_cred.specs.declared.account.Account.{Account}
use Rattle.dt_machine.specs.Registry.{Registry}
use Rattle.dt_life.specs.Ask.{Ask, option, enable, go, stop, snap, agg, trunc, status, list, describe, close}
use Rattle.dt_life.specs.Acceptance.{IsAcceptedGo}
use Rattle.dt_life.specs.Life.{Item, is_over, phase, is_inactive}
use Rattle.dt_life.specs.Tests.{is_go, is_accepted_go}
use Rattle.dt_life.specs.declared.phase.Phase.{Phase}
use Rattle.dt_life.specs.declared.phase.Phase.TheVariants.{Inactive, Active, Stopped}
use Rattle.dt_life.specs.declared.refusal.Refusal.{Refusal}

go_from : (line : Result Ask Refusal) → is_go line ≡ true → line ≡ Ok go
go_from (Err refusal) h = cc
go_from (Ok (option setting)) h = cc
go_from (Ok (enable reading)) h = cc
go_from (Ok go) h = refl
go_from (Ok stop) h = cc
go_from (Ok (snap cpu)) h = cc
go_from (Ok (agg name)) h = cc
go_from (Ok (trunc name)) h = cc
go_from (Ok status) h = cc
go_from (Ok (list desc)) h = cc
go_from (Ok (describe epid)) h = cc
go_from (Ok close) h = cc

pub inactive_from : (phase : Phase) → is_inactive phase ≡ true → phase ≡ Inactive
inactive_from Inactive h = refl
inactive_from Active h = cc
inactive_from (Stopped cause) h = cc

module _ (account : Account) (registry : Registry) (life : List Item) (line : Result Ask Refusal) where
  pub accepted_from : is_accepted_go account registry life line ≡ true → IsAcceptedGo account registry life line
  unfolding is_accepted_go
  accepted_from h =
      let a = and_parts _ _ h in
      let b = and_parts _ _ a.1 in
      let c = and_parts _ _ b.1 in (
        not-true (is_over life) a.0,
        inactive_from (phase account registry life) b.0,
        c.0,
        go_from line c.1,
      )

  pub accepted_to : IsAcceptedGo account registry life line → is_accepted_go account registry life line ≡ true
  unfolding is_accepted_go
  accepted_to h =
      and_from _ _ (not_from_false (is_over life) h.0)
      (and_from _ _ (ap is_inactive h.1) (and_from _ _ h.2 (ap is_go h.3)))
