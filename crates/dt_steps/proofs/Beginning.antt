-- Which lines begin tracing.
use Rattle.std.proofs.Common.{◌≡◌, true}
use Rattle.dt_machine.specs.Registry.{Registry}
use Rattle.dt_life.specs.Acceptance.{IsAcceptedGo}
use Rattle.dt_life.specs.laws.Beginning.{accepted_from, accepted_to}
use Rattle.dt_proto.specs.Line.{ask_in}
use Rattle.dt_proto.specs.Lines.{LineForm}
use Rattle.dt_steps.specs.World.{Session, life_in, accepts_go}

module _ (registry : Registry) (session : Session) (line : LineForm) where
  pub accepts_from : accepts_go registry session line ≡ true
      → IsAcceptedGo session.account registry (life_in registry session) (ask_in line)
  unfolding accepts_go
  accepts_from h = accepted_from session.account registry (life_in registry session) (ask_in line) h

  pub accepts_to : IsAcceptedGo session.account registry (life_in registry session) (ask_in line)
      → accepts_go registry session line ≡ true
  unfolding accepts_go
  accepts_to h = accepted_to session.account registry (life_in registry session) (ask_in line) h
