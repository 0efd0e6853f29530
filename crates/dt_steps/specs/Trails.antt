-- Trails in the world of steps: when a trail's lines end at its `close`, and which session saw what it tells.
use Rattle.std.specs.Prelude.{◌≡◌, ℕ, Bool, false, List, [], ◌∷◌, Some}
use Rattle.std.specs.List.{list_any}
use Rattle.dt_cred.specs.declared.account.Account.{Account}
use Rattle.dt_machine.specs.Registry.{Registry, Contents}
use Rattle.dt_proto.specs.Alone.{Reached}
use Rattle.dt_proto.specs.Legal.{life_of_trail}
use Rattle.dt_proto.specs.Trail.{WrittenItem, line_asked, long_asked, fired_at}
use Rattle.dt_proto.specs.Views.{seen_view}
use Rattle.dt_steps.specs.Steps.{StepForm, world_after}
use Rattle.dt_steps.specs.World.{Session, session_of, is_closing}

-- The items so far are called the past; the newest goes first.
module _ (account : Account) (contents : Contents) where
  -- a `close` was accepted
  abbrev pub is_closed : List WrittenItem → Bool
  is_closed past = list_any is_closing (life_of_trail account contents past)

  -- An item is no line after an accepted `close`.
  abbrev pub IsNoLineAfterClose : List WrittenItem → WrittenItem → Type 0
  IsNoLineAfterClose past (line_asked line reply) = is_closed past ≡ false
  IsNoLineAfterClose past (long_asked reply) = is_closed past ≡ false
  IsNoLineAfterClose past (fired_at cpu place) = Unit {0}

  -- No line stands after an accepted `close`.
  abbrev pub EndsAtClose : List WrittenItem → Type 0
  EndsAtClose [] = Unit {0}
  EndsAtClose (item ∷ past) = EndsAtClose past × IsNoLineAfterClose past item

-- After these steps there is a session of this seat and number. Its account is this one, and its seen view is this.
pub record HasSeen (registry : Registry) (steps : List StepForm) (seat n : ℕ) (account : Account) (view : List Reached)
    : Type 0 where
  pub session : Session
  pub found : session_of (world_after registry steps) seat n ≡ Some session
  pub owner : session.account ≡ account
  pub seen : seen_view account registry session.view ≡ view
