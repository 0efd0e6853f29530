-- A check answers that the trail of a replay agrees.
use Rattle.std.proofs.Common.{◌≡◌, ◌⊎◌, ℕ, Bool, true, false, cond, List, [], Option, Some, None, refl, sym}
use Rattle.std.proofs.Common.{subst, inl, inr, arith}
use Rattle.std.specs.Option.{option_and_then}
use Rattle.dt_alone.specs.Verdicts.{IsVerdictOn, replies_in}
use Rattle.dt_alone.specs.declared.verdict.Verdict.TheVariants.{Agree}
use Rattle.dt_cred.specs.Rights.{has_dtrace}
use Rattle.dt_cred.specs.declared.account.Account.{Account}
use Rattle.dt_machine.specs.Reading.{IsDescribed}
use Rattle.dt_machine.specs.Registry.{Registry, Contents, account_of}
use Rattle.dt_machine.specs.laws.Named.{found_by_name, name_has_no}
use Rattle.dt_proto.specs.Session.{session_account}
use Rattle.dt_proto.specs.laws.Spelling.{trail_spelled}
use Rattle.dt_steps.specs.World.{Session, session_of}
use Rattle.dt_world.specs.Replay.{IsTrailReplay, IsTrailText, replayed}
use Rattle.dt_world.specs.laws.Replays.{session_orderly}
use Rattle.dtraced.proofs.laws.written_trails_agree.Goals as goal

-- who has a session is an account of the machine
found_account : (registry : Registry) (name : List ℕ) (account : Account) → session_account registry name ≡ Some account
    → account_of registry name ≡ Some account
found_account registry name account = by_found (account_of registry name) where
  by_right : (one : Account) (b : Bool) → cond b (Some one) None ≡ Some account → Some one ≡ Some account
  by_right one true e = e
  by_right one false e = cc

  by_found : (found : Option Account)
      → option_and_then (λ one. cond (has_dtrace one.privs) (Some one) None) found ≡ Some account → found ≡ Some account
  by_found None e = cc
  by_found (Some one) e = by_right one (has_dtrace one.privs) e

pub returns : goal.returns
returns c = λ file input output contents seat described replay.
    by_session file input output contents seat described replay
    (session_of (replayed contents replay.forms).world seat 0) refl replay.trail
  where
    by_session : (file input output : List ℕ) (contents : Contents) (seat : ℕ) → IsDescribed file contents
        → (replay : IsTrailReplay contents input seat output) → (session : Option Session)
        → session_of (replayed contents replay.forms).world seat 0 ≡ session
        → IsTrailText contents.registry session output
        → (output ≡ []) ⊎ ((n : ℕ) × IsVerdictOn contents output (Agree n))
    by_session file input output contents seat described replay None is h = inl h
    by_session file input output contents seat described replay (Some s) is h =
        let sound = c.described_is_sound.ensures file contents described in
        let orderly = session_orderly contents sound input replay.forms replay.lines seat 0 s is in
        let found = found_account contents.registry orderly.name s.account orderly.account in
        let named = found_by_name file contents described orderly.name s.account found in
        let session = subst (λ name. session_account contents.registry name ≡ Some s.account) (sym named) orderly.account in
        let spelled = trail_spelled contents sound s.account s.view h.0
        (name_has_no file contents described orderly.name s.account found 10 (omega arith))
        orderly.brought orderly.only_lines h.1 in
        inr (
          replies_in h.0,
          subst (λ text. IsVerdictOn contents text (Agree (replies_in h.0))) (sym h.2)
              (c.trail_agrees.ensures contents s.account.name s.account s.view h.0 _ session orderly.brought h.1 spelled),
        )
