-- A consumer that is closed.
use Rattle.std.proofs.Common.{◌≡◌, ℕ, suc, Bool, true, false, List, ◌∷◌, Option, Some, None, Ok, refl, sym, ap, ◌∙◌}
use Rattle.std.proofs.Common.{subst}
use Rattle.std.specs.Option.{MatchOption}
use Rattle.dt_cred.specs.declared.account.Account.{Account}
use Rattle.dt_machine.specs.Registry.{Registry}
use Rattle.dt_life.specs.Ask.{close}
use Rattle.dt_consumer.specs.Keeps.{IsTracing, IsUntraced, phase_untraced}
use Rattle.dt_life.specs.Life.{Item, asked, SetUp, is_stopped, lines, phase_of, set_up, with_event}
use Rattle.dt_consumer.specs.StandsFor.{StandsFor}
use Rattle.dt_life.specs.Takings.{closed}
use Rattle.dt_consumer.specs.declared.consumer.Consumer.{Consumer, known-type}
use Rattle.dt_consumer.specs.declared.tracing.Tracing.{Tracing}
use Rattle.dt_life.specs.laws.Verdicts.{closed_by}
use Rattle.dt_consumer.proofs.Stands.{keeps_quiet, keeps_traced, stands_changed, traced, untraced}

module _ (account : Account) (registry : Registry) (consumer : Consumer) (life : List Item)
    (s : StandsFor account registry consumer life) where
  abbrev own : SetUp
  own = set_up account registry life

  -- one that traces, or has traced
  pub closes_traced : (t new : Tracing) → consumer.tracing ≡ Some t
      → (IsTracing account registry (set_up account registry life) t
      → is_stopped (phase_of (set_up account registry life)) ≡ false
      → IsTracing account registry (with_event (set_up account registry life) closed) new)
      → (IsTracing account registry (set_up account registry life) t
      → is_stopped (phase_of (set_up account registry life)) ≡ true
      → IsTracing account registry (set_up account registry life) new)
      → {n : ℕ} → n ≡ suc (lines life)
      → {now : Option Tracing} {was_closed : Bool} → now ≡ Some new
      → {known : known-type now consumer.account consumer.programs consumer.options was_closed n}
      → StandsFor account registry
      (record consumer { tracing = now; closed = was_closed; lines = n; known = known }) (asked (Ok close) ∷ life)
  closes_traced t new is running over {n} counts {now} {was_closed} by {known} =
      by_phase (is_stopped (phase_of own)) refl
    where
      had : IsTracing account registry own t
      had = traced account registry own consumer s.keeps t is

      by_phase : (b : Bool) → is_stopped (phase_of own) ≡ b
          → StandsFor account registry
          (record consumer { tracing = now; closed = was_closed; lines = n; known = known }) (asked (Ok close) ∷ life)
      by_phase true e =
          stands_changed account registry consumer life s (Ok close) _ own (closed_by account registry life true e)
          counts (keeps_traced account registry consumer own own n new s.keeps refl refl (over had e) by)
      by_phase false e =
          stands_changed account registry consumer life s (Ok close) _ (with_event own closed)
          (closed_by account registry life false e) counts
          (keeps_traced account registry consumer own (with_event own closed) n new s.keeps refl refl (running had e) by)

  -- one that never traced
  pub closes_untraced : consumer.tracing ≡ None → {n : ℕ} → n ≡ suc (lines life)
      → {now : Option Tracing} {is_closed : Bool} → now ≡ None → is_closed ≡ true
      → {known : known-type now consumer.account consumer.programs consumer.options is_closed n}
      → StandsFor account registry
      (record consumer { tracing = now; closed = is_closed; lines = n; known = known }) (asked (Ok close) ∷ life)
  closes_untraced is {n} counts {now} {is_closed} none set {known} = by_flag consumer.closed refl
    where
      never : IsUntraced account registry own consumer.closed
      never = untraced account registry own consumer s.keeps is

      by_flag : (b : Bool) → consumer.closed ≡ b
          → StandsFor account registry
          (record consumer { tracing = now; closed = is_closed; lines = n; known = known }) (asked (Ok close) ∷ life)
      by_flag true e =
          let stopped = ap is_stopped (never.standing ∙ ap phase_untraced e) in
          stands_changed account registry consumer life s (Ok close) _ own
          (closed_by account registry life true stopped)
          counts
          (record {
            same_account = s.keeps.same_account;
            options = s.keeps.options;
            clauses = s.keeps.clauses;
            ecbs = s.keeps.ecbs;
            shapes = s.keeps.shapes;
            tracing =
                let P : Option Tracing → Type 0 = λ o. MatchOption o (IsUntraced account registry own is_closed)
                (IsTracing account registry own) in
                subst P (sym none) (record {
                  quiet = never.quiet;
                  standing = never.standing ∙ ap phase_untraced (e ∙ sym set);
                });
          })
      by_flag false e =
          let going = ap is_stopped (never.standing ∙ ap phase_untraced e) in
          stands_changed account registry consumer life s (Ok close) _ (with_event own closed)
          (closed_by account registry life false going) counts
          (keeps_quiet account registry own consumer s.keeps closed true n never.quiet refl none set)
