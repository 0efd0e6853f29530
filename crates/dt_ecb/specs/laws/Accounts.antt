-- An account under another name enables the same.
use Rattle.std.proofs.Common.{◌≡◌, ℕ, ◌+◌, ◌-◌, ◌==◌, ◌&&◌, ◌||◌, Bool, true, false, not, List, ◌++◌, Option, map, filter}
use Rattle.std.proofs.Common.{length, ap, subst, ◌∙◌}
use Rattle.std.specs.Bool.{nat_lt}
use Rattle.std.specs.List.{flat_map, list_any, enumerate_from}
use Rattle.dt_cred.specs.declared.account.Account.{Account}
use Rattle.dt_cred.specs.declared.account.Process.{Process}
use Rattle.dt_cred.specs.declared.class.Class.{Class}
use Rattle.dt_cred.specs.declared.probe.Probe.{Probe}
use Rattle.dt_cred.specs.laws.Accounts.{renamed, enables}
use Rattle.dt_machine.specs.Registry.{Registry}
use Rattle.dt_program.specs.Description.{DescForm}
use Rattle.dt_program.specs.Program.{ClauseForm}
use Rattle.dt_ecb.specs.Ecbs.{EcbForm, numbered, added, ecbs_of}
use Rattle.dt_ecb.specs.Enable.{EnableVerdict, enabled, privilege, clash, unmatched, limit, IsFirstSuch}
use Rattle.dt_ecb.specs.Enable.{is_unmatched, may_do_all, is_too_much, is_enabled, IsVerdict}
use Rattle.dt_ecb.specs.Limits.{ecbs_max, aggregations_max}
use Rattle.dt_ecb.specs.Matching.{asks_for, traced_process, listed, matched}
use Rattle.dt_ecb.specs.Shapes.{ShapeForm, uses_of, any_clash, names_count}

module _ (account : Account) (name : List ℕ) (registry : Registry) where
  abbrev other : Account
  other = renamed account name

  -- what clauses match and descriptions list, by what may be enabled
  abbrev matched_by : (Class → Option Process → Bool) → ClauseForm → List Probe
  matched_by may clause = filter (λ (probe : Probe). may probe.class (traced_process registry probe.class)
      && list_any (λ (desc : DescForm). asks_for desc probe.tuple) clause.descriptions) registry.probes

  abbrev listed_by : (Class → Option Process → Bool) → DescForm → List Probe
  listed_by may desc = filter (λ (probe : Probe). may probe.class (traced_process registry probe.class)
      && asks_for desc probe.tuple) registry.probes

  abbrev added_by : (ClauseForm → List Probe) → ℕ → List ClauseForm → List EcbForm
  added_by matching epid clauses = map numbered (enumerate_from epid
      (flat_map (λ clause. map (λ (probe : Probe). (probe.id, clause)) (matching clause)) clauses))

  pub matched_alike : matched other registry ≡ matched account registry
  matched_alike = ap matched_by (enables account name)

  pub listed_alike : listed other registry ≡ listed account registry
  listed_alike = ap listed_by (enables account name)

  pub added_alike : added other registry ≡ added account registry
  added_alike = ap added_by matched_alike

  pub ecbs_alike : ecbs_of other registry ≡ ecbs_of account registry
  ecbs_alike = ap (λ adding. adding 1) added_alike

  pub unmatched_alike : is_unmatched other registry ≡ is_unmatched account registry
  unmatched_alike = ap (λ (matching : ClauseForm → List Probe). λ clause. length (matching clause) == 0) matched_alike

  module _ (accepted : List ShapeForm) (epid : ℕ) (clauses : List ClauseForm) where
    too_much_alike : is_too_much other registry accepted epid clauses ≡ is_too_much account registry accepted epid clauses
    too_much_alike = ap
        (λ (adding : ℕ → List ClauseForm → List EcbForm). nat_lt ecbs_max (epid - 1 + length (adding epid clauses))
        || nat_lt aggregations_max (names_count (accepted ++ uses_of clauses))) added_alike

    pub enabled_alike : is_enabled other registry accepted epid clauses ≡ is_enabled account registry accepted epid clauses
    enabled_alike =
        ap (λ (none : ClauseForm → Bool). may_do_all account registry accepted epid clauses
        && (not (any_clash accepted (uses_of clauses))
        && (not (list_any none clauses) && not (is_too_much other registry accepted epid clauses)))) unmatched_alike
        ∙ ap (λ much. may_do_all account registry accepted epid clauses
        && (not (any_clash accepted (uses_of clauses))
        && (not (list_any (is_unmatched account registry) clauses) && not much))) too_much_alike

    pub verdict_renamed : (verdict : EnableVerdict) → IsVerdict other registry accepted epid clauses verdict
        → IsVerdict account registry accepted epid clauses verdict
    verdict_renamed (privilege number) h = h
    verdict_renamed (clash word) h = h
    verdict_renamed (unmatched number) h =
        (h.0, h.1, subst (λ (none : ClauseForm → Bool). IsFirstSuch none clauses number) unmatched_alike h.2)
    verdict_renamed limit h = (
      h.0,
      h.1,
      subst (λ (none : ClauseForm → Bool). list_any none clauses ≡ false) unmatched_alike h.2,
      subst (λ much. much ≡ true) too_much_alike h.3,
    )
    verdict_renamed enabled h = subst (λ is. is ≡ true) enabled_alike h
