-- How many ECBs an enabled program adds.
use Rattle.std.proofs.Common.{◌≡◌, ℕ, ◌+◌, ◌-◌, ◌≤◌, ◌&&◌, ◌||◌, not, Bool, true, false, List, [], ◌∷◌, length, refl}
use Rattle.std.proofs.Common.{◌∙◌, arith}
use Rattle.std.specs.List.{list_any, enumerate_from}
use Rattle.std.proofs.lemmas.List.{length-append, length-map}
use Rattle.std.proofs.lemmas.List.FromFn.{length-enumerate_from}
use Rattle.std.proofs.lemmas.Bool.{eqb-false, ltb-false}
use Rattle.dt_cred.specs.declared.account.Account.{Account}
use Rattle.dt_cred.specs.declared.probe.Probe.{Probe}
use Rattle.dt_machine.specs.Registry.{Registry}
use Rattle.dt_program.specs.Clause.{ClauseForm}
use Rattle.dt_ecb.specs.Ecbs.{numbered, pairs_of, pairs_of_clause, added}
use Rattle.dt_ecb.specs.Enable.{may_do_all, is_too_much, is_unmatched, is_enabled}
use Rattle.dt_ecb.specs.Matching.{matched}
use Rattle.dt_ecb.specs.Shapes.{ShapeForm, uses_of, any_clash}
use Rattle.dt_ecb.specs.Limits.{ecbs_max}

-- what is enabled
both : (a b : Bool) → (a && b) ≡ true → (a ≡ true) × (b ≡ true)
both true b e = (refl, e)
both false b e = cc

none : (b : Bool) → not b ≡ true → b ≡ false
none true e = cc
none false e = refl

neither : (a b : Bool) → (a || b) ≡ false → (a ≡ false) × (b ≡ false)
neither true b e = cc
neither false b e = (refl, e)

module _ (account : Account) (registry : Registry) where
  abbrev at_clause : ClauseForm → Probe → ℕ × ClauseForm
  at_clause clause probe = (probe.id, clause)

  -- clauses that all match make at least as many ECBs
  pub matched_many : (clauses : List ClauseForm) → list_any (is_unmatched account registry) clauses ≡ false
      → length clauses ≤ length (pairs_of account registry clauses)
  matched_many [] e = omega arith
  matched_many (clause ∷ clauses) e =
      let two = neither (is_unmatched account registry clause) (list_any (is_unmatched account registry) clauses) e in
      let some = eqb-false (length (matched account registry clause)) 0 two.0 in
      omega (
        arith,
        matched_many clauses two.1,
        length-append (pairs_of_clause account registry clause) (pairs_of account registry clauses),
        length-map (matched account registry clause) (at_clause clause),
        some,
      )

  pub length-added : (epid : ℕ) (clauses : List ClauseForm)
      → length (added account registry epid clauses) ≡ length (pairs_of account registry clauses)
  length-added epid clauses =
      length-map (enumerate_from epid (pairs_of account registry clauses)) numbered
      ∙ length-enumerate_from epid (pairs_of account registry clauses)

  module _ (shapes : List ShapeForm) (epid : ℕ) (clauses : List ClauseForm)
      (holds : is_enabled account registry shapes epid clauses ≡ true) where
    after_rights : (not (any_clash shapes (uses_of clauses))
        && (not (list_any (is_unmatched account registry) clauses)
        && not (is_too_much account registry shapes epid clauses))) ≡ true
    after_rights = (both (may_do_all account registry shapes epid clauses) _ holds).1

    after_clash : (not (list_any (is_unmatched account registry) clauses)
        && not (is_too_much account registry shapes epid clauses)) ≡ true
    after_clash = (both (not (any_clash shapes (uses_of clauses))) _ after_rights).1

    pub many_ecbs : length clauses ≤ length (added account registry epid clauses)
    many_ecbs =
        omega (
          arith,
          length-added epid clauses,
          matched_many clauses
              (none (list_any (is_unmatched account registry) clauses)
              (both (not (list_any (is_unmatched account registry) clauses)) _ after_clash).0),
        )

    pub few_ecbs : epid - 1 + length (added account registry epid clauses) ≤ ecbs_max
    few_ecbs =
        ltb-false ecbs_max (epid - 1 + length (added account registry epid clauses))
        (neither _ _
        (none (is_too_much account registry shapes epid clauses)
        (both (not (list_any (is_unmatched account registry) clauses)) _ after_clash).1)).0
