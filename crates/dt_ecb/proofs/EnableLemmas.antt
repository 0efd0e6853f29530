-- What the parts of `enable` come to.
use Rattle.std.proofs.Common.{◌≡◌, ℕ, ◌+◌, ◌-◌, ◌<◌, ◌≤◌, ◌||◌, Bool, ltb, List, ◌++◌, Option, Some, None, length, map}
use Rattle.std.proofs.Common.{refl, sym, ap, ◌∙◌}
use Rattle.std.specs.List.{All}
use Rattle.std.specs.Option.{MatchOption}
use Rattle.std.proofs.lemmas.List.{length-map}
use Rattle.std.proofs.lemmas.List.Elements.{All-from_recursion}
use Rattle.dt_cred.specs.declared.account.Account.{Account}
use Rattle.dt_machine.specs.Registry.{Registry}
use Rattle.dt_program.specs.Program.{ClauseForm}
use Rattle.dt_ecb.specs.Ecbs.{added}
use Rattle.dt_ecb.specs.Enable.{is_too_much}
use Rattle.dt_ecb.specs.Forms.{form_of_ecb}
use Rattle.dt_ecb.specs.Places.{kept_in, kept_from, keys_from}
use Rattle.dt_ecb.specs.Shapes.{ShapeForm, uses_of, names_count}
use Rattle.dt_ecb.specs.declared.limits.TheConstants.{ECBS_MAX, AGGREGATIONS_MAX}
use Rattle.dt_ecb.specs.declared.parts.Ecb.{Ecb}
use Rattle.dt_ecb.proofs.EcbLaws.{added_by_keys}
use Rattle.dt_ecb.proofs.PlaceLemmas.{all_placed}

-- what is no answer is none
pub no_answer : {X : Type 0} (o : Option X) (P : Type 0) (Q : X → Type 0) → ((x : X) → o ≡ Some x → ⊥)
    → MatchOption o P Q → P
no_answer None P Q never h = h
no_answer (Some x) P Q never h = absurd (never x refl)

-- the test of the limits, by how many ECBs and which uses there are
abbrev pub much_by : ℕ → ℕ → List ShapeForm → Bool
much_by epid count all = ltb ECBS_MAX (epid - 1 + count) || ltb AGGREGATIONS_MAX (names_count all)

module _ (account : Account) (registry : Registry) (accepted : List ShapeForm) (epid : ℕ) (clauses : List ClauseForm)
    (ecbs : List Ecb) (made : map kept_in ecbs ≡ kept_from epid (keys_from account registry 0 clauses)) where
  pub forms_are : map (form_of_ecb clauses) ecbs ≡ added account registry epid clauses
  forms_are = added_by_keys account registry epid clauses ecbs made

  pub much_is : (count : ℕ) (all : List ShapeForm) → count ≡ length ecbs → all ≡ accepted ++ uses_of clauses
      → much_by epid count all ≡ is_too_much account registry accepted epid clauses
  much_is count all counted uses =
      ap (λ n. much_by epid n all)
      (counted ∙ sym (length-map ecbs (form_of_ecb clauses)) ∙ ap length forms_are)
      ∙ ap (much_by epid (length (added account registry epid clauses))) uses

  pub placed : (bound : ℕ) → length clauses ≤ bound → All (λ (ecb : Ecb). ecb.clause < bound) ecbs
  placed bound few =
      All-from_recursion (λ (ecb : Ecb). ecb.clause < bound) ecbs
      (all_placed account registry epid bound clauses ecbs few made)
