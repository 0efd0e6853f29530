-- What the number of an ECB finds in a life, by the ECBs that are kept for it.
use Rattle.std.proofs.Common.{◌≡◌, ℕ, ◌<◌, ◌==◌, List, Option, Some, None, length, map, sym, ap, ◌∙◌, arith}
use Rattle.std.specs.List.{find}
use Rattle.std.specs.Option.{option_map, option_and_then}
use Rattle.std.proofs.lemmas.List.{length-map}
use Rattle.std.proofs.lemmas.List.Elements.{recursion_from_All}
use Rattle.dt_cred.specs.declared.account.Account.{Account}
use Rattle.dt_cred.specs.declared.probe.Probe.{Probe}
use Rattle.dt_machine.specs.Registry.{Registry, probe_of}
use Rattle.dt_lang.specs.Program.{form_of_clause}
use Rattle.dt_program.specs.declared.clause.Clause.{Clause}
use Rattle.dt_ecb.specs.Ecbs.{EcbForm}
use Rattle.dt_ecb.specs.Forms.{form_of_ecb}
use Rattle.dt_ecb.specs.declared.parts.Ecb.{Ecb}
use Rattle.dt_life.specs.Life.{Item, SetUp, set_up, ecbs_in}
use Rattle.dt_life.specs.Placed.{AreEcbs}
use Rattle.dt_life.specs.Reply.{ecb_of}
use Rattle.dt_life.specs.laws.Lists.{find-map, find_all}

module _ (account : Account) (registry : Registry) (life : List Item) (ecbs : List Ecb)
    (are : AreEcbs (set_up account registry life).clauses (ecbs_in account registry (set_up account registry life)) ecbs)
    (epid : ℕ) where
  abbrev own : SetUp
  own = set_up account registry life

  abbrev with_probe : EcbForm → Option (Probe × EcbForm)
  with_probe ecb = option_map (λ probe. (probe, ecb)) (probe_of registry ecb.probe)

  ecb_found : (o : Option Ecb) → o ≡ find (λ (ecb : Ecb). ecb.epid == epid) ecbs
      → ecb_of account registry life epid ≡ option_and_then with_probe (option_map (form_of_ecb own.clauses) o)
  ecb_found o e =
      ap (λ es. option_and_then with_probe (find (λ (ecb : EcbForm). ecb.epid == epid) es)) (sym are.forms)
      ∙ ap
      (option_and_then with_probe)
      (find-map (form_of_ecb own.clauses) (λ (ecb : EcbForm). ecb.epid == epid) ecbs
      ∙ ap (option_map (form_of_ecb own.clauses)) (sym e))

  -- there is none of the number
  pub ecb_none : None ≡ find (λ (ecb : Ecb). ecb.epid == epid) ecbs → ecb_of account registry life epid ≡ None
  ecb_none e = ecb_found None e

  module _ (ecb : Ecb) (is : Some ecb ≡ find (λ (ecb : Ecb). ecb.epid == epid) ecbs) where
    -- there is one, whose probe the machine lacks
    pub probe_none : None ≡ probe_of registry ecb.probe → ecb_of account registry life epid ≡ None
    probe_none e =
        ecb_found (Some ecb) is
        ∙ ap (λ o. option_map (λ (probe : Probe). (probe, form_of_ecb own.clauses ecb)) o) (sym e)

    -- there is one, with its probe
    pub ecb_some : (probe : Probe) → Some probe ≡ probe_of registry ecb.probe
        → ecb_of account registry life epid ≡ Some (probe, form_of_ecb own.clauses ecb)
    ecb_some probe e =
        ecb_found (Some ecb) is
        ∙ ap (λ o. option_map (λ (probe : Probe). (probe, form_of_ecb own.clauses ecb)) o) (sym e)

    -- its clause is one of those that are kept
    pub clause_known : (clauses : List Clause) → map form_of_clause clauses ≡ own.clauses → ecb.clause < length clauses
    clause_known clauses same =
        let there : ecb.clause < length own.clauses =
        find_all (λ (e : Ecb). e.clause < length own.clauses) _ ecbs ecb (recursion_from_All _ ecbs are.placed) (sym is) in
        omega (arith, there, ap length same, length-map clauses form_of_clause)
