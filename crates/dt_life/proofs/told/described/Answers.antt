-- The ECB of a number, with its probe and its clause; or there is none.
use Rattle.std.proofs.Common.{◌≡◌, List, get_or, refl, sym, ap, ◌∙◌, arith}
use Rattle.dt_lang.specs.Program.{ClauseForm, form_of_clause}
use Rattle.dt_record.specs.Layout.{layout_of}
use Rattle.dt_record.specs.Fields.{form_of_layout}
use Rattle.dt_ecb.specs.Forms.{no_clause}
use Rattle.dt_life.specs.Answer.{described}
use Rattle.dt_life.specs.Life.{set_up}
use Rattle.dt_life.specs.laws.Takings.{clause_found}
use Rattle.dt_life.specs.laws.Options.{match_none, match_some}
use Rattle.dt_life.specs.laws.Numbered.{ecb_none, probe_none, ecb_some, clause_known}
use Rattle.dt_life.specs.laws.Placed.{number_found}
use Rattle.dt_life.proofs.told.described.Goals as goal

pub returns-in_err-ecb : goal.returns-in_err-ecb
returns-in_err-ecb c = λ account life own are.
    match_none _ _ _
    (ecb_none account c.args.machine.now.registry life c.args.ecbs.now are c.args.epid c.in_err-ecb.ensures)
    c.from_residual.ensures

pub returns-in_err-probe : goal.returns-in_err-probe
returns-in_err-probe c = λ account life own are.
    match_none _ _ _
    (probe_none account c.args.machine.now.registry life c.args.ecbs.now are c.args.epid c.in_ok-ecb.ecb.now
    c.in_ok-ecb.ensures c.in_err-probe.ensures.value) c.from_residual-in_err-probe.ensures

pub returns-in_err-clause : goal.returns-in_err-clause
returns-in_err-clause c = λ account life own are.
    let known = clause_known account c.args.machine.now.registry life c.args.ecbs.now are c.args.epid
    c.in_ok-ecb.ecb.now c.in_ok-ecb.ensures c.args.clauses.now own in
    absurd (omega (arith, known, c.in_err-clause.ensures.lookup))

pub returns : goal.returns
returns c = λ account life own are.
    let registry = c.args.machine.now.registry in
    let ecb = c.in_ok-ecb.ecb.now in
    let clause = c.in_ok-clause.clause.now in
    let its : layout_of
    (get_or (set_up account c.args.machine.now.registry life).clauses c.in_ok-ecb.ecb.now.clause no_clause)
    ≡ layout_of (form_of_clause c.in_ok-clause.clause.now) =
    ap (λ (cs : List ClauseForm). layout_of (get_or cs c.in_ok-ecb.ecb.now.clause no_clause)) (sym own)
    ∙ ap layout_of (clause_found c.args.clauses.now ecb.clause clause
    (clause_known account registry life c.args.ecbs.now are c.args.epid ecb c.in_ok-ecb.ensures c.args.clauses.now own)
    (c.in_ok-clause.ensures.lookup.3.1 clause)) in
    match_some _ _ _ _
    (ecb_some account registry life c.args.ecbs.now are c.args.epid ecb
    c.in_ok-ecb.ensures c.in_ok-probe.probe.now c.in_ok-probe.ensures.value) (
      _,
      refl,
      ap (λ n. described n c.in_ok-probe.probe.now (form_of_layout c.of.result))
          (number_found c.args.epid c.args.ecbs.now c.in_ok-ecb.ecb.now c.in_ok-ecb.ensures)
          ∙ ap (described c.args.epid c.in_ok-probe.probe.now) (c.of.ensures ∙ sym its),
    )
