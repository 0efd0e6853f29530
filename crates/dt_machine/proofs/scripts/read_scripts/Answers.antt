-- What the proof of `read_scripts` is told at its goals.
use Rattle.std.proofs.Common.{◌≡◌, ◌∙◌, ap, sym, map, length, subst, List, ℕ, Vec, Global, arith, [], ◌∷◌, ◌++◌}
use Rattle.std.proofs.lemmas.List.{map_push}
use Rattle.serde_json.specs.View.{view}
use Rattle.dt_machine.specs.Found.{IsFoundAt, IsFoundIn, IsFoundOfFiring}
use Rattle.dt_machine.specs.Reading.{AllRight, IsFirstWrong, IsFirstWrongIn, UnlessMemory}
use Rattle.dt_machine.specs.Rows.{FiringRow, firing_row, script_rows, script, IsRightFiring}
use Rattle.dt_machine.specs.Sections.{firing_rows, scripts_rows, registry_of}
use Rattle.dt_machine.specs.declared.fault.FaultNumber.TheVariants.{Firing as FiringNumber}
use Rattle.dt_cred.specs.declared.firing.Firing.{Firing}
use Rattle.dt_machine.proofs.Exits.{passed_on}
use Rattle.dt_machine.specs.laws.Scripts.{few_rows}
use Rattle.dt_machine.proofs.Firings.{scripts_next}
use Rattle.dt_machine.proofs.Searching.{row_at, right_more, right_all, length-rows}
use Rattle.dt_machine.proofs.scripts.read_scripts.Goals as goal
use Rattle.dt_machine.specs.Limits.{script_max}

pub read_script-requires-clause-short : goal.read_script-requires-clause-short
read_script-requires-clause-short c =
    let rows = script_rows (view c.index-scripts-cpu.result) in
    let there = row_at script_rows c.args.scripts.now c.loop-cpu.cpu c.index-scripts-cpu.result
    c.loop-cpu-test.true c.index-scripts-cpu.is in
    let counted : length (firing_rows c.items_of.result.now) ≡ length rows =
    ap (λ ds. length (map firing_row ds)) c.items_of.ensures in
    omega (
      arith,
      few_rows rows script_max (c.requires.short c.loop-cpu.cpu rows there),
      counted,
      length-rows firing_row c.items_of.result.now,
    )

pub returns-in_err-firings-clause-fault : goal.returns-in_err-firings-clause-fault
returns-in_err-firings-clause-fault c =
    let all = scripts_rows c.args.scripts.now in
    let e = c.in_err-firings.field-0.0 in
    let rows = script_rows (view c.index-scripts-cpu.result) in
    let there = row_at script_rows c.args.scripts.now c.loop-cpu.cpu c.index-scripts-cpu.result
    c.loop-cpu-test.true c.index-scripts-cpu.is in
    let same : firing_rows c.items_of.result.now ≡ rows = ap (map firing_row) c.items_of.ensures in
    let F : List FiringRow → Type 0 = λ rs. IsFirstWrong (IsRightFiring (registry_of c.args.sections.now)) rs e.row in
    let I : ℕ → Type 0 = λ k. IsFirstWrongIn (IsRightFiring (registry_of c.args.sections.now)) all k e.row in
    let T : List FiringRow → Type 0 = λ rs. IsFoundAt (λ at _. IsFoundOfFiring (registry_of c.args.sections.now)
    c.loop-cpu.cpu at) rs e.row e.found in
    let J : ℕ → Type 0 = λ k. IsFoundIn (λ cpu at _. IsFoundOfFiring (registry_of c.args.sections.now) cpu at) all k
    e.row e.found in
    passed_on (λ fault. UnlessMemory fault ((fault.number ≡ FiringNumber)
    × IsFirstWrongIn (IsRightFiring (registry_of c.args.sections.now)) all fault.cpu fault.row
    × IsFoundIn (λ cpu at _. IsFoundOfFiring (registry_of c.args.sections.now) cpu at) all fault.cpu fault.row
    fault.found))
    c.from_residual.result e c.from_residual.ensures.1
    (λ other.
    let f = c.in_err-firings.ensures.fault other in (
      f.0,
      subst I (sym f.1) (record {
        script = rows;
        there = there;
        first = subst F same f.2;
        right_before =
            c.loop-cpu.invariant.right;
      }),
      subst J (sym f.1) (record { script = rows; there = there; tells = subst T same f.3 }),
    ))

pub loop-cpu-preserved : goal.loop-cpu-preserved
loop-cpu-preserved c =
    let all = scripts_rows c.args.scripts.now in
    let i = c.loop-cpu.cpu in
    let rows = script_rows (view c.index-scripts-cpu.result) in
    let there = row_at script_rows c.args.scripts.now i c.index-scripts-cpu.result c.loop-cpu-test.true
    c.index-scripts-cpu.is in
    let same : firing_rows c.items_of.result.now ≡ rows = ap (map firing_row) c.items_of.ensures in
    let A : List FiringRow → Type 0 = AllRight (IsRightFiring (registry_of c.args.sections.now)) in
    let shown : Vec Firing Global → List Firing = λ s. s.items in
    record {
      right = right_more (λ _ rs. AllRight (IsRightFiring (registry_of c.args.sections.now)) rs) all i rows
          c.loop-cpu.invariant.right there (subst A same c.in_ok-firings.ensures.right);
      read = ap (map shown) c.in_ok-push.ensures.items ∙ map_push shown c.loop-cpu.found.items c.in_ok-firings.firings
          ∙ ap (λ s. map shown c.loop-cpu.found.items ++ s ∷ [])
          (c.in_ok-firings.ensures.script ∙ ap (script i 0) same)
          ∙ scripts_next all i rows (map shown c.loop-cpu.found.items) there c.loop-cpu.invariant.read;
    }

pub returns-clause-right : goal.returns-clause-right
returns-clause-right c =
    right_all (λ _ rows. AllRight (IsRightFiring (registry_of c.args.sections.now)) rows)
    (scripts_rows c.args.scripts.now) c.loop-cpu.cpu
    (omega (arith, length-rows script_rows c.args.scripts.now, c.loop-cpu-test.false)) c.loop-cpu.invariant.right
