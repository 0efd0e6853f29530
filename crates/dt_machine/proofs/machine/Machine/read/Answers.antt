-- What the proof of `Machine::read` is told at its goals.
use Rattle.std.proofs.Common.{◌≡◌, ◌∙◌, ◌<◌, List, Some, Vec, Global, map, length, ap, sym, refl, subst, inr, arith}
use Rattle.std.proofs.lemmas.List.{length-map}
use Rattle.serde_json.specs.View.{view}
use Rattle.dt_machine.specs.declared.fault.FaultNumber.TheVariants.{Firing, Foreign}
use Rattle.dt_cred.specs.declared.firing.Firing.{Firing as FiringType}
use Rattle.dt_machine.specs.Found.{IsFoundIn, IsFoundOfFiring}
use Rattle.dt_machine.specs.Reading.{AllRightIn, IsFaultOf, IsFirstWrongIn, IsDescribed, scripts_in, UnlessMemory}
use Rattle.dt_machine.specs.Registry.{Belongs, Contents, IsSound}
use Rattle.dt_machine.specs.Rows.{FiringRow, HasRoom, IsRightFiring, script_rows, scripts}
use Rattle.dt_machine.specs.Sections.{registry_of, scripts_rows}
use Rattle.dt_machine.proofs.Exits.{passed_on}
use Rattle.dt_machine.proofs.Faults.{one_more, first_fault, all_pass}
use Rattle.dt_machine.proofs.Searching.{length-rows}
use Rattle.dt_machine.specs.laws.Soundness.{cpus_within, one_script_each, sound}
use Rattle.dt_machine.specs.laws.Scripts.{length-scripts}
use Rattle.dt_machine.proofs.Soundness.{has_passed, short_scripts}
use Rattle.dt_machine.proofs.machine.Machine.read.Goals as goal
use Rattle.dt_machine.specs.Limits.{script_max}

abbrev shown : Vec FiringType Global → List FiringType
shown script = script.items

pub read_scripts-requires-clause-few : goal.read_scripts-requires-clause-few
read_scripts-requires-clause-few c =
    let d = view c.in_ok-file.file in
    let s = c.in_ok-sections.sections in
    let h = has_passed d s c.in_ok-sections.ensures.ok in
    let cpus = cpus_within d (registry_of s) h in
    let same : scripts_rows c.list_at.result.now ≡ scripts_in d = ap (map script_rows) c.list_at.ensures in
    omega (
      arith,
      cpus.1,
      one_script_each d (registry_of s) h,
      ap length same,
      length-rows script_rows c.list_at.result.now,
    )

pub read_scripts-requires-clause-short : goal.read_scripts-requires-clause-short
read_scripts-requires-clause-short c =
    let d = view c.in_ok-file.file in
    let h = has_passed d c.in_ok-sections.sections c.in_ok-sections.ensures.ok in
    let same : scripts_rows c.list_at.result.now ≡ scripts_in d = ap (map script_rows) c.list_at.ensures in
    let S : List (List FiringRow) → Type 0 = AllRightIn HasRoom in
    subst S (sym same) h.scripts.1

pub returns-in_err-scripts-clause-fault : goal.returns-in_err-scripts-clause-fault
returns-in_err-scripts-clause-fault c =
    let d = view c.in_ok-file.file in
    let s = c.in_ok-sections.sections in
    let a = c.in_ok-sections.ensures.ok in
    let e = c.in_err-scripts.field-0.0 in
    let same : scripts_rows c.list_at.result.now ≡ scripts_in d = ap (map script_rows) c.list_at.ensures in
    let W : List (List FiringRow) → Type 0 = λ rows. IsFirstWrongIn
    (IsRightFiring (registry_of c.in_ok-sections.sections)) rows e.cpu e.row in
    let T : List (List FiringRow) → Type 0 = λ rows. IsFoundIn
    (λ cpu at _. IsFoundOfFiring (registry_of c.in_ok-sections.sections) cpu at) rows e.cpu e.row e.found in
    passed_on (λ fault. UnlessMemory fault (IsFaultOf c.args.text.now fault)) c.from_residual-in_err-scripts.result
    e c.from_residual-in_err-scripts.ensures.1
    (λ other.
    let f = c.in_err-scripts.ensures.fault other in
    inr (
      d,
      c.in_ok-file.ensures.ok,
      first_fault d e Firing f.0 (registry_of s, a.registers, subst W same f.1)
          (registry_of s, a.registers, subst T same f.2) a.passed,
    ))

pub first_foreign-requires-clause-few : goal.first_foreign-requires-clause-few
first_foreign-requires-clause-few c =
    let d = view c.in_ok-file.file in
    let s = c.in_ok-sections.sections in
    let h = has_passed d s c.in_ok-sections.ensures.ok in
    let cpus = cpus_within d (registry_of s) h in
    let same : scripts_rows c.list_at.result.now ≡ scripts_in d = ap (map script_rows) c.list_at.ensures in
    let all : map shown c.in_ok-scripts.scripts.items ≡ scripts 0 (scripts_in d) = c.in_ok-scripts.ensures.scripts
    ∙ ap (scripts 0) same in
    omega (
      arith,
      cpus.1,
      one_script_each d (registry_of s) h,
      ap length all,
      length-scripts 0 (scripts_in d),
      length-map c.in_ok-scripts.scripts.items shown,
      ap length c.as_slice.ensures.value,
    )

pub first_foreign-requires-clause-short : goal.first_foreign-requires-clause-short
first_foreign-requires-clause-short c =
    let d = view c.in_ok-file.file in
    let h = has_passed d c.in_ok-sections.sections c.in_ok-sections.ensures.ok in
    let same : scripts_rows c.list_at.result.now ≡ scripts_in d = ap (map script_rows) c.list_at.ensures in
    let all : map shown c.as_slice.result.now ≡ scripts 0 (scripts_in d) = ap (map shown) c.as_slice.ensures.value
    ∙ c.in_ok-scripts.ensures.scripts ∙ ap (scripts 0) same in
    let S : List (List FiringType) → Type 0 = AllRightIn (λ before _. length before < script_max) in
    subst S (sym all) (short_scripts (scripts_in d) h.scripts.1)

pub returns-in-Some-clause-fault : goal.returns-in-Some-clause-fault
returns-in-Some-clause-fault c other =
    let d = view c.in_ok-file.file in
    let s = c.in_ok-sections.sections in
    let a = c.in_ok-sections.ensures.ok in
    let same : scripts_rows c.list_at.result.now ≡ scripts_in d = ap (map script_rows) c.list_at.ensures in
    let all : map shown c.as_slice.result.now ≡ scripts 0 (scripts_in d) = ap (map shown) c.as_slice.ensures.value
    ∙ c.in_ok-scripts.ensures.scripts ∙ ap (scripts 0) same in
    let R : List (List FiringRow) → Type 0 = AllRightIn (IsRightFiring (registry_of c.in_ok-sections.sections)) in
    let W : List (List FiringType) → Type 0 = λ found. IsFirstWrongIn
    (λ _ firing. Belongs (registry_of c.in_ok-sections.sections) firing) found c.in-Some.cpu c.in-Some.row in
    let before = one_more d Firing a.passed (registry_of s, a.registers, subst R same c.in_ok-scripts.ensures.right) in
    inr (
      d,
      c.in_ok-file.ensures.ok,
      first_fault d _ Foreign refl
          (registry_of s, a.registers, subst W all c.in-Some.ensures) (ap Some c.has.ensures) before,
    )

pub new-requires-clause-sound : goal.new-requires-clause-sound
new-requires-clause-sound c =
    let d = view c.in_ok-file.file in
    let s = c.in_ok-sections.sections in
    let h = has_passed d s c.in_ok-sections.ensures.ok in
    let same : scripts_rows c.list_at.result.now ≡ scripts_in d = ap (map script_rows) c.list_at.ensures in
    let found : map shown c.in_ok-scripts.scripts.items ≡ scripts 0 (scripts_in d) =
    c.in_ok-scripts.ensures.scripts ∙ ap (scripts 0) same in
    let all : map shown c.as_slice.result.now ≡ scripts 0 (scripts_in d) = ap (map shown) c.as_slice.ensures.value
    ∙ found in
    let B : List (List FiringType) → Type 0 =
    AllRightIn (λ _ firing. Belongs (registry_of c.in_ok-sections.sections) firing) in
    let S : List (List FiringType) → Type 0 = λ firings. IsSound
    (record { registry = registry_of c.in_ok-sections.sections; scripts = firings }) in
    subst S (sym found) (sound d (registry_of s) h (subst B all c.in-None.ensures))

pub returns-in-None-clause-ok : goal.returns-in-None-clause-ok
returns-in-None-clause-ok c =
    let d = view c.in_ok-file.file in
    let s = c.in_ok-sections.sections in
    let a = c.in_ok-sections.ensures.ok in
    let same : scripts_rows c.list_at.result.now ≡ scripts_in d = ap (map script_rows) c.list_at.ensures in
    let found : map shown c.in_ok-scripts.scripts.items ≡ scripts 0 (scripts_in d) =
    c.in_ok-scripts.ensures.scripts ∙ ap (scripts 0) same in
    let all : map shown c.as_slice.result.now ≡ scripts 0 (scripts_in d) = ap (map shown) c.as_slice.ensures.value
    ∙ found in
    let R : List (List FiringRow) → Type 0 = AllRightIn (IsRightFiring (registry_of c.in_ok-sections.sections)) in
    let B : List (List FiringType) → Type 0 =
    AllRightIn (λ _ firing. Belongs (registry_of c.in_ok-sections.sections) firing) in
    let before = one_more d Foreign (one_more d Firing a.passed
    (registry_of s, a.registers, subst R same c.in_ok-scripts.ensures.right))
    (registry_of s, a.registers, subst B all c.in-None.ensures) in
    let I : Contents → Type 0 = IsDescribed c.args.text.now in
    subst I (sym c.new.ensures) (record {
      data_of = d;
      json = c.in_ok-file.ensures.ok;
      right = all_pass d before;
      registry = a.registers;
      firings = found;
    })
