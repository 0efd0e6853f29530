-- What the proof of `shape_fault` is told at its goals.
use Rattle.std.proofs.Common.{◌≡◌, true, ap, sym, inl, inr, is_some, subst, Option}
use Rattle.serde_json.specs.Find.{as_object}
use Rattle.serde_json.specs.View.{view}
use Rattle.dt_machine.specs.declared.fault.MachineFault.{MachineFault}
use Rattle.dt_machine.specs.declared.found.Found.{Found}
use Rattle.dt_machine.specs.Found.{IsFoundOfShape}
use Rattle.dt_machine.proofs.Shapes.{no_object, not_true, file_wrong}
use Rattle.dt_machine.proofs.shape.shape_fault.Goals as goal

pub returns-then-not-is_object : goal.returns-then-not-is_object
returns-then-not-is_object c =
    let d = view c.args.file.now in
    let e = c.nowhere.ensures in
    let no : is_some (as_object d) ≡ true → ⊥ = λ yes. cc (c.is_object.ensures, c.if-not-is_object.true, yes) in (
      ap (λ (fault : MachineFault). fault.number) e,
      no_object d no,
      (ap (λ (fault : MachineFault). fault.cpu) e, ap (λ (fault : MachineFault). fault.row) e),
      inl (no, ap (λ (fault : MachineFault). fault.found) e),
    )

pub returns-in-Some : goal.returns-in-Some
returns-in-Some c =
    let d = view c.args.file.now in
    let e = c.at_row.ensures in
    let yes : is_some (as_object d) ≡ true = cc (c.is_object.ensures, c.if-not-is_object.false) in
    let F : Option Found → Type 0 = IsFoundOfShape d in (
      ap (λ (fault : MachineFault). fault.number) e,
      not_true _ (file_wrong d c.in-Some.found c.in-Some.ensures),
      (ap (λ (fault : MachineFault). fault.cpu) e, ap (λ (fault : MachineFault). fault.row) e),
      subst F (sym (ap (λ (fault : MachineFault). fault.found) e)) (inr (yes, c.in-Some.ensures)),
    )
