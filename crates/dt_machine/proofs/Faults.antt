-- The first fault, number by number.
use Rattle.std.proofs.Common.{◌≡◌, ◌<◌, ◌+◌, ◌⊎◌, inl, inr, ℕ, zero, suc, lit<, refl, sym, ap, ◌∙◌, subst, arith}
use Rattle.serde_json.specs.Data.{Data}
use Rattle.dt_machine.specs.declared.fault.FaultNumber.{FaultNumber}
use Rattle.dt_machine.specs.declared.fault.FaultNumber.TheVariants.{Json, Shape, Cpus, Account, Process, Probe, Script}
use Rattle.dt_machine.specs.declared.fault.FaultNumber.TheVariants.{Firing, Foreign, Memory}
use Rattle.dt_machine.specs.declared.fault.MachineFault.{MachineFault}
use Rattle.dt_machine.specs.Reading.{Passes, Finds, FaultTells, rank_of, IsFirstFinding}
use Rattle.dt_machine.specs.Sections.{PassesBefore}

abbrev number_at : ℕ → FaultNumber
number_at zero = Memory
number_at (suc zero) = Json
number_at (suc (suc zero)) = Shape
number_at (suc (suc (suc zero))) = Cpus
number_at (suc (suc (suc (suc zero)))) = Account
number_at (suc (suc (suc (suc (suc zero))))) = Process
number_at (suc (suc (suc (suc (suc (suc zero)))))) = Probe
number_at (suc (suc (suc (suc (suc (suc (suc zero))))))) = Script
number_at (suc (suc (suc (suc (suc (suc (suc (suc zero)))))))) = Firing
number_at (suc (suc (suc (suc (suc (suc (suc (suc (suc zero))))))))) = Foreign
number_at (suc (suc (suc (suc (suc (suc (suc (suc (suc (suc n)))))))))) = Memory

at_number : (number : FaultNumber) → number_at (rank_of number) ≡ number
at_number Json = refl
at_number Shape = refl
at_number Cpus = refl
at_number Account = refl
at_number Process = refl
at_number Probe = refl
at_number Script = refl
at_number Firing = refl
at_number Foreign = refl
at_number Memory = refl

pub one_number : (a b : FaultNumber) → rank_of a ≡ rank_of b → a ≡ b
one_number a b e = sym (at_number a) ∙ ap number_at e ∙ at_number b

at_or_below : (k n : ℕ) → k < n + 1 → (k < n) ⊎ (k ≡ n)
at_or_below k n h = grind arith

-- the text was JSON: only Json goes before Shape
pub json_passes : (d : Data) → PassesBefore 2 d
json_passes d Json h = tt
json_passes d Shape h = absurd (omega arith)
json_passes d Cpus h = absurd (omega arith)
json_passes d Account h = absurd (omega arith)
json_passes d Process h = absurd (omega arith)
json_passes d Probe h = absurd (omega arith)
json_passes d Script h = absurd (omega arith)
json_passes d Firing h = absurd (omega arith)
json_passes d Foreign h = absurd (omega arith)
json_passes d Memory h = absurd (omega arith)

pub one_more : (d : Data) (number : FaultNumber) → PassesBefore (rank_of number) d → Passes number d
    → PassesBefore (rank_of number + 1) d
one_more d number before passes earlier below = elim (at_or_below (rank_of earlier) (rank_of number) below) [
  | inl less ↦ before earlier less
  | inr same ↦ let P : FaultNumber → Type 0 = λ n. Passes n d in subst P (sym (one_number earlier number same)) passes
]

pub first_fault : (d : Data) (fault : MachineFault) (number : FaultNumber) → fault.number ≡ number
    → Finds number d fault.cpu fault.row → FaultTells number d fault.cpu fault.row fault.found
    → PassesBefore (rank_of number) d → IsFirstFinding d fault
first_fault d fault number is found tells before =
    let F : FaultNumber → Type 0 = λ n. Finds n d fault.cpu fault.row in
    let T : FaultNumber → Type 0 = λ n. FaultTells n d fault.cpu fault.row fault.found in
    let B : FaultNumber → Type 0 = λ n. PassesBefore (rank_of n) d in
    record { found = subst F (sym is) found; tells = subst T (sym is) tells; none_before = subst B (sym is) before }

number_below : (number : FaultNumber) → rank_of number < 11
number_below Json = lit< tt
number_below Shape = lit< tt
number_below Cpus = lit< tt
number_below Account = lit< tt
number_below Process = lit< tt
number_below Probe = lit< tt
number_below Script = lit< tt
number_below Firing = lit< tt
number_below Foreign = lit< tt
number_below Memory = lit< tt

pub all_pass : (d : Data) → PassesBefore 10 d → (number : FaultNumber) → Passes number d
all_pass d before number = one_more d Memory before tt number (number_below number)
