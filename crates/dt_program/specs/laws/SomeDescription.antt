-- Each text is read as a description or refused for its first fault, in one way: the reading itself, for the definitions
-- of crates above.
use Rattle.std.proofs.Common.{◌≡◌, ℕ, List, Result, Err, ⊎_elim}
use Rattle.dt_names.specs.laws.Answering.{some_answer}
use Rattle.dt_glob.specs.laws.Places.{answer}
use Rattle.dt_glob.specs.laws.Readings.{reading_of-spelled, reading_of-fault}
use Rattle.dt_glob.specs.Fault.{FaultOf}
use Rattle.dt_glob.specs.PatternItem.{PatternItem}
use Rattle.dt_glob.specs.Spells.{Spells}
use Rattle.dt_glob.specs.declared.fault.GlobFault.{GlobFault}
use Rattle.dt_program.specs.Description.{DescForm, ReadsDescription, of_fields}
use Rattle.dt_program.specs.declared.description.DescriptionFault.{DescriptionFault}
use Rattle.dt_program.specs.declared.description.DescriptionFault.TheVariants.{Fields}
use Rattle.dt_program.specs.laws.Descriptions.{some_described, same_reading_of_description}

pub some_description : (text : List ℕ) → (reading : Result DescForm DescriptionFault) × ReadsDescription text reading
some_description text = ⊎_elim
    (λ d. some_described answer text d.0 d.1)
    (λ f. (Err (Fields f.0), of_fields f.0 f.1))
    (some_answer text)

same_pattern : (text : List ℕ) (a b : List PatternItem) → Spells text a → Spells text b → a ≡ b
same_pattern text a b h k =
    let e = reading_of-spelled text a h in
    let f = reading_of-spelled text b k in
    cc

same_fault : (text : List ℕ) (a b : GlobFault) → FaultOf text a → FaultOf text b → a ≡ b
same_fault text a b h k =
    let e = reading_of-fault text a h in
    let f = reading_of-fault text b k in
    cc

never_both : (text : List ℕ) (items : List PatternItem) (fault : GlobFault) → Spells text items
    → FaultOf text fault → ⊥
never_both text items fault h k =
    let e = reading_of-spelled text items h in
    let f = reading_of-fault text fault k in
    cc

pub one_description : (text : List ℕ) (a b : Result DescForm DescriptionFault) → ReadsDescription text a
    → ReadsDescription text b → a ≡ b
one_description = same_reading_of_description same_pattern same_fault never_both
