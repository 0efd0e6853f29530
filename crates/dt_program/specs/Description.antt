-- What a description of patterns asks for.
use Rattle.std.specs.Prelude.{ℕ, List, [], ◌∷◌, Result, Ok, Err}
use Rattle.dt_names.specs.Desc.{Desc, Describes, IsFirstFault}
use Rattle.dt_names.specs.declared.desc.NameFault.{NameFault}
use Rattle.dt_glob.specs.Fault.{FaultOf}
use Rattle.dt_glob.specs.PatternItem.{PatternItem}
use Rattle.dt_glob.specs.Spells.{Spells}
use Rattle.dt_program.specs.declared.description.Description.{Description}
use Rattle.dt_program.specs.declared.description.DescriptionFault.{DescriptionFault}
use Rattle.dt_program.specs.declared.description.DescriptionFault.TheVariants.{Fields, Pattern}

-- the items of the patterns of four fields; an empty field has none, and asks for nothing
pub record DescForm : Type 0 where
  pub provider : List PatternItem
  pub «module» : List PatternItem
  pub function : List PatternItem
  pub name : List PatternItem

abbrev pub form_of_description : Description → DescForm
form_of_description d = record { provider = d.provider; «module» = d.module; function = d.function; name = d.name }

-- The text is a description, and its fields are the patterns of these items.
pub record DescribesPatterns (text : List ℕ) (form : DescForm) : Type 0 where
  pub desc : Desc
  pub described : Describes text desc
  pub provider : Spells desc.provider form.provider
  pub «module» : Spells desc.module form.module
  pub function : Spells desc.function form.function
  pub name : Spells desc.name form.name

-- The field is no pattern, and this is its fault.
abbrev pub IsPatternFault : List ℕ → DescriptionFault → Type 0
IsPatternFault field (Pattern fault) = FaultOf field fault
IsPatternFault field (Fields fault) = ⊥

-- The first of these fields that is no pattern has this fault.
pub data HasPatternFault : List (List ℕ) → DescriptionFault → Type 0 where
  here : (field : List ℕ) (fields : List (List ℕ)) (fault : DescriptionFault) → IsPatternFault field fault
      → HasPatternFault (field ∷ fields) fault
  later : (field : List ℕ) (fields : List (List ℕ)) (fault : DescriptionFault) (items : List PatternItem)
      → Spells field items → HasPatternFault fields fault → HasPatternFault (field ∷ fields) fault

-- The text is no description of patterns, and this is its first fault: that of its fields, or else of its patterns.
pub data IsDescriptionFault (text : List ℕ) : DescriptionFault → Type 0 where
  of_fields : (fault : NameFault) → IsFirstFault text fault → IsDescriptionFault text (Fields fault)
  of_pattern : (desc : Desc) (fault : DescriptionFault) → Describes text desc
      → HasPatternFault (desc.provider ∷ desc.module ∷ desc.function ∷ desc.name ∷ []) fault
      → IsDescriptionFault text fault

-- A text is read as the description of patterns that it is, or as none for its first fault.
abbrev pub ReadsDescription : List ℕ → Result DescForm DescriptionFault → Type 0
ReadsDescription text (Ok form) = DescribesPatterns text form
ReadsDescription text (Err fault) = IsDescriptionFault text fault
