-- The first fault of a text from the left: what stands before it is faultless, and the fault shows after that.
use Rattle.std.specs.Prelude.{◌≡◌, ℕ, ◌⊎◌, Bool, List, [], ◌∷◌, ◌++◌}
use Rattle.dt_glob.specs.declared.sign.PatternSign.{PatternSign}
use Rattle.dt_glob.specs.declared.fault.GlobFault.{GlobFault}
use Rattle.dt_glob.specs.declared.fault.GlobFault.TheVariants.{Unclosed, EmptySet, LoneEscape}
use Rattle.dt_glob.specs.Sign.{escape, text_of_signs, AreSigns, opening_bracket, closing_bracket}
use Rattle.dt_glob.specs.PatternItem.{PatternItem}
use Rattle.dt_glob.specs.Spells.{Lacks, mark, SpellsItems}

-- whole items
abbrev pub AreItems : List PatternSign → Type 0
AreItems signs = (items : List PatternItem) × SpellsItems signs items

-- whole items, and a set that no `]` has ended
pub record EndsInSet (signs : List PatternSign) : Type 0 where
  pub front : List PatternSign
  pub inside : List PatternSign
  pub cut : signs ≡ front ++ opening_bracket ∷ inside
  pub items : AreItems front
  pub unended : Lacks closing_bracket inside

abbrev pub FaultOf : List ℕ → GlobFault → Type 0
-- the text ends in a set
FaultOf text Unclosed = (signs : List PatternSign) × (text ≡ text_of_signs signs) × AreSigns signs × EndsInSet signs
-- a set ends before it has an element, whatever follows
FaultOf text EmptySet = (front : List PatternSign) × (negated : Bool) × (rest : List ℕ)
    × (text ≡ text_of_signs (front ++ opening_bracket ∷ (mark negated ++ closing_bracket ∷ [])) ++ rest) × AreSigns front × AreItems front
-- the text ends in a `\` with nothing after it, in a set or after whole items
FaultOf text LoneEscape = (signs : List PatternSign) × (text ≡ text_of_signs signs ++ escape ∷ []) × AreSigns signs
    × (AreItems signs ⊎ EndsInSet signs)
