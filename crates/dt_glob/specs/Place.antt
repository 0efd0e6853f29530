-- Where the check of a text stands after some signs.
use Rattle.std.specs.Prelude.{◌≡◌, ◌≢◌, Bool, true, false, if◌then◌else◌, List, [], ◌∷◌, ◌++◌, Result, Ok, Err}
use Rattle.dt_glob.specs.declared.sign.PatternSign.{PatternSign}
use Rattle.dt_glob.specs.declared.place.PatternPlace.{PatternPlace}
use Rattle.dt_glob.specs.declared.place.PatternPlace.TheVariants.{Outside, Opened, Negated, Inside}
use Rattle.dt_glob.specs.declared.fault.GlobFault.{GlobFault}
use Rattle.dt_glob.specs.declared.fault.GlobFault.TheVariants.{EmptySet}
use Rattle.dt_glob.specs.Sign.{opening_bracket, closing_bracket, bang, opening_byte, closing_byte, bang_byte}
use Rattle.dt_glob.specs.Spells.{Lacks, BeginsWithSign, mark}
use Rattle.dt_glob.specs.Fault.{AreItems}
use Rattle.dt_glob.specs.Reading.{is_plain}

-- where one more sign leads
abbrev pub step_of : PatternPlace → PatternSign → Result PatternPlace GlobFault
step_of Outside sign = if is_plain opening_byte sign then Ok Opened else Ok Outside
step_of Opened sign =
    if is_plain closing_byte sign then Err EmptySet else (if is_plain bang_byte sign then Ok Negated else Ok Inside)
step_of Negated sign = if is_plain closing_byte sign then Err EmptySet else Ok Inside
step_of Inside sign = if is_plain closing_byte sign then Ok Outside else Ok Inside

-- whole items and the front of a set, which has an element already
pub record IsInside (signs : List PatternSign) : Type 0 where
  pub front : List PatternSign
  pub negated : Bool
  pub inside : List PatternSign
  pub cut : signs ≡ front ++ opening_bracket ∷ (mark negated ++ inside)
  pub items : AreItems front
  pub marked : negated ≡ false → ¬ BeginsWithSign bang inside
  pub unended : Lacks closing_bracket inside
  pub some : inside ≢ []

-- whole items and how a set begins
pub record HasOpened (negated : Bool) (signs : List PatternSign) : Type 0 where
  pub front : List PatternSign
  pub cut : signs ≡ front ++ opening_bracket ∷ mark negated
  pub items : AreItems front

abbrev pub StandsAt : PatternPlace → List PatternSign → Type 0
StandsAt Outside signs = AreItems signs
StandsAt Opened signs = HasOpened false signs
StandsAt Negated signs = HasOpened true signs
StandsAt Inside signs = IsInside signs
