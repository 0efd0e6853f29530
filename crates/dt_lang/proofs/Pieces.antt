-- What stands at the front of a text.
use Rattle.std.proofs.Common.{◌≡◌, ◌≢◌, ℕ, ◌⊎◌, inl, inr, List, [], ◌∷◌, Result, Ok, Err, IfOk, IfErr, length}
use Rattle.std.proofs.Common.{eqb, true, false, refl, subst, sym}
use Rattle.std.proofs.lemmas.Bool.{false≢true}
use Rattle.std.specs.List.{take_while}
use Rattle.dt_program.specs.Description.{form_of_description, DescribesPatterns, IsDescriptionFault}
use Rattle.dt_program.specs.declared.description.Description.{Description}
use Rattle.dt_program.specs.declared.description.DescriptionFault.{DescriptionFault}
use Rattle.dt_lang.specs.Lexeme.{IsDescriptionToken}
use Rattle.dt_lang.specs.Class.{is_description_byte}
use Rattle.dt_lang.specs.machine.Piece.{FindsRun, FindsInHead, FindsInBody, FindsInMode, FindsUncommented, opens_comment}
use Rattle.dt_lang.specs.machine.Piece.{FindsPiece}
use Rattle.dt_lang.specs.declared.mode.LexerMode.{LexerMode}
use Rattle.dt_lang.specs.declared.mode.LexerMode.TheVariants as mode
use Rattle.dt_lang.specs.declared.piece.Piece.{Piece}
use Rattle.dt_lang.specs.declared.piece.Piece.TheVariants as piece
use Rattle.dt_lang.specs.declared.token.Token.TheVariants as token

reads : (run : List ℕ) (d : Result Description DescriptionFault)
    → IfOk d (λ x. DescribesPatterns run (form_of_description x)) → IfErr d (IsDescriptionFault run)
    → IsDescriptionToken run d
reads run (Ok x) found fault = found
reads run (Err x) found fault = fault

stands_run : (run text : List ℕ) (d : Result Description DescriptionFault) → run ≢ [] → IsDescriptionToken run d
    → FindsRun run text (piece.Token (token.Description d) (length run))
stands_run [] text d some r = absurd (some refl)
stands_run (byte ∷ run) text d some r = (d, r, refl)

pub described : (text run : List ℕ) (d : Result Description DescriptionFault) → run ≡ take_while is_description_byte text → run ≢ []
    → IfOk d (λ x. DescribesPatterns run (form_of_description x)) → IfErr d (IsDescriptionFault run)
    → FindsInHead text (piece.Token (token.Description d) (length run))
described text run d is some found fault =
    subst (λ (r : List ℕ). FindsRun r text (piece.Token (token.Description d) (length run))) is
    (stands_run run text d some (reads run d found fault))

-- what stands where there is more, and no comment begins
pub finds : (m : LexerMode) (text : List ℕ) (found : Piece) → eqb (length text) 0 ≡ false → opens_comment text ≡ false
    → FindsInMode m text found → FindsPiece m text found
finds m [] found some shut h = absurd (false≢true (sym some))
finds m (byte ∷ rest) found some shut h = subst (λ o. FindsUncommented o m (byte ∷ rest) found) (sym shut) h

pub commented : (m : LexerMode) (text : List ℕ) → eqb (length text) 0 ≡ false → opens_comment text ≡ true
    → FindsPiece m text piece.Stray
commented m [] some begun = absurd (false≢true (sym some))
commented m (byte ∷ rest) some begun =
    subst (λ o. FindsUncommented o m (byte ∷ rest) piece.Stray) (sym begun) refl

pub head_mode : (m : LexerMode) (text : List ℕ) (found : Piece) → (m ≡ mode.Head) ⊎ (m ≡ mode.Tail)
    → FindsInHead text found → FindsInMode m text found
head_mode m text found (inl e) h = subst (λ m. FindsInMode m text found) (sym e) h
head_mode m text found (inr e) h = subst (λ m. FindsInMode m text found) (sym e) h

pub body_mode : (m : LexerMode) (text : List ℕ) (found : Piece)
    → ((depth : ℕ) × (m ≡ mode.Predicate depth)) ⊎ (m ≡ mode.Body)
    → FindsInBody text found → FindsInMode m text found
body_mode m text found (inl (depth, e)) h = subst (λ m. FindsInMode m text found) (sym e) h
body_mode m text found (inr e) h = subst (λ m. FindsInMode m text found) (sym e) h
