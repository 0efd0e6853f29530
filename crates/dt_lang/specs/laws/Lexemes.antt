-- Laws of lexemes: there is one, and only one, and it lies where it should.
use Rattle.std.proofs.Common.{◌≡◌, ℕ, ◌-◌, ◌≤◌, List, Result, length, drop, refl, sym, ap, ◌∙◌, subst, arith}
use Rattle.std.proofs.Common.{length-drop}
use Rattle.dt_program.specs.Description.{DescForm, ReadsDescription}
use Rattle.dt_program.specs.declared.description.DescriptionFault.{DescriptionFault}
use Rattle.dt_lang.specs.Lexeme.{placed, Lexes, LiesWithin, Stands}
use Rattle.dt_lang.specs.declared.lexer.Lexeme.{Lexeme}
use Rattle.dt_lang.specs.declared.mode.LexerMode.{LexerMode}
use Rattle.dt_lang.specs.declared.piece.Piece.{Piece}
use Rattle.dt_lang.specs.declared.piece.Piece.TheVariants as piece
use Rattle.dt_lang.specs.laws.BlankLaws.{one_rest, some_rest, rest_less}
use Rattle.dt_lang.specs.laws.Existence.{some_piece}
use Rattle.dt_lang.specs.laws.Progress.{token_within, overlong_within}
use Rattle.dt_lang.specs.laws.Sameness.{one_piece}
use Rattle.dt_lang.specs.laws.Standing.{stands_found}

pub some_lexed : ((text : List ℕ) → (reading : Result DescForm DescriptionFault) × ReadsDescription text reading)
    → (text : List ℕ) (m : LexerMode) (from : ℕ) → (lexeme : Lexeme) × Lexes text m from lexeme
some_lexed some text m from =
    let r = some_rest (drop from text) in
    let f = some_piece some m r.rest in (
      placed (length text - length r.rest) f.0,
      record {
        rest = r.rest;
        skipped = r.skips;
        found = f.0;
        stands = stands_found m r.rest f.0 f.1;
        lexeme_is = refl;
      },
    )

pub one_lexed : ((text : List ℕ) (a b : Result DescForm DescriptionFault) → ReadsDescription text a
    → ReadsDescription text b → a ≡ b)
    → (text : List ℕ) (m : LexerMode) (from : ℕ) (a b : Lexeme) → Lexes text m from a → Lexes text m from b → a ≡ b
one_lexed one text m from a b h k =
    let rest = one_rest (drop from text) h.rest k.rest h.skipped k.skipped in
    let stands = subst (λ (r : List ℕ). Stands m r h.found) rest h.stands in
    let found = one_piece one m k.rest h.found k.found stands k.stands in
    h.lexeme_is ∙ ap (λ (r : List ℕ). placed (length text - length r) h.found) rest
    ∙ ap (placed (length text - length k.rest)) found ∙ sym k.lexeme_is

placed_within : (text rest : List ℕ) (m : LexerMode) (from : ℕ) (found : Piece) → from ≤ length text
    → length rest ≤ length (drop from text) → Stands m rest found
    → LiesWithin from (placed (length text - length rest) found) (length text)
placed_within text rest m from (piece.Token t size) fits less h =
    let within = token_within m rest t size h in
    let one = within.some in
    let most = within.fits in
    let behind = length-drop from text in
    (omega arith, omega arith, omega arith)
placed_within text rest m from (piece.Overlong limit size) fits less h =
    let within = overlong_within m rest limit size h in
    let one = within.some in
    let most = within.fits in
    let behind = length-drop from text in
    (omega arith, omega arith, omega arith)
placed_within text rest m from piece.Stray fits less h =
    let behind = length-drop from text in (omega arith, omega arith)
placed_within text rest m from piece.End fits less h =
    let behind = length-drop from text in (omega arith, omega arith)

pub lexed_within : (text : List ℕ) (m : LexerMode) (from : ℕ) (lexeme : Lexeme) → from ≤ length text
    → Lexes text m from lexeme → LiesWithin from lexeme (length text)
lexed_within text m from lexeme fits h =
    subst (λ l. LiesWithin from l (length text)) (sym h.lexeme_is)
    (placed_within text h.rest m from h.found fits (rest_less (drop from text) h.rest h.skipped) h.stands)
