-- What is found is what stands there.
use Rattle.std.proofs.Common.{◌≡◌, ℕ, inl, inr, Bool, true, false, eqb, ◌&&◌, List, [], ◌∷◌, ◌++◌, refl, sym, subst}
use Rattle.std.proofs.Common.{arith}
use Rattle.std.proofs.lemmas.Bool.{false≢true, eqb-true}
use Rattle.dt_lang.specs.Lexeme.{IsPiece, OPENING, IsLongest, Stands}
use Rattle.dt_lang.specs.machine.Piece.{FindsInMode, FindsUncommented, FindsPiece, opens_comment}
use Rattle.dt_lang.specs.declared.mode.LexerMode.{LexerMode}
use Rattle.dt_lang.specs.declared.mode.LexerMode.TheVariants as mode
use Rattle.dt_lang.specs.declared.piece.Piece.{Piece}
use Rattle.dt_lang.specs.declared.piece.Piece.TheVariants as piece
use Rattle.dt_lang.specs.laws.Bodies.{Top, Tops, body_top, comment_body}
use Rattle.dt_lang.specs.laws.Heads.{head_top, comment_head}

longest : (m : LexerMode) (text : List ℕ) (found : Piece) → Top (λ bytes piece. IsPiece m bytes piece) text found
    → IsLongest m text found
longest m text found t =
    record { bytes = t.bytes; rest = t.rest; cut = t.cut; is = t.is; longest = t.longest }

standing : (m : LexerMode) (byte : ℕ) (rest : List ℕ) (found : Piece)
    → Tops (λ bytes piece. IsPiece m bytes piece) (byte ∷ rest) found → Stands m (byte ∷ rest) found
standing m byte rest found (inl t) = inl (longest m (byte ∷ rest) found t)
standing m byte rest found (inr n) = inr n

in_mode : (m : LexerMode) (byte : ℕ) (rest : List ℕ) (found : Piece) → opens_comment (byte ∷ rest) ≡ false
    → FindsInMode m (byte ∷ rest) found → Stands m (byte ∷ rest) found
in_mode mode.Head byte rest found shut h =
    standing mode.Head byte rest found (head_top (byte ∷ rest) found (omega arith) shut h)
in_mode mode.Tail byte rest found shut h =
    standing mode.Tail byte rest found (head_top (byte ∷ rest) found (omega arith) shut h)
in_mode (mode.Predicate depth) byte rest found shut h =
    standing (mode.Predicate depth) byte rest found (body_top (byte ∷ rest) found (omega arith) shut h)
in_mode mode.Body byte rest found shut h =
    standing mode.Body byte rest found (body_top (byte ∷ rest) found (omega arith) shut h)

both : (a b : Bool) → (a && b) ≡ true → (a ≡ true) × (b ≡ true)
both true b e = (refl, e)
both false b e = absurd (false≢true e)

opening : (text : List ℕ) → opens_comment text ≡ true → (behind : List ℕ) × (text ≡ OPENING ++ behind)
opening [] e = absurd (false≢true e)
opening (x ∷ []) e =
    let h = both (eqb x 47) (eqb 0 42) e in absurd (false≢true h.1)
opening (x ∷ y ∷ rest) e =
    let h = both (eqb x 47) (eqb y 42) e in
    let first = eqb-true x 47 h.0 in
    let second = eqb-true y 42 h.1 in
    (rest, cc)

in_comment : (m : LexerMode) (text behind : List ℕ) → text ≡ OPENING ++ behind → IsLongest m text piece.Stray
in_comment mode.Head text behind e = longest mode.Head text piece.Stray (comment_head text behind e)
in_comment mode.Tail text behind e = longest mode.Tail text piece.Stray (comment_head text behind e)
in_comment (mode.Predicate depth) text behind e =
    longest (mode.Predicate depth) text piece.Stray (comment_body text behind e)
in_comment mode.Body text behind e = longest mode.Body text piece.Stray (comment_body text behind e)

uncommented : (begun : Bool) (m : LexerMode) (byte : ℕ) (rest : List ℕ) (found : Piece)
    → begun ≡ opens_comment (byte ∷ rest) → FindsUncommented begun m (byte ∷ rest) found
    → Stands m (byte ∷ rest) found
uncommented true m byte rest found b e =
    let cut = opening (byte ∷ rest) (sym b) in
    inl (subst (IsLongest m (byte ∷ rest)) (sym e) (in_comment m (byte ∷ rest) cut.0 cut.1))
uncommented false m byte rest found b h = in_mode m byte rest found (sym b) h

pub stands_found : (m : LexerMode) (text : List ℕ) (found : Piece) → FindsPiece m text found → Stands m text found
stands_found m [] found h = h
stands_found m (byte ∷ rest) found h = uncommented (opens_comment (byte ∷ rest)) m byte rest found refl h
