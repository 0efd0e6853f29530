-- What a text spells, and its fault, are what the reading of it says: so there is one answer.
use Rattle.std.proofs.Common.{◌≡◌, ◌≢◌, ℕ, ◌⊎◌, inl, inr, Bool, true, false, List, [], ◌∷◌, ◌++◌, Some, None, Result}
use Rattle.std.proofs.Common.{Ok, Err, refl, sym, ap, ◌∙◌, append_assoc, append-nil, cond, subst, arith}
use Rattle.dt_glob.specs.declared.sign.PatternSign.{PatternSign}
use Rattle.dt_glob.specs.declared.sign.PatternSign.TheVariants.{Plain, Escaped}
use Rattle.dt_glob.specs.declared.element.Element.{Element}
use Rattle.dt_glob.specs.declared.element.Element.TheVariants.{Single, Range}
use Rattle.dt_glob.specs.declared.fault.GlobFault.{GlobFault}
use Rattle.dt_glob.specs.declared.fault.GlobFault.TheVariants.{Unclosed, EmptySet, LoneEscape}
use Rattle.dt_glob.specs.Sign.{byte_of, sign_text, text_of_signs, IsSign, AreSigns, opening_bracket, closing_bracket, bang, dash}
use Rattle.dt_glob.specs.PatternItem.{PatternItem, Star, AnyByte, Literal, OneOf}
use Rattle.dt_glob.specs.Spells.{BeginsRangeEnd, SpellsElements, Lacks, BeginsWithSign, mark, SpellsSet, SpellsItem}
use Rattle.dt_glob.specs.Spells.{SpellsItems, Spells}
use Rattle.dt_glob.specs.Fault.{AreItems, EndsInSet, FaultOf}
use Rattle.dt_glob.specs.Reading.{is_plain, Signs, behind, signs_of, elements_of, also, set_and, items_from, reading_of}
use Rattle.dt_glob.specs.Reading.{items_of_text}
use Rattle.dt_glob.specs.laws.Signs.{AreSigns-append, is_plain-false, bang_apart, Lacks-mark}

-- signs in front of what was read
abbrev with_front : List PatternSign → Signs → Signs
with_front front read = record read { signs = front ++ read.signs }

signs_of-sign : (sign : PatternSign) (text : List ℕ) → IsSign sign → signs_of (sign_text sign ++ text)
    ≡ behind sign (signs_of text)
unfolding signs_of
signs_of-sign (Plain byte) [] h = let e = is_plain-false 92 (Plain byte) (λ (k : Plain byte ≡ Plain 92). h (cc k)) in
    rw e refl
signs_of-sign (Plain byte) (next ∷ text) h = let e =
    is_plain-false 92 (Plain byte) (λ (k : Plain byte ≡ Plain 92). h (cc k)) in rw e refl
signs_of-sign (Escaped byte) text h = refl

signs_of-text_of_signs : (signs : List PatternSign) (tail : List ℕ) → AreSigns signs → signs_of (text_of_signs signs ++ tail)
    ≡ with_front signs (signs_of tail)
signs_of-text_of_signs [] tail h = refl
signs_of-text_of_signs (sign ∷ signs) tail h =
    rw append_assoc
    (signs_of-sign sign (text_of_signs signs ++ tail) h.0 ∙ ap (behind sign) (signs_of-text_of_signs signs tail h.1))

cond_same : {A : Type 0} (b : Bool) (x : A) → cond b x x ≡ x
cond_same true x = refl
cond_same false x = refl

-- elements
elements_of-dash : (rest : List PatternSign) → elements_of (dash ∷ rest) ≡ Single 45 ∷ elements_of rest
unfolding elements_of
elements_of-dash [] = refl
elements_of-dash (next ∷ []) = refl
elements_of-dash (next ∷ last ∷ rest) = refl

elements_of-single : (sign : PatternSign) (rest : List PatternSign) → (sign ≡ dash) ⊎ (¬ BeginsRangeEnd rest)
    → elements_of (sign ∷ rest) ≡ Single (byte_of sign) ∷ elements_of rest
unfolding elements_of
elements_of-single sign rest (inl e) =
    subst (λ s. elements_of (s ∷ rest) ≡ Single (byte_of s) ∷ elements_of rest) (sym e) (elements_of-dash rest)
elements_of-single sign [] (inr n) = refl
elements_of-single sign (next ∷ []) (inr n) = refl
elements_of-single sign (next ∷ last ∷ rest) (inr n) =
    rw (is_plain-false 45 next n)
    (cond_same (is_plain 45 sign) (Single (byte_of sign) ∷ elements_of (next ∷ last ∷ rest)))

elements_of-range : (front back : PatternSign) (rest : List PatternSign) → front ≢ dash → elements_of (front ∷ dash ∷ back ∷ rest)
    ≡ Range (byte_of front) (byte_of back) ∷ elements_of rest
unfolding elements_of
elements_of-range front back rest n = rw (is_plain-false 45 front n)

elements_of-spelled : (signs : List PatternSign) (elements : List Element) → SpellsElements signs elements
    → elements_of signs ≡ elements
unfolding elements_of
elements_of-spelled signs [] e = rw e refl
elements_of-spelled signs (Single byte ∷ elements) (sign, rest, e, b, n, h) =
    let k = elements_of-spelled rest elements h in
    rw e (elements_of-single sign rest n ∙ cc (k, b))
elements_of-spelled signs (Range first last ∷ elements) (front, back, rest, e, b, d, n, h) =
    let k = elements_of-spelled rest elements h in
    rw e (elements_of-range front back rest n ∙ cc (k, b, d))

-- sets
set_and-true : (inside : List PatternSign) (rest : Result (List PatternItem) GlobFault) → inside ≢ []
    → set_and (bang ∷ inside) rest ≡ also (OneOf true (elements_of inside)) rest
set_and-true [] rest n = absurd (n refl)
set_and-true (sign ∷ inside) rest n = refl

set_and-false : (inside : List PatternSign) (rest : Result (List PatternItem) GlobFault) → inside ≢ []
    → (¬ BeginsWithSign bang inside) → set_and inside rest ≡ also (OneOf false (elements_of inside)) rest
set_and-false [] rest n m = absurd (n refl)
set_and-false (sign ∷ []) rest n m = rw (is_plain-false 33 sign m)
set_and-false (sign ∷ next ∷ inside) rest n m = rw (is_plain-false 33 sign m)

set_and-spelled : (signs : List PatternSign) (negated : Bool) (elements : List Element)
    (rest : Result (List PatternItem) GlobFault) → SpellsSet signs negated elements → set_and signs rest
    ≡ also (OneOf negated elements) rest
set_and-spelled signs true elements rest h =
    rw h.begins (set_and-true h.inside rest h.some
    ∙ ap (λ e. also (OneOf true e) rest) (elements_of-spelled h.inside elements h.spells))
set_and-spelled signs false elements rest h =
    rw h.begins (set_and-false h.inside rest h.some (h.marked refl)
    ∙ ap (λ e. also (OneOf false e) rest) (elements_of-spelled h.inside elements h.spells))

items_from-set : (lone : Bool) (seen inside rest : List PatternSign) → Lacks closing_bracket inside
    → items_from lone (Some seen) (inside ++ rest) ≡ items_from lone (Some (seen ++ inside)) rest
unfolding items_from
items_from-set lone seen [] rest h = simp append-nil
items_from-set lone seen (sign ∷ inside) rest h =
    rw (is_plain-false 93 sign h.0)
    (items_from-set lone (seen ++ sign ∷ []) inside rest h.1
    ∙ ap (λ s. items_from lone (Some s) rest) (append_assoc seen (sign ∷ []) inside))

items_from-closed : (lone : Bool) (inside rest : List PatternSign) → Lacks closing_bracket inside
    → items_from lone None (opening_bracket ∷ (inside ++ closing_bracket ∷ []) ++ rest) ≡ set_and inside (items_from lone None rest)
unfolding items_from
items_from-closed lone inside rest h =
    rw append_assoc (items_from-set lone [] inside (closing_bracket ∷ rest) h)

items_from-item : (lone : Bool) (front rest : List PatternSign) (item : PatternItem) → SpellsItem front item
    → items_from lone None (front ++ rest) ≡ also item (items_from lone None rest)
unfolding items_from
items_from-item lone front rest Star e = rw e refl
items_from-item lone front rest AnyByte e = rw e refl
items_from-item lone front rest (Literal byte) (inl e) = rw e refl
items_from-item lone front rest (Literal byte) (inr (e, s, q, o)) =
    let f = is_plain-false 91 (Plain byte) o in
    let g = is_plain-false 42 (Plain byte) s in
    let k = is_plain-false 63 (Plain byte) q in
    rw (e, f, g, k) refl
items_from-item lone front rest (OneOf negated elements) (inner, e, h) =
    rw e (items_from-closed lone inner rest (rw h.begins (Lacks-mark negated h.inside h.unended))
    ∙ set_and-spelled inner negated elements (items_from lone None rest) h)

abbrev all_also : List PatternItem → Result (List PatternItem) GlobFault → Result (List PatternItem) GlobFault
all_also [] rest = rest
all_also (item ∷ items) rest = also item (all_also items rest)

all_also-ok : (items : List PatternItem) → all_also items (Ok []) ≡ Ok items
all_also-ok [] = refl
all_also-ok (item ∷ items) = rw (all_also-ok items)

all_also-err : (items : List PatternItem) (fault : GlobFault) → all_also items (Err fault) ≡ Err fault
all_also-err [] fault = refl
all_also-err (item ∷ items) fault = rw (all_also-err items fault)

items_from-items : (lone : Bool) (front rest : List PatternSign) (items : List PatternItem) → SpellsItems front items
    → items_from lone None (front ++ rest) ≡ all_also items (items_from lone None rest)
items_from-items lone front rest [] e = rw e refl
items_from-items lone front rest (item ∷ items) (first, more, e, h, k) =
    rw (e, append_assoc)
    (items_from-item lone first (more ++ rest) item h ∙ ap (also item) (items_from-items lone more rest items k))

-- whole items, and an open set
ending : Bool → GlobFault → GlobFault
ending lone fault = cond lone LoneEscape fault

items_from-open : (lone : Bool) (signs : List PatternSign) → EndsInSet signs → items_from lone None signs
    ≡ Err (ending lone Unclosed)
unfolding items_from ending
items_from-open true signs h =
    let k = items_from-set true [] h.inside [] h.unended in
    rw h.cut (items_from-items true h.front (opening_bracket ∷ h.inside) h.items.0 h.items.1
    ∙ ap (all_also h.items.0) (rw append-nil at k) ∙ all_also-err h.items.0 LoneEscape)
items_from-open false signs h =
    let k = items_from-set false [] h.inside [] h.unended in
    rw h.cut (items_from-items false h.front (opening_bracket ∷ h.inside) h.items.0 h.items.1
    ∙ ap (all_also h.items.0) (rw append-nil at k) ∙ all_also-err h.items.0 Unclosed)

items_from-whole : (lone : Bool) (signs : List PatternSign) (items : List PatternItem) → SpellsItems signs items
    → items_from lone None signs ≡ all_also items (items_from lone None [])
items_from-whole lone signs items h = let e = items_from-items lone signs [] items h in rw append-nil at e

items_from-empty_set : (lone negated : Bool) (front rest : List PatternSign) → AreItems front
    → items_from lone None ((front ++ opening_bracket ∷ (mark negated ++ closing_bracket ∷ [])) ++ rest) ≡ Err EmptySet
items_from-empty_set lone true front rest h =
    rw append_assoc (items_from-items lone front (opening_bracket ∷ (bang ∷ [] ++ closing_bracket ∷ []) ++ rest) h.0 h.1
    ∙ ap (all_also h.0) (items_from-closed lone (bang ∷ []) rest (bang_apart, tt)) ∙ all_also-err h.0 EmptySet)
items_from-empty_set lone false front rest h =
    rw append_assoc (items_from-items lone front (opening_bracket ∷ ([] ++ closing_bracket ∷ []) ++ rest) h.0 h.1
    ∙ ap (all_also h.0) (items_from-closed lone [] rest tt) ∙ all_also-err h.0 EmptySet)

-- the reading of signs and what stands after them
reading_of-signs : (signs : List PatternSign) (tail : List ℕ) → AreSigns signs → reading_of (text_of_signs signs ++ tail)
    ≡ items_from (signs_of tail).lone None (signs ++ (signs_of tail).signs)
unfolding reading_of
reading_of-signs signs tail h = rw (signs_of-text_of_signs signs tail h)

reading_of-text_of_signs : (signs : List PatternSign) → AreSigns signs → reading_of (text_of_signs signs)
    ≡ items_from false None signs
unfolding signs_of
reading_of-text_of_signs signs h = let e = reading_of-signs signs [] h in
    rw (append-nil (text_of_signs signs), append-nil signs) at e

reading_of-lone : (signs : List PatternSign) → AreSigns signs → reading_of (text_of_signs signs ++ 92 ∷ [])
    ≡ items_from true None signs
unfolding signs_of
reading_of-lone signs h = let e = reading_of-signs signs (92 ∷ []) h in rw append-nil at e

AreSigns-empty_set : (negated : Bool) → AreSigns (opening_bracket ∷ (mark negated ++ closing_bracket ∷ []))
AreSigns-empty_set true = (λ e. omega arith, (λ e. omega arith, (λ e. omega arith, tt)))
AreSigns-empty_set false = (λ e. omega arith, (λ e. omega arith, tt))

-- the one answer
pub reading_of-spelled : (text : List ℕ) (items : List PatternItem) → Spells text items → reading_of text ≡ Ok items
unfolding items_from
reading_of-spelled text items h =
    rw h.written (reading_of-text_of_signs h.signs h.are_signs ∙ items_from-whole false h.signs items h.spells
    ∙ all_also-ok items)

pub reading_of-fault : (text : List ℕ) (fault : GlobFault) → FaultOf text fault → reading_of text ≡ Err fault
unfolding items_from ending
reading_of-fault text Unclosed (signs, e, a, h) =
    rw e (reading_of-text_of_signs signs a ∙ items_from-open false signs h)
reading_of-fault text EmptySet (front, negated, rest, e, a, h) =
    let signs : List PatternSign = front ++ opening_bracket ∷ (mark negated ++ closing_bracket ∷ []) in
    let are : AreSigns signs =
    AreSigns-append front (opening_bracket ∷ (mark negated ++ closing_bracket ∷ [])) a (AreSigns-empty_set negated) in
    rw e (reading_of-signs signs rest are
    ∙ items_from-empty_set (signs_of rest).lone negated front (signs_of rest).signs h)
reading_of-fault text LoneEscape (signs, e, a, inl h) =
    rw e (reading_of-lone signs a ∙ items_from-whole true signs h.0 h.1 ∙ all_also-err h.0 LoneEscape)
reading_of-fault text LoneEscape (signs, e, a, inr h) = rw e (reading_of-lone signs a ∙ items_from-open true signs h)

pub items_of_text-spelled : (text : List ℕ) (items : List PatternItem) → Spells text items → items_of_text text ≡ items
unfolding items_of_text
items_of_text-spelled text items h = rw (reading_of-spelled text items h)
