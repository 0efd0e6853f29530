-- Items and elements, as the code reads them off a text.
use Rattle.std.proofs.Common.{◌≡◌, ◌≢◌, ℕ, ◌-◌, ◌⊎◌, inl, inr, Bool, true, false, List, [], ◌∷◌, ◌++◌, length, refl}
use Rattle.std.proofs.Common.{sym, ap, ◌∙◌, append_assoc, append-nil, eqb, arith, ◌↔◌, length-append}
use Rattle.dt_glob.specs.declared.sign.PatternSign.{PatternSign}
use Rattle.dt_glob.specs.declared.sign.PatternSign.TheVariants.{Plain, Escaped}
use Rattle.dt_glob.specs.declared.element.Element.{Element}
use Rattle.dt_glob.specs.declared.element.Element.TheVariants.{Single, Range}
use Rattle.dt_glob.specs.Sign.{byte_of, sign_text, text_of_signs, IsSign, AreSigns, star, question, opening_bracket, closing_bracket}
use Rattle.dt_glob.specs.Sign.{bang, dash}
use Rattle.dt_glob.specs.PatternItem.{PatternItem, Star, AnyByte, Literal, OneOf, Holds, HoldsAny}
use Rattle.dt_glob.specs.Spells.{BeginsRangeEnd, SpellsElements, Lacks, BeginsWithSign, SpellsSet, SpellsItem}
use Rattle.dt_glob.specs.Spells.{SpellsItems, Spells}
use Rattle.dt_glob.specs.Token.{ShowsElements, ReadsElement, IsToken, ReadsToken, ClosesAt, BeginsSet}
use Rattle.dt_glob.specs.declared.token.PatternToken.{PatternToken}
use Rattle.dt_glob.specs.declared.token.PatternToken.TheVariants as token
use Rattle.dt_glob.specs.laws.Signs.{text_of_signs-append, AreSigns-append, AreSigns-front, AreSigns-back, same_sign}
use Rattle.dt_glob.specs.laws.Signs.{plain_apart, Lacks-mark}

-- what is left to read of the elements
pub record LeftOf (elements : List Element) (rest : List ℕ) (byte : ℕ) : Type 0 where
  pub tail : List Element
  pub shows : ShowsElements rest tail
  pub same : HoldsAny elements byte ↔ HoldsAny tail byte

-- how far the search for a closing bracket is
pub record Seeks (text : List ℕ) (len : ℕ) (rest : List ℕ) : Type 0 where
  pub seen : List PatternSign
  pub more : List PatternSign
  pub behind : List ℕ
  pub text_is : text ≡ text_of_signs seen ++ rest
  pub len_is : len ≡ length (text_of_signs seen)
  pub rest_is : rest ≡ text_of_signs more ++ 93 ∷ behind
  pub are_seen : AreSigns seen
  pub are_more : AreSigns more
  pub seen_unended : Lacks closing_bracket seen
  pub more_unended : Lacks closing_bracket more

-- the first of some signs, and what stands after it
pub record FirstSign (signs : List PatternSign) (sign : PatternSign) (rest : List ℕ) : Type 0 where
  pub more : List PatternSign
  pub signs_are : signs ≡ sign ∷ more
  pub rest_is : rest ≡ text_of_signs more
  pub are_more : AreSigns more

some_text : (sign : PatternSign) (rest : List ℕ) → [] ≢ sign_text sign ++ rest
some_text (Plain byte) rest e = cc
some_text (Escaped byte) rest e = cc

pub first_sign : (signs : List PatternSign) (sign : PatternSign) (rest : List ℕ) → IsSign sign → AreSigns signs → text_of_signs signs
    ≡ sign_text sign ++ rest → FirstSign signs sign rest
first_sign [] sign rest h a e = absurd (some_text sign rest e)
first_sign (first ∷ more) sign rest h a e =
    let same = same_sign first sign (text_of_signs more) rest a.0 h e in
    record { more = more; signs_are = ap (λ (s : PatternSign). s ∷ more) same.0; rest_is = sym same.1; are_more = a.1 }

-- a text with no sign at its front
pub no_sign : (text : List ℕ) (sign : PatternSign) (rest : List ℕ) → (text ≡ []) ⊎ (text ≡ 92 ∷ []) → IsSign sign
    → text ≢ sign_text sign ++ rest
no_sign text sign rest (inl e) h k = some_text sign rest (sym e ∙ k)
no_sign text (Plain byte) rest (inr e) h k = let same : byte ≡ 92 = cc in h same
no_sign text (Escaped byte) rest (inr e) h k = let both : 92 ∷ [] ≡ 92 ∷ byte ∷ rest = sym e ∙ k in cc

pub no_signs : (text : List ℕ) (signs : List PatternSign) → (text ≡ []) ⊎ (text ≡ 92 ∷ []) → AreSigns signs → text
    ≡ text_of_signs signs → text ≡ []
no_signs text [] h a e = e
no_signs text (sign ∷ signs) h a e = absurd (no_sign text sign (text_of_signs signs) h a.0 e)

-- elements
dash_is : IsSign dash
dash_is e = omega arith

single_read : (text : List ℕ) (first : PatternSign) (rest : List ℕ) (elements : List Element) → IsSign first → text
    ≡ sign_text first ++ rest
    → (first ≡ dash) ⊎ ((more : List PatternSign) → AreSigns more → rest ≡ text_of_signs more → ¬ BeginsRangeEnd more)
    → ShowsElements text elements → ReadsElement (Single (byte_of first)) elements rest
single_read text first rest elements i e n h = go elements h.spells
  where
    f : FirstSign h.signs first rest
    f = first_sign h.signs first rest i h.are_signs (sym h.written ∙ e)

    go : (elements : List Element) → SpellsElements h.signs elements
        → ReadsElement (Single (byte_of first)) elements rest
    go [] k = let bad : [] ≡ first ∷ f.more = sym k ∙ f.signs_are in cc
    go (Single byte ∷ tail) (sign, more, k, b, m, s) =
        let same : sign ∷ more ≡ first ∷ f.more = sym k ∙ f.signs_are in
        let sames : sign ≡ first = cc in
        let rests : f.more ≡ more = cc in
        record {
          tail = tail;
          elements_are = ap (λ (x : ℕ). Single x ∷ tail) (b ∙ ap byte_of sames);
          shows = record { signs = f.more; written = f.rest_is; are_signs = f.are_more; spells = rw rests s };
        }
    go (Range low high ∷ tail) (front, back, more, k, b, d, m, s) =
        let same : front ∷ dash ∷ back ∷ more ≡ first ∷ f.more = sym k ∙ f.signs_are in
        let rests : f.more ≡ dash ∷ back ∷ more = cc in
        let fronts : front ≡ first = cc in
        absurd (elim n [ inl z ↦ m (fronts ∙ z) | inr z ↦ z f.more f.are_more f.rest_is (rw rests refl) ])

pub single_dash : (text : List ℕ) (first : PatternSign) (rest : List ℕ) (elements : List Element) → IsSign first → text
    ≡ sign_text first ++ rest
    → first ≡ dash → ShowsElements text elements → ReadsElement (Single (byte_of first)) elements rest
single_dash text first rest elements i e d h = single_read text first rest elements i e (inl d) h

range_end_text : (more : List PatternSign) (rest : List ℕ) → AreSigns more → rest ≡ text_of_signs more → BeginsRangeEnd more
    → (last : PatternSign) × (behind : List ℕ) × IsSign last × (rest ≡ 45 ∷ (sign_text last ++ behind))
range_end_text [] rest a e b = absurd b
range_end_text (sign ∷ []) rest a e b = absurd b
range_end_text (sign ∷ last ∷ more) rest a e b =
    (last, text_of_signs more, a.1.0, e ∙ ap (λ (s : PatternSign). sign_text s ++ (sign_text last ++ text_of_signs more)) b)

-- no dash stands after the sign
pub single_alone : (text : List ℕ) (first : PatternSign) (rest : List ℕ) (elements : List Element) → IsSign first → text
    ≡ sign_text first ++ rest
    → ((behind : List ℕ) → rest ≢ 45 ∷ behind) → ShowsElements text elements
    → ReadsElement (Single (byte_of first)) elements rest
single_alone text first rest elements i e n h =
    single_read text first rest elements i e (inr (λ more a w b. let r = range_end_text more rest a w b in n _ r.3)) h

-- a dash stands after the sign, and no sign after that
pub single_last : (text : List ℕ) (first : PatternSign) (rest behind : List ℕ) (elements : List Element) → IsSign first
    → text ≡ sign_text first ++ rest
    → rest ≡ 45 ∷ behind → (behind ≡ []) ⊎ (behind ≡ 92 ∷ []) → ShowsElements text elements
    → ReadsElement (Single (byte_of first)) elements rest
single_last text first rest behind elements i e d n h =
    single_read text first rest elements i e
    (inr (λ more a w b. let r = range_end_text more rest a w b in
    let both : 45 ∷ behind ≡ 45 ∷ (sign_text r.0 ++ r.1) = sym d ∙ r.3 in
    no_sign behind r.0 r.1 n r.2 (cc))) h

pub range_read : (text : List ℕ) (first : PatternSign) (rest behind : List ℕ) (last : PatternSign) (after : List ℕ)
    (elements : List Element) → IsSign first → text ≡ sign_text first ++ rest
    → first ≢ dash → rest ≡ 45 ∷ behind → IsSign last → behind ≡ sign_text last ++ after → ShowsElements text elements
    → ReadsElement (Range (byte_of first) (byte_of last)) elements after
range_read text first rest behind last after elements i e n d j b h = go elements h.spells
  where
    f : FirstSign h.signs first rest
    f = first_sign h.signs first rest i h.are_signs (sym h.written ∙ e)

    g : FirstSign f.more dash behind
    g = first_sign f.more dash behind dash_is f.are_more (sym f.rest_is ∙ d)

    k : FirstSign g.more last after
    k = first_sign g.more last after j g.are_more (sym g.rest_is ∙ b)

    all : h.signs ≡ first ∷ dash ∷ last ∷ k.more
    all = f.signs_are ∙ ap (λ (s : List PatternSign). first ∷ s) (g.signs_are ∙ ap (λ (s : List PatternSign). dash ∷ s) k.signs_are)

    go : (elements : List Element) → SpellsElements h.signs elements
        → ReadsElement (Range (byte_of first) (byte_of last)) elements after
    go [] m = let bad : [] ≡ first ∷ dash ∷ last ∷ k.more = sym m ∙ all in cc
    go (Single byte ∷ tail) (sign, more, m, w, o, s) =
        let same : sign ∷ more ≡ first ∷ dash ∷ last ∷ k.more = sym m ∙ all in
        let rests : more ≡ dash ∷ last ∷ k.more = cc in
        let firsts : first ≡ sign = cc in
        absurd (elim o [ inl z ↦ n (firsts ∙ z) | inr z ↦ z (rw rests refl) ])
    go (Range low high ∷ tail) (front, back, more, m, w, v, o, s) =
        let same : front ∷ dash ∷ back ∷ more ≡ first ∷ dash ∷ last ∷ k.more = sym m ∙ all in
        let fronts : front ≡ first = cc in
        let backs : back ≡ last = cc in
        let rests : k.more ≡ more = cc in
        let lows : low ≡ byte_of first = w ∙ ap byte_of fronts in
        let highs : high ≡ byte_of last = v ∙ ap byte_of backs in
        record {
          tail = tail;
          elements_are = cc;
          shows = record { signs = k.more; written = k.rest_is; are_signs = k.are_more; spells = rw rests s };
        }

-- an element that doesn't hold the byte leaves it to the others
pub left_more : (element : Element) (elements : List Element) (rest behind : List ℕ) (byte : ℕ)
    → LeftOf elements rest byte
    → ((tail : List Element) → ShowsElements rest tail → ReadsElement element tail behind) → (¬ Holds element byte)
    → LeftOf elements behind byte
left_more element elements rest behind byte h read n =
    let r = read h.tail h.shows in
    record {
      tail = r.tail;
      shows = r.shows;
      same = (
        λ k. let m : HoldsAny (element ∷ r.tail) byte = rw r.elements_are at (h.same.0 k) in
            elim m [ inl x ↦ absurd (n x) | inr x ↦ x ],
        λ k. h.same.1 (rw r.elements_are (inr k)),
      );
    }

pub left_holds : (element : Element) (elements : List Element) (rest behind : List ℕ) (byte : ℕ)
    → LeftOf elements rest byte
    → ((tail : List Element) → ShowsElements rest tail → ReadsElement element tail behind) → Holds element byte
    → HoldsAny elements byte
left_holds element elements rest behind byte h read k = let r =
    read h.tail h.shows in h.same.1 (rw r.elements_are (inl k))

shows_none : (elements : List Element) → ShowsElements [] elements → elements ≡ []
shows_none [] h = refl
shows_none (Single byte ∷ tail) h = go h.signs h.written h.spells.2
  where
    go : (signs : List PatternSign) → [] ≡ text_of_signs signs → signs ≡ h.spells.0 ∷ h.spells.1 → Single byte ∷ tail ≡ []
    go [] e k = cc
    go (sign ∷ signs) e k = absurd (some_text sign (text_of_signs signs) e)
shows_none (Range low high ∷ tail) h = go h.signs h.written h.spells.3
  where
    go : (signs : List PatternSign) → [] ≡ text_of_signs signs → signs ≡ h.spells.0 ∷ dash ∷ h.spells.1 ∷ h.spells.2
        → Range low high ∷ tail ≡ []
    go [] e k = cc
    go (sign ∷ signs) e k = absurd (some_text sign (text_of_signs signs) e)

pub left_none : (elements : List Element) (rest : List ℕ) (byte : ℕ) → LeftOf elements rest byte → rest ≡ []
    → ¬ HoldsAny elements byte
left_none elements rest byte h e k =
    let shows : ShowsElements [] h.tail = rw e at h.shows in
    let none = shows_none h.tail shows in
    rw none at (h.same.0 k)

-- the search for the closing bracket
pub seeks_first : (text inside behind : List ℕ) → ClosesAt text inside behind → Seeks text 0 text
seeks_first text inside behind h = record {
  seen = [];
  more = h.signs;
  behind = behind;
  text_is = refl;
  len_is = refl;
  rest_is = h.cut ∙ ap (λ (s : List ℕ). s ++ 93 ∷ behind) h.inside_is;
  are_seen = tt;
  are_more = h.are_signs;
  seen_unended = tt;
  more_unended = h.unended;
}

closing_is : IsSign closing_bracket
closing_is e = omega arith

Lacks-append : (sign : PatternSign) (a b : List PatternSign) → Lacks sign a → Lacks sign b → Lacks sign (a ++ b)
Lacks-append sign [] b h k = k
Lacks-append sign (next ∷ a) b h k = (h.0, Lacks-append sign a b h.1 k)

pub seeks_more : (text : List ℕ) (len : ℕ) (rest : List ℕ) (sign : PatternSign) (behind : List ℕ) → Seeks text len rest
    → IsSign sign → sign ≢ closing_bracket
    → rest ≡ sign_text sign ++ behind → Seeks text (length text - length behind) behind
seeks_more text len rest sign behind h i n e = go h.more h.rest_is h.are_more h.more_unended
  where
    whole : text ≡ text_of_signs (h.seen ++ sign ∷ []) ++ behind
    whole = h.text_is ∙ ap (λ (s : List ℕ). text_of_signs h.seen ++ s) e
        ∙ sym (rw (text_of_signs-append h.seen (sign ∷ []), append-nil, append_assoc) refl)

    go : (more : List PatternSign) → rest ≡ text_of_signs more ++ 93 ∷ h.behind → AreSigns more → Lacks closing_bracket more
        → Seeks text (length text - length behind) behind
    go [] k a u = absurd (n (same_sign sign closing_bracket behind h.behind i closing_is (sym e ∙ k)).0)
    go (first ∷ more) k a u =
        let both : sign_text first ++ (text_of_signs more ++ 93 ∷ h.behind) ≡ sign_text sign ++ behind =
        sym (append_assoc (sign_text first) (text_of_signs more) (93 ∷ h.behind)) ∙ sym k ∙ e in
        let same = same_sign first sign (text_of_signs more ++ 93 ∷ h.behind) behind a.0 i both in
        record {
          seen = h.seen ++ sign ∷ [];
          more = more;
          behind = h.behind;
          text_is = whole;
          len_is = let l = ap length whole
              ∙ length-append (text_of_signs (h.seen ++ sign ∷ [])) behind in omega (arith, l);
          rest_is = sym same.1;
          are_seen = AreSigns-append h.seen (sign ∷ []) h.are_seen (i, tt);
          are_more = a.1;
          seen_unended = Lacks-append closing_bracket h.seen (sign ∷ []) h.seen_unended (n, tt);
          more_unended = u.1;
        }

-- one set ends at one place
closes_once : (a b : List PatternSign) (r s : List ℕ) → AreSigns a → AreSigns b → Lacks closing_bracket a → Lacks closing_bracket b
    → text_of_signs a ++ 93 ∷ r ≡ text_of_signs b ++ 93 ∷ s → (a ≡ b) × (r ≡ s)
closes_once [] [] r s p q u v e = (refl, cc)
closes_once [] (y ∷ b) r s p q u v e =
    let same = same_sign closing_bracket y r (text_of_signs b ++ 93 ∷ s) closing_is q.0
    (e ∙ append_assoc (sign_text y) (text_of_signs b) (93 ∷ s)) in absurd (v.0 (sym same.0))
closes_once (x ∷ a) [] r s p q u v e =
    let same = same_sign x closing_bracket (text_of_signs a ++ 93 ∷ r) s p.0 closing_is
    (sym (append_assoc (sign_text x) (text_of_signs a) (93 ∷ r)) ∙ e) in absurd (u.0 same.0)
closes_once (x ∷ a) (y ∷ b) r s p q u v e =
    let same = same_sign x y (text_of_signs a ++ 93 ∷ r) (text_of_signs b ++ 93 ∷ s) p.0 q.0
    (sym (append_assoc (sign_text x) (text_of_signs a) (93 ∷ r)) ∙ e
    ∙ append_assoc (sign_text y) (text_of_signs b) (93 ∷ s))
    in
    let more = closes_once a b r s p.1 q.1 u.1 v.1 same.1 in
    (cc (same.0, more.0), more.1)

SpellsSet-unended : (inner : List PatternSign) (negated : Bool) (elements : List Element) → SpellsSet inner negated elements
    → Lacks closing_bracket inner
SpellsSet-unended inner negated elements h = rw h.begins (Lacks-mark negated h.inside h.unended)

pub begins_closes : (text : List ℕ) (negated : Bool) (elements : List Element) (behind : List ℕ)
    (h : BeginsSet text negated elements behind) → ClosesAt text (text_of_signs h.inner) behind
begins_closes text negated elements behind h = record {
  signs = h.inner;
  inside_is = refl;
  are_signs = h.are_signs;
  unended = SpellsSet-unended h.inner negated elements h.spells;
  cut = h.written;
}

-- what the search found is the set
pub record FindsSet (negated : Bool) (elements : List Element) (inside : List ℕ) : Type 0 where
  pub inner : List PatternSign
  pub written : inside ≡ text_of_signs inner
  pub are_signs : AreSigns inner
  pub spells : SpellsSet inner negated elements

pub finds_set : (text inside rest : List ℕ) (negated : Bool) (elements : List Element) (behind : List ℕ)
    → ClosesAt text inside rest → BeginsSet text negated elements behind
    → FindsSet negated elements inside × (rest ≡ behind)
finds_set text inside rest negated elements behind k h =
    let both : text_of_signs k.signs ++ 93 ∷ rest ≡ text_of_signs h.inner ++ 93 ∷ behind =
    sym (k.cut ∙ ap (λ (s : List ℕ). s ++ 93 ∷ rest) k.inside_is) ∙ h.written in
    let once = closes_once k.signs h.inner rest behind k.are_signs h.are_signs k.unended
    (SpellsSet-unended h.inner negated elements h.spells) both in (
      record {
        inner = h.inner;
        written = k.inside_is ∙ ap text_of_signs once.0;
        are_signs = h.are_signs;
        spells =
            h.spells;
      },
      once.1,
    )

bang_text : (signs : List PatternSign) (rest : List ℕ) → text_of_signs signs ≡ 33 ∷ rest → BeginsWithSign bang signs
bang_text [] rest e = cc
bang_text (Plain byte ∷ signs) rest e = let same : byte ≡ 33 = cc in ap Plain same
bang_text (Escaped byte ∷ signs) rest e = let same : ◌≡◌ {A = ℕ} 92 33 = cc in absurd (omega arith)

pub set_negated : (negated : Bool) (elements : List Element) (inside rest : List ℕ) → FindsSet negated elements inside
    → inside ≡ 33 ∷ rest → (negated ≡ true) × ShowsElements rest elements
set_negated true elements inside rest h e =
    let written : 33 ∷ rest ≡ 33 ∷ text_of_signs h.spells.inside =
    sym e ∙ h.written ∙ ap text_of_signs h.spells.begins in
    let are : AreSigns (bang ∷ h.spells.inside) = rw h.spells.begins at h.are_signs in
    (refl, record { signs = h.spells.inside; written = cc; are_signs = are.1; spells = h.spells.spells })
set_negated false elements inside rest h e =
    absurd (h.spells.marked refl
    (bang_text h.spells.inside rest (sym (ap text_of_signs h.spells.begins) ∙ sym h.written ∙ e)))

pub set_plain : (negated : Bool) (elements : List Element) (inside : List ℕ) → FindsSet negated elements inside
    → ((rest : List ℕ) → inside ≢ 33 ∷ rest) → (negated ≡ false) × ShowsElements inside elements
set_plain true elements inside h n =
    absurd (n (text_of_signs h.spells.inside) (h.written ∙ ap text_of_signs h.spells.begins))
set_plain false elements inside h n =
    let are : AreSigns h.spells.inside = rw h.spells.begins at h.are_signs in (
      refl,
      record {
        signs = h.spells.inside;
        written = h.written ∙ ap text_of_signs h.spells.begins;
        are_signs =
            are;
        spells = h.spells.spells;
      },
    )

-- the first item of a text, and its sign
no_item : (item : PatternItem) → ¬ SpellsItem [] item
no_item Star e = cc
no_item AnyByte e = cc
no_item (Literal byte) (inl e) = cc
no_item (Literal byte) (inr h) = let e = h.0 in cc
no_item (OneOf negated elements) h = let e = h.1 in cc

pub record ReadsItem (sign : PatternSign) (items : List PatternItem) (rest : List ℕ) : Type 0 where
  pub item : PatternItem
  pub tail : List PatternItem
  pub inner : List PatternSign
  pub after : List PatternSign
  pub items_are : items ≡ item ∷ tail
  pub spells : SpellsItem (sign ∷ inner) item
  pub rest_is : rest ≡ text_of_signs inner ++ text_of_signs after
  pub are_inner : AreSigns inner
  pub are_after : AreSigns after
  pub spells_tail : SpellsItems after tail

pub item_read : (text : List ℕ) (sign : PatternSign) (rest : List ℕ) (items : List PatternItem) → IsSign sign → text
    ≡ sign_text sign ++ rest → Spells text items → ReadsItem sign items rest
item_read text sign rest items i e h = go items h.spells
  where
    f : FirstSign h.signs sign rest
    f = first_sign h.signs sign rest i h.are_signs (sym h.written ∙ e)

    cut : (item : PatternItem) (tail : List PatternItem) (front after : List PatternSign) → sign ∷ f.more ≡ front ++ after
        → SpellsItem front item → SpellsItems after tail → ReadsItem sign (item ∷ tail) rest
    cut item tail [] after k m s = absurd (no_item item m)
    cut item tail (first ∷ inner) after k m s =
        let firsts : first ≡ sign = cc in
        let more : f.more ≡ inner ++ after = cc in
        let are : AreSigns (inner ++ after) = rw more at f.are_more in
        record {
          item = item;
          tail = tail;
          inner = inner;
          after = after;
          items_are = refl;
          spells = rw firsts at m;
          rest_is = f.rest_is ∙ ap text_of_signs more ∙ text_of_signs-append inner after;
          are_inner = AreSigns-front inner after are;
          are_after = AreSigns-back inner after are;
          spells_tail = s;
        }

    go : (items : List PatternItem) → SpellsItems h.signs items → ReadsItem sign items rest
    go [] k = let bad : [] ≡ sign ∷ f.more = sym k ∙ f.signs_are in cc
    go (item ∷ tail) (front, after, k, m, s) = cut item tail front after (sym f.signs_are ∙ k) m s

-- an item of one sign leaves the rest to the others
lone_tail : (sign : PatternSign) (items : List PatternItem) (rest : List ℕ) (h : ReadsItem sign items rest) → h.inner ≡ []
    → Spells rest h.tail
lone_tail sign items rest h e =
    record {
      signs = h.after;
      written =
          h.rest_is ∙ ap (λ (s : List PatternSign). text_of_signs s ++ text_of_signs h.after) e;
      are_signs = h.are_after;
      spells =
          h.spells_tail;
    }

star_item : (inner : List PatternSign) (item : PatternItem) → SpellsItem (star ∷ inner) item → (inner ≡ []) × (item ≡ Star)
star_item inner Star e = (cc, refl)
star_item inner AnyByte e = let same : star ≡ question = cc in absurd (plain_apart 42 63 (λ k. omega arith) same)
star_item inner (Literal byte) (inl e) = let same : Plain 42 ≡ Escaped byte = cc in cc
star_item inner (Literal byte) (inr h) = let e = h.0 in let same : Plain 42 ≡ Plain byte =
    cc in absurd (h.1 (sym same))
star_item inner (OneOf negated elements) h = let e = h.1 in let same : star ≡ opening_bracket =
    cc in absurd (plain_apart 42 91 (λ k. omega arith) same)

question_item : (inner : List PatternSign) (item : PatternItem) → SpellsItem (question ∷ inner) item → (inner ≡ [])
    × (item ≡ AnyByte)
question_item inner Star e = let same : question ≡ star = cc in absurd (plain_apart 63 42 (λ k. omega arith) same)
question_item inner AnyByte e = (cc, refl)
question_item inner (Literal byte) (inl e) = let same : Plain 63 ≡ Escaped byte = cc in cc
question_item inner (Literal byte) (inr h) = let e = h.0 in let same : Plain 63 ≡ Plain byte =
    cc in absurd (h.2 (sym same))
question_item inner (OneOf negated elements) h = let e = h.1 in let same : question ≡ opening_bracket =
    cc in absurd (plain_apart 63 91 (λ k. omega arith) same)

literal_item : (sign : PatternSign) (inner : List PatternSign) (item : PatternItem) → sign ≢ star → sign ≢ question → sign ≢ opening_bracket
    → SpellsItem (sign ∷ inner) item → (inner ≡ []) × (item ≡ Literal (byte_of sign))
literal_item sign inner Star n m o e = absurd (n (cc e))
literal_item sign inner AnyByte n m o e = absurd (m (cc e))
literal_item sign inner (Literal byte) n m o (inl e) = let same : sign ≡ Escaped byte =
    cc in (cc, ap Literal (sym (ap byte_of same)))
literal_item sign inner (Literal byte) n m o (inr h) = let e = h.0 in let same : sign ≡ Plain byte =
    cc in (cc, ap Literal (sym (ap byte_of same)))
literal_item sign inner (OneOf negated elements) n m o h = let e = h.1 in absurd (o (cc e))

-- what stands after the opening bracket of a set
pub record ReadsSet (items : List PatternItem) (rest : List ℕ) : Type 0 where
  pub negated : Bool
  pub elements : List Element
  pub tail : List PatternItem
  pub behind : List ℕ
  pub items_are : items ≡ OneOf negated elements ∷ tail
  pub begins : BeginsSet rest negated elements behind
  pub spells : Spells behind tail

pub set_read : (text rest : List ℕ) (items : List PatternItem) → text ≡ 91 ∷ rest → Spells text items
    → ReadsSet items rest
set_read text rest items e h = go r.item r.items_are r.spells
  where
    r : ReadsItem opening_bracket items rest
    r = item_read text opening_bracket rest items (λ k. omega arith) e h

    go : (item : PatternItem) → items ≡ item ∷ r.tail → SpellsItem (opening_bracket ∷ r.inner) item → ReadsSet items rest
    go Star k m = let same : opening_bracket ≡ star = cc in absurd (plain_apart 91 42 (λ k. omega arith) same)
    go AnyByte k m = let same : opening_bracket ≡ question = cc in absurd (plain_apart 91 63 (λ k. omega arith) same)
    go (Literal byte) k (inl m) = let same : Plain 91 ≡ Escaped byte = cc in cc
    go (Literal byte) k (inr m) = let e = m.0 in let same : Plain 91 ≡ Plain byte = cc in absurd (m.3 (sym same))
    go (OneOf negated elements) k (inner, m, s) =
        let inners : r.inner ≡ inner ++ closing_bracket ∷ [] = cc in
        let are : AreSigns (inner ++ closing_bracket ∷ []) = rw inners at r.are_inner in
        record {
          negated = negated;
          elements = elements;
          tail = r.tail;
          behind = text_of_signs r.after;
          items_are = k;
          begins = record {
            inner = inner;
            written = r.rest_is ∙ ap (λ (s : List PatternSign). text_of_signs s ++ text_of_signs r.after) inners
                ∙ rw (text_of_signs-append inner (closing_bracket ∷ []), append_assoc) refl;
            are_signs = AreSigns-front inner (closing_bracket ∷ []) are;
            spells = s;
          };
          spells = record { signs = r.after; written = refl; are_signs = r.are_after; spells = r.spells_tail };
        }

-- what a sign says of the item in front
pub plain_read : (token : PatternToken) (item : PatternItem) (text : List ℕ) (sign : PatternSign) (rest : List ℕ)
    (items : List PatternItem) → IsSign sign → text ≡ sign_text sign ++ rest
    → ((inner : List PatternSign) (own : PatternItem) → SpellsItem (sign ∷ inner) own → (inner ≡ []) × (own ≡ item))
    → IsToken token item → Spells text items → ReadsToken token items rest
plain_read token item text sign rest items i e only t h =
    let r = item_read text sign rest items i e h in
    let o = only r.inner r.item r.spells in
    record {
      item = item;
      tail = r.tail;
      items_are =
          r.items_are ∙ ap (λ (x : PatternItem). x ∷ r.tail) o.1;
      is_token = t;
      spells =
          lone_tail sign items rest r o.0;
    }

pub star_read : (text rest : List ℕ) (items : List PatternItem) → text ≡ 42 ∷ rest → Spells text items
    → ReadsToken token.Star items rest
star_read text rest items e h = plain_read token.Star Star text star rest items (λ k. omega arith) e star_item refl h

pub question_read : (text rest : List ℕ) (items : List PatternItem) → text ≡ 63 ∷ rest → Spells text items
    → ReadsToken token.AnyByte items rest
question_read text rest items e h =
    plain_read token.AnyByte AnyByte text question rest items (λ k. omega arith) e question_item refl h

pub literal_read : (text : List ℕ) (sign : PatternSign) (rest : List ℕ) (items : List PatternItem) → IsSign sign → text
    ≡ sign_text sign ++ rest → sign ≢ star → sign ≢ question → sign ≢ opening_bracket
    → Spells text items → ReadsToken (token.Literal (byte_of sign)) items rest
literal_read text sign rest items i e n m o h =
    plain_read (token.Literal (byte_of sign)) (Literal (byte_of sign)) text sign rest items i e
    (λ inner own. literal_item sign inner own n m o) refl h

pub set_token : (token : PatternToken) (rest : List ℕ) (items : List PatternItem) (behind : List ℕ) (r : ReadsSet items rest)
    → IsToken token (OneOf r.negated r.elements) → behind ≡ r.behind → ReadsToken token items behind
set_token token rest items behind r t e =
    record {
      item = OneOf r.negated r.elements;
      tail = r.tail;
      items_are = r.items_are;
      is_token = t;
      spells =
          rw e r.spells;
    }

-- a token that is no star is an item that is none
pub token_no_star : (one : PatternToken) (item : PatternItem) → IsToken one item → one ≢ token.Star → item ≢ Star
token_no_star token.Star item t n e = n refl
token_no_star token.AnyByte item t n e = cc
token_no_star (token.Literal byte) item t n e = cc
token_no_star (token.OneOf negated text) item t n e = let same = t.1 in cc

no_text : (signs : List PatternSign) → [] ≡ text_of_signs signs → signs ≡ []
no_text [] e = refl
no_text (sign ∷ signs) e = absurd (some_text sign (text_of_signs signs) e)

pub spells_none : (items : List PatternItem) → Spells [] items → items ≡ []
spells_none items h = go items (rw (no_text h.signs h.written) at h.spells)
  where
    go : (items : List PatternItem) → SpellsItems [] items → items ≡ []
    go [] e = refl
    go (item ∷ tail) (front, rest, e, m, k) = absurd (at_front front e m)
      where
        at_front : (front : List PatternSign) → [] ≡ front ++ rest → SpellsItem front item → ⊥
        at_front [] e m = no_item item m
        at_front (sign ∷ front) e m = cc

pub none_spells : (text : List ℕ) → Spells text [] → text ≡ []
none_spells text h = h.written ∙ ap text_of_signs h.spells

pub no_spelling : (text : List ℕ) (items : List PatternItem) → (text ≡ []) ⊎ (text ≡ 92 ∷ []) → Spells text items
    → text ≡ []
no_spelling text items e h = no_signs text h.signs e h.are_signs h.written

pub no_bytes : (text : List ℕ) → length text ≡ 0 → text ≡ []
no_bytes [] e = refl
no_bytes (byte ∷ text) e = absurd (omega arith)

pub no_length : (text : List ℕ) → eqb (length text) 0 ≡ true → text ≡ []
no_length [] e = refl
no_length (byte ∷ text) e = grind arith
