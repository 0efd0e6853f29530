-- Where a check of a text stands: each sign leads on or shows a fault, so each text has an answer.
use Rattle.std.proofs.Common.{◌≡◌, ◌≢◌, ℕ, ◌⊎◌, inl, inr, Bool, true, false, List, [], ◌∷◌, ◌++◌, Result, Ok, Err, refl}
use Rattle.std.proofs.Common.{sym, ap, ◌∙◌, append_assoc, append-nil}
use Rattle.dt_glob.specs.declared.sign.PatternSign.{PatternSign}
use Rattle.dt_glob.specs.declared.sign.PatternSign.TheVariants.{Plain, Escaped}
use Rattle.dt_glob.specs.declared.element.Element.{Element}
use Rattle.dt_glob.specs.declared.element.Element.TheVariants.{Single, Range}
use Rattle.dt_glob.specs.declared.place.PatternPlace.{PatternPlace}
use Rattle.dt_glob.specs.declared.place.PatternPlace.TheVariants.{Outside, Opened, Negated, Inside}
use Rattle.dt_glob.specs.declared.fault.GlobFault.{GlobFault}
use Rattle.dt_glob.specs.declared.fault.GlobFault.TheVariants.{Unclosed, EmptySet, LoneEscape}
use Rattle.dt_glob.specs.Sign.{byte_of, sign_text, text_of_signs, AreSigns, opening_bracket, closing_bracket, bang}
use Rattle.dt_glob.specs.PatternItem.{PatternItem, Star, AnyByte, Literal, OneOf}
use Rattle.dt_glob.specs.Spells.{SpellsElements, Lacks, BeginsWithSign, mark, SpellsSet, SpellsItem, SpellsItems}
use Rattle.dt_glob.specs.Spells.{Spells}
use Rattle.dt_glob.specs.Fault.{AreItems, EndsInSet, FaultOf}
use Rattle.dt_glob.specs.Place.{step_of, IsInside, HasOpened, StandsAt}
use Rattle.dt_glob.specs.laws.Signs.{text_of_signs-append, AreSigns-append, AreSigns-front, plain_cases, bang_apart}
use Rattle.dt_glob.specs.laws.Signs.{Lacks-mark}

-- each inside of a set spells elements
elements_exist : (signs : List PatternSign) → (elements : List Element) × SpellsElements signs elements
elements_exist [] = ([], refl)
elements_exist (sign ∷ []) = (Single (byte_of sign) ∷ [], (sign, [], refl, refl, inr (λ h. h), refl))
elements_exist (sign ∷ next ∷ []) = (
  Single (byte_of sign) ∷ Single (byte_of next) ∷ [],
  (sign, next ∷ [], refl, refl, inr (λ h. h), (next, [], refl, refl, inr (λ h. h), refl)),
)
elements_exist (sign ∷ next ∷ last ∷ signs) =
    elim (plain_cases 45 sign) [
      | inl w ↦ let more = elements_exist (next ∷ last ∷ signs) in
          (Single (byte_of sign) ∷ more.0, (sign, next ∷ last ∷ signs, refl, refl, inl w.1, more.1))
      | inr w ↦ elim (plain_cases 45 next) [
        | inl v ↦ let more = elements_exist signs in (
          Range (byte_of sign) (byte_of last) ∷ more.0,
          (sign, last, signs, ap (λ (s : PatternSign). sign ∷ s ∷ last ∷ signs) v.1, refl, refl, w.1, more.1),
        )
        | inr v ↦ let more = elements_exist (next ∷ last ∷ signs) in
            (Single (byte_of sign) ∷ more.0, (sign, next ∷ last ∷ signs, refl, refl, inr v.1, more.1))
      ]
    ]

SpellsItems-push : (a b : List PatternSign) (items : List PatternItem) (item : PatternItem) → SpellsItems a items
    → SpellsItem b item → SpellsItems (a ++ b) (items ++ item ∷ [])
SpellsItems-push a b [] item e h = (b, [], rw (e, append-nil) refl, h, refl)
SpellsItems-push a b (first ∷ items) item (front, rest, e, k, m) h = (
  front,
  rest ++ b,
  ap (λ (s : List PatternSign). s ++ b) e ∙ append_assoc front rest b,
  k,
  SpellsItems-push rest b items item m h,
)

pub AreItems-push : (a b : List PatternSign) (item : PatternItem) → AreItems a → SpellsItem b item → AreItems (a ++ b)
AreItems-push a b item h k = (h.0 ++ item ∷ [], SpellsItems-push a b h.0 item h.1 k)

-- a sign that begins no set is an item
item_exists : (sign : PatternSign) → sign ≢ opening_bracket → (item : PatternItem) × SpellsItem (sign ∷ []) item
item_exists (Escaped byte) n = (Literal byte, inl refl)
item_exists (Plain byte) n =
    elim (plain_cases 42 (Plain byte)) [
      | inl w ↦ (Star, ap (λ (s : PatternSign). s ∷ []) w.1)
      | inr w ↦ elim (plain_cases 63 (Plain byte)) [
        | inl v ↦ (AnyByte, ap (λ (s : PatternSign). s ∷ []) v.1)
        | inr v ↦ (Literal byte, inr (refl, w.1, v.1, n))
      ]
    ]

Lacks-append : (sign : PatternSign) (a b : List PatternSign) → Lacks sign a → Lacks sign b → Lacks sign (a ++ b)
Lacks-append sign [] b h k = k
Lacks-append sign (next ∷ a) b h k = (h.0, Lacks-append sign a b h.1 k)

BeginsWith-append : (sign : PatternSign) (a b : List PatternSign) → a ≢ [] → BeginsWithSign sign (a ++ b) → BeginsWithSign sign a
BeginsWith-append sign [] b n h = absurd (n refl)
BeginsWith-append sign (next ∷ a) b n h = h

append_some : (a : List PatternSign) (sign : PatternSign) → a ++ sign ∷ [] ≢ []
append_some [] sign e = cc
append_some (next ∷ a) sign e = cc

-- this sign ends a set that has no element
pub record EndsEmptySet (signs : List PatternSign) (sign : PatternSign) : Type 0 where
  pub front : List PatternSign
  pub negated : Bool
  pub cut : signs ++ sign ∷ [] ≡ front ++ opening_bracket ∷ (mark negated ++ closing_bracket ∷ [])
  pub items : AreItems front

-- what one more sign leads to
abbrev pub Leads : List PatternSign → PatternSign → Result PatternPlace GlobFault → Type 0
Leads signs sign (Ok next) = StandsAt next (signs ++ sign ∷ [])
Leads signs sign (Err fault) = (fault ≡ EmptySet) × EndsEmptySet signs sign

whole_set : (signs : List PatternSign) (sign : PatternSign) → sign ≡ closing_bracket → IsInside signs → AreItems (signs ++ sign ∷ [])
whole_set signs sign e h =
    let elements = elements_exist h.inside in
    let set : SpellsSet (mark h.negated ++ h.inside) h.negated elements.0 = record {
      inside = h.inside;
      begins = refl;
      marked = h.marked;
      unended = h.unended;
      some = h.some;
      spells = elements.1;
    } in
    let inner : List PatternSign = mark h.negated ++ h.inside in
    let cut : signs ++ sign ∷ [] ≡ h.front ++ opening_bracket ∷ (inner ++ closing_bracket ∷ []) =
    ap (λ (s : List PatternSign). s ++ sign ∷ []) h.cut ∙ append_assoc h.front (opening_bracket ∷ inner) (sign ∷ [])
    ∙ ap (λ (s : PatternSign). h.front ++ opening_bracket ∷ (inner ++ s ∷ [])) e in
    rw cut (AreItems-push h.front (opening_bracket ∷ (inner ++ closing_bracket ∷ [])) (OneOf h.negated elements.0) h.items
    (inner, refl, set))

more_inside : (signs : List PatternSign) (sign : PatternSign) → sign ≢ closing_bracket → IsInside signs → IsInside (signs ++ sign ∷ [])
more_inside signs sign n h = record {
  front = h.front;
  negated = h.negated;
  inside = h.inside ++ sign ∷ [];
  cut = ap (λ (s : List PatternSign). s ++ sign ∷ []) h.cut
      ∙ append_assoc h.front (opening_bracket ∷ (mark h.negated ++ h.inside)) (sign ∷ [])
      ∙ ap (λ (s : List PatternSign). h.front ++ opening_bracket ∷ s) (append_assoc (mark h.negated) h.inside (sign ∷ []));
  items = h.items;
  marked = λ e b. h.marked e (BeginsWith-append bang h.inside (sign ∷ []) h.some b);
  unended = Lacks-append closing_bracket h.inside (sign ∷ []) h.unended (n, tt);
  some = append_some h.inside sign;
}

begins_inside : (negated : Bool) (signs : List PatternSign) (sign : PatternSign) → sign ≢ closing_bracket → (negated ≡ false → sign ≢ bang)
    → HasOpened negated signs → IsInside (signs ++ sign ∷ [])
begins_inside negated signs sign n m h = record {
  front = h.front;
  negated = negated;
  inside = sign ∷ [];
  cut = ap (λ (s : List PatternSign). s ++ sign ∷ []) h.cut ∙ append_assoc h.front (opening_bracket ∷ mark negated) (sign ∷ []);
  items = h.items;
  marked = m;
  unended = (n, tt);
  some = append_some [] sign;
}

ends_empty : (negated : Bool) (signs : List PatternSign) (sign : PatternSign) → sign ≡ closing_bracket → HasOpened negated signs
    → EndsEmptySet signs sign
ends_empty negated signs sign e h = record {
  front = h.front;
  negated = negated;
  cut = ap (λ (s : List PatternSign). s ++ sign ∷ []) h.cut ∙ append_assoc h.front (opening_bracket ∷ mark negated) (sign ∷ [])
      ∙ ap (λ (s : PatternSign). h.front ++ opening_bracket ∷ (mark negated ++ s ∷ [])) e;
  items = h.items;
}

pub stepped : (place : PatternPlace) (signs : List PatternSign) (sign : PatternSign) → StandsAt place signs
    → Leads signs sign (step_of place sign)
stepped Outside signs sign h = elim (plain_cases 91 sign) [
  | inl w ↦ rw w.0 (record { front = signs; cut = ap (λ (s : PatternSign). signs ++ s ∷ []) w.1; items = h })
  | inr w ↦ let item = item_exists sign w.1 in rw w.0 (AreItems-push signs (sign ∷ []) item.0 h item.1)
]
stepped Opened signs sign h = elim (plain_cases 93 sign) [
  | inl w ↦ rw w.0 (refl, ends_empty false signs sign w.1 h)
  | inr w ↦ elim (plain_cases 33 sign) [
    | inl v ↦ rw (w.0, v.0) (record {
      front = h.front;
      cut = ap (λ (s : List PatternSign). s ++ sign ∷ []) h.cut ∙ append_assoc h.front (opening_bracket ∷ []) (sign ∷ [])
          ∙ ap (λ (s : PatternSign). h.front ++ opening_bracket ∷ s ∷ []) v.1;
      items = h.items;
    })
    | inr v ↦ rw (w.0, v.0) (begins_inside false signs sign w.1 (λ _. v.1) h)
  ]
]
stepped Negated signs sign h = elim (plain_cases 93 sign) [
  | inl w ↦ rw w.0 (refl, ends_empty true signs sign w.1 h)
  | inr w ↦ rw w.0 (begins_inside true signs sign w.1 (λ e. cc) h)
]
stepped Inside signs sign h = elim (plain_cases 93 sign) [
  | inl w ↦ rw w.0 (whole_set signs sign w.1 h)
  | inr w ↦ rw w.0 (more_inside signs sign w.1 h)
]

-- what a text's end shows
opened_set : (negated : Bool) (signs : List PatternSign) → HasOpened negated signs → EndsInSet signs
opened_set true signs h =
    record { front = h.front; inside = bang ∷ []; cut = h.cut; items = h.items; unended = (bang_apart, tt) }
opened_set false signs h = record { front = h.front; inside = []; cut = h.cut; items = h.items; unended = tt }

pub at_end : (place : PatternPlace) (signs : List PatternSign) → StandsAt place signs → ((place ≡ Outside) × AreItems signs)
    ⊎ ((place ≢ Outside) × EndsInSet signs)
at_end Outside signs h = inl (refl, h)
at_end Opened signs h = inr (λ e. cc, opened_set false signs h)
at_end Negated signs h = inr (λ e. cc, opened_set true signs h)
at_end Inside signs h =
    inr (
      λ e. cc,
      record {
        front = h.front;
        inside = mark h.negated ++ h.inside;
        cut = h.cut;
        items = h.items;
        unended =
            Lacks-mark h.negated h.inside h.unended;
      },
    )

-- a set that ends empty is the fault
pub FaultOf-empty : (text : List ℕ) (signs : List PatternSign) (sign : PatternSign) (rest : List ℕ) → text
    ≡ text_of_signs (signs ++ sign ∷ []) ++ rest
    → AreSigns (signs ++ sign ∷ []) → EndsEmptySet signs sign → FaultOf text EmptySet
FaultOf-empty text signs sign rest e a h =
    let are : AreSigns (h.front ++ opening_bracket ∷ (mark h.negated ++ closing_bracket ∷ [])) = rw h.cut at a in (
      h.front,
      h.negated,
      rest,
      e ∙ ap (λ (s : List PatternSign). text_of_signs s ++ rest) h.cut,
      AreSigns-front h.front _ are,
      h.items,
    )

pub text_of_signs-more : (text : List ℕ) (signs : List PatternSign) (sign : PatternSign) (rest : List ℕ) → text
    ≡ text_of_signs signs ++ (sign_text sign ++ rest) → text ≡ text_of_signs (signs ++ sign ∷ []) ++ rest
text_of_signs-more text signs sign rest e =
    e ∙ sym (rw (text_of_signs-append signs (sign ∷ []), append-nil, append_assoc) refl)

-- each text is a pattern, or has a fault
abbrev pub Answer : List ℕ → Type 0
Answer text = ((items : List PatternItem) × Spells text items) ⊎ ((fault : GlobFault) × FaultOf text fault)

led : (text : List ℕ) (signs : List PatternSign) (sign : PatternSign) (rest : List ℕ) → text
    ≡ text_of_signs (signs ++ sign ∷ []) ++ rest
    → AreSigns (signs ++ sign ∷ [])
    → ((next : PatternPlace) → StandsAt next (signs ++ sign ∷ []) → Answer text) → (to : Result PatternPlace GlobFault)
    → Leads signs sign to → Answer text
led text signs sign rest e a go (Ok next) h = go next h
led text signs sign rest e a go (Err fault) h = inr (EmptySet, FaultOf-empty text signs sign rest e a h.1)

answer_from : (rest text : List ℕ) (place : PatternPlace) (signs : List PatternSign) → text ≡ text_of_signs signs ++ rest
    → AreSigns signs
    → StandsAt place signs → Answer text
answer_from [] text place signs e a h = elim (at_end place signs h) [
  | inl w ↦ inl
      (w.1.0, record { signs = signs; written = e ∙ append-nil (text_of_signs signs); are_signs = a; spells = w.1.1 })
  | inr w ↦ inr (Unclosed, (signs, e ∙ append-nil (text_of_signs signs), a, w.1))
]
answer_from (byte ∷ []) text place signs e a h = elim (plain_cases 92 (Plain byte)) [
  | inl w ↦ let is : byte ≡ 92 = ap byte_of w.1 in
      let written : text ≡ text_of_signs signs ++ 92 ∷ [] = e ∙ ap (λ (b : ℕ). text_of_signs signs ++ b ∷ []) is in
      inr (LoneEscape, (signs, written, a, elim (at_end place signs h) [ inl v ↦ inl v.1 | inr v ↦ inr v.1 ]))
  | inr w ↦ let are : AreSigns (signs ++ Plain byte ∷ []) =
      AreSigns-append signs (Plain byte ∷ []) a ((λ k. w.1 (ap Plain k)), tt) in
      let written = text_of_signs-more text signs (Plain byte) [] e in
      led text signs (Plain byte) [] written are
      (λ next k. answer_from [] text next (signs ++ Plain byte ∷ []) written are k) (step_of place (Plain byte))
      (stepped place signs (Plain byte) h)
]
answer_from (byte ∷ next ∷ rest) text place signs e a h = elim (plain_cases 92 (Plain byte)) [
  | inl w ↦ let is : byte ≡ 92 = ap byte_of w.1 in
      let are : AreSigns (signs ++ Escaped next ∷ []) = AreSigns-append signs (Escaped next ∷ []) a (tt, tt) in
      let written =
      text_of_signs-more text signs (Escaped next) rest
      (e ∙ ap (λ (b : ℕ). text_of_signs signs ++ b ∷ next ∷ rest) is) in
      led text signs (Escaped next) rest written are
      (λ to k. answer_from rest text to (signs ++ Escaped next ∷ []) written are k) (step_of place (Escaped next))
      (stepped place signs (Escaped next) h)
  | inr w ↦ let are : AreSigns (signs ++ Plain byte ∷ []) =
      AreSigns-append signs (Plain byte ∷ []) a ((λ k. w.1 (ap Plain k)), tt) in
      let written = text_of_signs-more text signs (Plain byte) (next ∷ rest) e in
      led text signs (Plain byte) (next ∷ rest) written are
      (λ to k. answer_from (next ∷ rest) text to (signs ++ Plain byte ∷ []) written are k)
      (step_of place (Plain byte)) (stepped place signs (Plain byte) h)
]

pub answer : (text : List ℕ) → Answer text
answer text = answer_from text text Outside [] refl tt ([], refl)
