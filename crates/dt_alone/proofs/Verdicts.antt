-- Items have one verdict at most.
use Rattle.std.proofs.Common.{◌≡◌, ℕ, ◌+◌, List, [], ◌∷◌, ◌++◌, Some, length, reverse, refl, sym, ap, ◌∙◌, subst, ◌⊎◌}
use Rattle.std.proofs.Common.{⊎_elim, inl, inr}
use Rattle.std.proofs.lemmas.List.{append_assoc, reverse-append}
use Rattle.dt_cred.specs.declared.account.Account.{Account}
use Rattle.dt_machine.specs.Registry.{Contents}
use Rattle.dt_proto.specs.Trail.{WrittenItem}
use Rattle.dt_proto.specs.Session.{session_account}
use Rattle.dt_proto.specs.Legal.{Agrees, MayStand, IsRight}
use Rattle.dt_alone.specs.Verdicts.{IsTrailVerdict, IsVerdictOn, replies_in}
use Rattle.dt_alone.specs.declared.verdict.Verdict.{Verdict}
use Rattle.dt_alone.specs.declared.verdict.Verdict.TheVariants.{Agree, Differs, Illegal}
use Rattle.dt_alone.proofs.Trails.{same_trail}

-- Of two ways to cut a list at an element they are the same, or one cuts before the other.
pub record IsEarlier (a b : List WrittenItem) (x : WrittenItem) : Type 0 where
  pub middle : List WrittenItem
  pub whole : b ≡ a ++ (x ∷ middle)

pub record IsSame (a b : List WrittenItem) (x y : WrittenItem) : Type 0 where
  pub front : a ≡ b
  pub item : x ≡ y

abbrev pub TwoCuts : (a b : List WrittenItem) (x y : WrittenItem) → Type 0
TwoCuts a b x y = IsSame a b x y ⊎ (IsEarlier a b x ⊎ IsEarlier b a y)

one_more_cut : (e : WrittenItem) (a b : List WrittenItem) (x y : WrittenItem) → TwoCuts a b x y
    → TwoCuts (e ∷ a) (e ∷ b) x y
one_more_cut e a b x y cuts =
    ⊎_elim
    (λ same. inl (record { front = ap (λ list. e ∷ list) same.front; item = same.item }))
    (λ apart. ⊎_elim
    (λ early. inr (inl (record { middle = early.middle; whole = ap (λ list. e ∷ list) early.whole })))
    (λ late. inr (inr (record { middle = late.middle; whole = ap (λ list. e ∷ list) late.whole })))
    apart)
    cuts

pub two_cuts : (a b r s : List WrittenItem) (x y : WrittenItem) → a ++ (x ∷ r) ≡ b ++ (y ∷ s) → TwoCuts a b x y
two_cuts [] [] r s x y e = let same : x ≡ y = cc in inl (record { front = refl; item = same })
two_cuts [] (f ∷ b) r s x y e =
    let first : f ≡ x = cc in
    let whole : f ∷ b ≡ x ∷ b = cc in
    inr (inl (record { middle = b; whole = whole }))
two_cuts (f ∷ a) [] r s x y e =
    let whole : f ∷ a ≡ y ∷ a = cc in
    inr (inr (record { middle = a; whole = whole }))
two_cuts (f ∷ a) (g ∷ b) r s x y e =
    let first : f ≡ g = cc in
    let later : a ++ (x ∷ r) ≡ b ++ (y ∷ s) = cc in
    subst (λ h. TwoCuts (f ∷ a) (h ∷ b) x y) first (one_more_cut f a b x y (two_cuts a b r s x y later))

module _ (account : Account) (contents : Contents) where
  abbrev AgreesWith : List WrittenItem → Type 0
  AgreesWith past = Agrees account contents past

  abbrev Stands : List WrittenItem → WrittenItem → Type 0
  Stands past item = MayStand account contents past item

  abbrev Right : List WrittenItem → WrittenItem → Type 0
  Right past item = IsRight account contents past item

  -- what is known of an item among items that agree
  abbrev AgreesAt : List WrittenItem → WrittenItem → Type 0
  AgreesAt past item = AgreesWith past × Stands past item × Right past item

  agrees_in : (later : List WrittenItem) (item : WrittenItem) (past : List WrittenItem)
      → AgreesWith (later ++ (item ∷ past))
      → AgreesAt past item
  agrees_in [] item past h = h
  agrees_in (one ∷ later) item past h = agrees_in later item past h.0

  pub turned : (before later : List WrittenItem) (item : WrittenItem) → reverse (before ++ (item ∷ later))
      ≡ reverse later ++ (item ∷ reverse before)
  turned before later item =
      reverse-append before (item ∷ later) ∙ ap (λ list. list ++ reverse before) (reverse-append (item ∷ []) later)
      ∙ append_assoc (reverse later) (item ∷ []) (reverse before)

  agrees_at : (items before later : List WrittenItem) (item : WrittenItem) → items ≡ before ++ (item ∷ later)
      → AgreesWith (reverse items) → AgreesAt (reverse before) item
  agrees_at items before later item whole h =
      agrees_in (reverse later) item (reverse before)
      (subst AgreesWith (ap reverse whole ∙ turned before later item) h)

  -- Items are cut at the first that is not in order.
  record IsFirstFault (items before : List WrittenItem) (item : WrittenItem) : Type 0 where
    later : List WrittenItem
    whole : items ≡ before ++ (item ∷ later)
    agreed : AgreesWith (reverse before)
    fault : AgreesAt (reverse before) item → ⊥

  no_fault : (items before : List WrittenItem) (item : WrittenItem) → AgreesWith (reverse items)
      → IsFirstFault items before item → ⊥
  no_fault items before item h f = f.fault (agrees_at items before f.later item f.whole h)

  not_earlier : (a b items : List WrittenItem) (x y : WrittenItem) → IsFirstFault items a x
      → IsFirstFault items b y
      → IsEarlier a b x → ⊥
  not_earlier a b items x y f g early = f.fault (agrees_at b a early.middle x early.whole g.agreed)

  one_fault : (items a b : List WrittenItem) (x y : WrittenItem) → IsFirstFault items a x → IsFirstFault items b y
      → IsSame a b x y
  one_fault items a b x y f g =
      ⊎_elim
      (λ same. same)
      (λ apart. ⊎_elim
      (λ early. absurd (not_earlier a b items x y f g early))
      (λ late. absurd (not_earlier b a items y x g f late))
      apart)
      (two_cuts a b f.later g.later x y (sym f.whole ∙ g.whole))

  abbrev Verdicts : List WrittenItem → Verdict → Type 0
  Verdicts items verdict = IsTrailVerdict account contents items verdict

  differs : (items : List WrittenItem) (k : ℕ) (h : Verdicts items (Differs k)) → IsFirstFault items h.0 h.2
  differs items k h = record { later = h.1; whole = h.3; agreed = h.4; fault = λ agrees. h.6 agrees.2 }

  illegal : (items : List WrittenItem) (k : ℕ) (h : Verdicts items (Illegal k)) → IsFirstFault items h.0 h.2
  illegal items k h = record { later = h.1; whole = h.3; agreed = h.4; fault = λ agrees. h.5 agrees.1 }

  -- an item that may stand at a place may stand there
  moved : (a b : List WrittenItem) (x y : WrittenItem) → IsSame a b x y → Stands (reverse a) x → Stands (reverse b) y
  moved a b x y same h =
      subst (λ item. Stands (reverse b) item) same.item
      (subst (λ front. Stands (reverse front) x) same.front h)

  pub same_verdict : (items : List WrittenItem) (a b : Verdict) → Verdicts items a → Verdicts items b → a ≡ b
  same_verdict items (Agree n) (Agree m) h k = ap Agree (h.1 ∙ sym k.1)
  same_verdict items (Agree n) (Differs m) h k = absurd (no_fault items k.0 k.2 h.0 (differs items m k))
  same_verdict items (Agree n) (Illegal m) h k = absurd (no_fault items k.0 k.2 h.0 (illegal items m k))
  same_verdict items (Differs n) (Agree m) h k = absurd (no_fault items h.0 h.2 k.0 (differs items n h))
  same_verdict items (Illegal n) (Agree m) h k = absurd (no_fault items h.0 h.2 k.0 (illegal items n h))
  same_verdict items (Differs n) (Differs m) h k =
      let same = one_fault items h.0 k.0 h.2 k.2 (differs items n h) (differs items m k) in
      ap Differs (h.7 ∙ ap (λ front. replies_in front + 1) same.front ∙ sym k.7)
  same_verdict items (Illegal n) (Illegal m) h k =
      let same = one_fault items h.0 k.0 h.2 k.2 (illegal items n h) (illegal items m k) in
      ap Illegal (h.6 ∙ ap (λ front. length front + 1) same.front ∙ sym k.6)
  same_verdict items (Differs n) (Illegal m) h k =
      let same = one_fault items h.0 k.0 h.2 k.2 (differs items n h) (illegal items m k) in
      absurd (k.5 (moved h.0 k.0 h.2 k.2 same h.5))
  same_verdict items (Illegal n) (Differs m) h k =
      let same = one_fault items k.0 h.0 k.2 h.2 (differs items m k) (illegal items n h) in
      absurd (h.5 (moved k.0 h.0 k.2 h.2 same k.5))

some_same : (a b : Account) → Some a ≡ Some b → a ≡ b
some_same a b e = cc

pub one_verdict : (contents : Contents) (text : List ℕ) (a b : Verdict) → IsVerdictOn contents text a
    → IsVerdictOn contents text b → a ≡ b
one_verdict contents text a b h k =
    let same = same_trail text k.0 h.0 k.2 h.2 k.3 h.3 in
    let account : k.1 ≡ h.1 = some_same k.1 h.1 (sym k.4 ∙ ap (session_account contents.registry) same.0 ∙ h.4) in
    let there : IsTrailVerdict h.1 contents h.2 b =
    subst (λ one. IsTrailVerdict one contents h.2 b) account
    (subst (λ items. IsTrailVerdict k.1 contents items b) same.1 k.5) in
    same_verdict h.1 contents h.2 a b h.5 there
