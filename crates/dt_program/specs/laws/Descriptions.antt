-- The bytes and the fields of a description.
use Rattle.std.proofs.Common.{◌≡◌, ℕ, ◌⊎◌, inl, inr, zero, suc, ◌-◌, ◌<◌, ◌≤◌, List, [], ◌∷◌, ◌++◌, length, get_or}
use Rattle.std.proofs.Common.{replicate, Result, Ok, Err, refl, sym, ap, ◌∙◌, subst, ⊎_elim, arith}
use Rattle.std.specs.List.{AllByRecursion}
use Rattle.dt_names.specs.Desc.{Desc, Describes, IsField, fields, ShowsFault, IsFirstFault}
use Rattle.dt_names.specs.declared.desc.NameFault.{NameFault}
use Rattle.dt_names.specs.declared.desc.NameFault.TheVariants.{BadByte, TooLong, TooManyFields}
use Rattle.dt_glob.specs.Limits.{pattern_max}
use Rattle.dt_glob.specs.Fault.{FaultOf}
use Rattle.dt_glob.specs.declared.fault.GlobFault.{GlobFault}
use Rattle.dt_glob.specs.PatternItem.{PatternItem}
use Rattle.dt_glob.specs.Spells.{Spells}
use Rattle.dt_names.specs.laws.Clean.{never_both}
use Rattle.dt_program.specs.Description.{DescForm, DescribesPatterns, IsPatternFault, HasPatternFault, here, later}
use Rattle.dt_program.specs.Description.{IsDescriptionFault, of_fields, of_pattern, ReadsDescription}
use Rattle.dt_program.specs.declared.description.DescriptionFault.{DescriptionFault}
use Rattle.dt_program.specs.declared.description.DescriptionFault.TheVariants.{Fields, Pattern}

-- each part is short enough for a pattern
abbrev pub AllShort : List (List ℕ) → Type 0
AllShort parts = AllByRecursion (λ part. length part ≤ pattern_max) parts

short_padded : (n : ℕ) (parts : List (List ℕ)) → AllByRecursion IsField parts → AllShort (replicate n [] ++ parts)
short_padded zero [] h = tt
short_padded zero (part ∷ parts) h = (h.0.short, short_padded zero parts h.1)
short_padded (suc n) parts h = (omega arith, short_padded n parts h)

pub short_description : (text : List ℕ) (desc : Desc) → Describes text desc
    → AllShort (desc.provider ∷ desc.module ∷ desc.function ∷ desc.name ∷ [])
short_description text desc d = subst AllShort d.aligned (short_padded (4 - length (fields text)) (fields text) d.each)

-- the description of these four fields
abbrev desc_from : List (List ℕ) → Desc
desc_from parts =
    record {
      provider = get_or parts 0 [];
      «module» = get_or parts 1 [];
      function = get_or parts 2 [];
      name =
          get_or parts 3 [];
    }

pub same_description : (text : List ℕ) (a b : Desc) → Describes text a → Describes text b → a ≡ b
same_description text a b d e = ap desc_from (sym d.aligned ∙ e.aligned)

abbrev IsPattern : List ℕ → Type 0
IsPattern field = (items : List PatternItem) × Spells field items

-- the fields of a text that is a description of patterns
module _ (text : List ℕ) (desc : Desc) (d : Describes text desc) (form : DescForm) (p : DescribesPatterns text form)
  where
    the_desc : p.desc ≡ desc
    the_desc = same_description text p.desc desc p.described d

    pub provider_of : Spells desc.provider form.provider
    provider_of = subst (λ (x : Desc). Spells x.provider form.provider) the_desc p.provider

    pub module_of : Spells desc.module form.module
    module_of = subst (λ (x : Desc). Spells x.module form.module) the_desc p.module

    pub function_of : Spells desc.function form.function
    function_of = subst (λ (x : Desc). Spells x.function form.function) the_desc p.function

    pub name_of : Spells desc.name form.name
    name_of = subst (λ (x : Desc). Spells x.name form.name) the_desc p.name

module _ (one_pattern : (text : List ℕ) (a b : List PatternItem) → Spells text a → Spells text b → a ≡ b) where
  same_form : (text : List ℕ) (a b : DescForm) → DescribesPatterns text a → DescribesPatterns text b → a ≡ b
  same_form text a b p q =
      let provider : a.provider ≡ b.provider =
      one_pattern q.desc.provider a.provider b.provider (provider_of text q.desc q.described a p) q.provider in
      let «module» : a.module ≡ b.module =
      one_pattern q.desc.module a.module b.module (module_of text q.desc q.described a p) q.module in
      let function : a.function ≡ b.function =
      one_pattern q.desc.function a.function b.function (function_of text q.desc q.described a p) q.function in
      let name : a.name ≡ b.name = one_pattern q.desc.name a.name b.name
      (name_of text q.desc q.described a p) q.name in
      ap (λ x. record a { provider = x }) provider
      ∙ ap (λ x. record { provider = b.provider; «module» = x; function = a.function; name = a.name }) «module»
      ∙ ap (λ x. record { provider = b.provider; «module» = b.module; function = x; name = a.name }) function
      ∙ ap (λ x. record b { name = x }) name

-- a byte shows one fault at most, and so does a text first
one_shown : (text : List ℕ) (at : ℕ) (a b : NameFault) → ShowsFault text at a → ShowsFault text at b → a ≡ b
one_shown text at BadByte BadByte h k = refl
one_shown text at BadByte TooLong h k = absurd (h.0 k.0)
one_shown text at BadByte TooManyFields h k = absurd (h.1 k.0)
one_shown text at TooLong BadByte h k = absurd (k.0 h.0)
one_shown text at TooLong TooLong h k = refl
one_shown text at TooLong TooManyFields h k = absurd (h.0.no_colon k.0)
one_shown text at TooManyFields BadByte h k = absurd (k.1 h.0)
one_shown text at TooManyFields TooLong h k = absurd (k.0.no_colon h.0)
one_shown text at TooManyFields TooManyFields h k = refl

one_name_fault : (text : List ℕ) (a b : NameFault) → IsFirstFault text a → IsFirstFault text b → a ≡ b
one_name_fault text a b h k =
    let same : h.at ≡ k.at = omega (
      arith,
      λ (r : h.at < k.at). k.none_before h.at a r h.shown,
      λ (r : k.at < h.at). h.none_before k.at b r k.shown,
    ) in
    one_shown text k.at a b (subst (λ (n : ℕ). ShowsFault text n a) same h.shown) k.shown

none_of_no_fields : (fault : DescriptionFault) → HasPatternFault [] fault → ⊥
none_of_no_fields fault h = elim h [ ]

-- the first field has the fault, or is a pattern, and it is one of the rest
fault_cases : (field : List ℕ) (fields : List (List ℕ)) (fault : DescriptionFault)
    → HasPatternFault (field ∷ fields) fault
    → IsPatternFault field fault ⊎ ((items : List PatternItem) × Spells field items × HasPatternFault fields fault)
fault_cases _ _ _ (here field fields fault h) = inl h
fault_cases _ _ _ (later field fields fault items s h) = inr (items, s, h)

-- Which fault a text shows that is no description, and that each text is one or shows one.
module _ (one_pattern : (text : List ℕ) (a b : List PatternItem) → Spells text a → Spells text b → a ≡ b)
    (one_fault : (text : List ℕ) (a b : GlobFault) → FaultOf text a → FaultOf text b → a ≡ b)
    (never_faulty : (text : List ℕ) (items : List PatternItem) (fault : GlobFault) → Spells text items
    → FaultOf text fault → ⊥) where
  same_pattern_fault : (field : List ℕ) (a b : DescriptionFault) → IsPatternFault field a → IsPatternFault field b
      → a ≡ b
  same_pattern_fault field (Pattern a) (Pattern b) h k = ap Pattern (one_fault field a b h k)
  same_pattern_fault field (Pattern a) (Fields b) h k = absurd k
  same_pattern_fault field (Fields a) b h k = absurd h

  no_pattern : (field : List ℕ) (items : List PatternItem) (fault : DescriptionFault) → Spells field items
      → IsPatternFault field fault → ⊥
  no_pattern field items (Pattern fault) h k = never_faulty field items fault h k
  no_pattern field items (Fields fault) h k = k

  same_first_fault : (parts : List (List ℕ)) (a b : DescriptionFault) → HasPatternFault parts a
      → HasPatternFault parts b → a ≡ b
  same_first_fault [] a b h k = absurd (none_of_no_fields a h)
  same_first_fault (field ∷ fields) a b h k = elim (fault_cases field fields a h) [
    | inl x ↦ elim (fault_cases field fields b k) [
      | inl y ↦ same_pattern_fault field a b x y
      | inr y ↦ absurd (no_pattern field y.0 a y.1 x)
    ]
    | inr x ↦ elim (fault_cases field fields b k) [
      | inl y ↦ absurd (no_pattern field x.0 b x.1 y)
      | inr y ↦ same_first_fault fields a b x.2 y.2
    ]
  ]

  -- where each field is a pattern, none has a fault
  no_fault_in : (parts : List (List ℕ)) (fault : DescriptionFault) → AllByRecursion IsPattern parts
      → HasPatternFault parts fault → ⊥
  no_fault_in _ _ all (here field fields fault h) = no_pattern field all.0.0 fault all.0.1 h
  no_fault_in _ _ all (later field fields fault items s h) = no_fault_in fields fault all.1 h

  described_faultless : (text : List ℕ) (form : DescForm) (fault : DescriptionFault) → DescribesPatterns text form
      → IsDescriptionFault text fault → ⊥
  described_faultless text form _ p (of_fields fault f) = never_both text p.desc fault p.described f
  described_faultless text form _ p (of_pattern desc fault d h) =
      no_fault_in _ fault (
        (form.provider, provider_of text desc d form p),
        (
          (form.module, module_of text desc d form p),
          ((form.function, function_of text desc d form p), ((form.name, name_of text desc d form p), tt)),
        ),
      ) h

  same_fault : (text : List ℕ) (a b : DescriptionFault) → IsDescriptionFault text a → IsDescriptionFault text b → a ≡ b
  same_fault text _ _ (of_fields a f) (of_fields b g) = ap Fields (one_name_fault text a b f g)
  same_fault text _ _ (of_fields a f) (of_pattern desc b d k) = absurd (never_both text desc a d f)
  same_fault text _ _ (of_pattern desc a d h) (of_fields b g) = absurd (never_both text desc b d g)
  same_fault text _ _ (of_pattern desc a d h) (of_pattern other b e k) =
      let same : other ≡ desc = same_description text other desc e d in
      same_first_fault _ a b h
      (subst (λ (x : Desc). HasPatternFault (x.provider ∷ x.module ∷ x.function ∷ x.name ∷ []) b) same k)

  pub same_reading_of_description : (text : List ℕ) (a b : Result DescForm DescriptionFault) → ReadsDescription text a
      → ReadsDescription text b → a ≡ b
  same_reading_of_description text (Ok a) (Ok b) h k = ap Ok (same_form one_pattern text a b h k)
  same_reading_of_description text (Ok a) (Err b) h k = absurd (described_faultless text a b h k)
  same_reading_of_description text (Err a) (Ok b) h k = absurd (described_faultless text b a k h)
  same_reading_of_description text (Err a) (Err b) h k = ap Err (same_fault text a b h k)

-- what a field is: a pattern, or with a fault
abbrev Judged : List ℕ → Type 0
Judged field = IsPattern field ⊎ ((fault : DescriptionFault) × IsPatternFault field fault)

some_form : (text : List ℕ) (desc : Desc) → Describes text desc → Judged desc.provider → Judged desc.module
    → Judged desc.function → Judged desc.name
    → (reading : Result DescForm DescriptionFault) × ReadsDescription text reading
some_form text desc d (inl p) (inl m) (inl f) (inl n) = (
  Ok (record { provider = p.0; «module» = m.0; function = f.0; name = n.0 }),
  record { desc = desc; described = d; provider = p.1; «module» = m.1; function = f.1; name = n.1 },
)
some_form text desc d (inl p) (inl m) (inl f) (inr n) = (
  Err n.0,
  of_pattern desc n.0 d (later _ _ _ p.0 p.1 (later _ _ _ m.0 m.1 (later _ _ _ f.0 f.1 (here _ _ _ n.1)))),
)
some_form text desc d (inl p) (inl m) (inr f) n =
    (Err f.0, of_pattern desc f.0 d (later _ _ _ p.0 p.1 (later _ _ _ m.0 m.1 (here _ _ _ f.1))))
some_form text desc d (inl p) (inr m) f n = (Err m.0, of_pattern desc m.0 d (later _ _ _ p.0 p.1 (here _ _ _ m.1)))
some_form text desc d (inr p) m f n = (Err p.0, of_pattern desc p.0 d (here _ _ _ p.1))

module _ (some : (text : List ℕ) → ((items : List PatternItem) × Spells text items)
    ⊎ ((fault : GlobFault) × FaultOf text fault)) where
  judged : (field : List ℕ) → Judged field
  judged field = ⊎_elim (λ p. inl p) (λ f. inr (Pattern f.0, f.1)) (some field)

  pub some_described : (text : List ℕ) (desc : Desc) → Describes text desc
      → (reading : Result DescForm DescriptionFault) × ReadsDescription text reading
  some_described text desc d =
      some_form text desc d (judged desc.provider) (judged desc.module) (judged desc.function) (judged desc.name)
