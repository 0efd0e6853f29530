-- Each entry of a list once.
use Rattle.std.proofs.Common.{◌≡◌, zero, suc, ⊎_elim, Bool, true, false, cond, ◌||◌, List, [], ◌∷◌, ◌++◌, refl, sym}
use Rattle.std.proofs.Common.{ap, ◌∙◌, subst, arith}
use Rattle.std.specs.Prelude.{filter, not, Contains}
use Rattle.std.specs.List.{list_any}
use Rattle.std.proofs.lemmas.Bool.{false≢true}
use Rattle.std.proofs.lemmas.List.{append-nil}
use Rattle.std.proofs.lemmas.List.Elements.{filter-append}
use Rattle.dt_aggstore.specs.Keys.{Entry, same_entry}
use Rattle.dt_aggstore.specs.Held.{distinct}
use Rattle.dt_aggstore.proofs.Same.{entry_is, own_entry, entry_back}
use Rattle.dt_aggstore.proofs.Filters.{yes_or_no, not_true, not_false, filter_yes, filter_no, filter_under}
use Rattle.dt_aggstore.proofs.Filters.{filter_swap, any_filter}

-- whether an entry is among some
abbrev pub has : Entry → List Entry → Bool
has entry entries = list_any (λ other. same_entry other entry) entries

-- the test that an entry is another one
abbrev pub other_than : Entry → Entry → Bool
other_than entry other = not (same_entry entry other)

pub has_from_contains : (entries : List Entry) (entry : Entry) → Contains entries entry → has entry entries ≡ true
has_from_contains [] entry (k, lt, e) = absurd (omega arith)
has_from_contains (other ∷ entries) entry (zero, lt, e) =
    ap (λ x. same_entry x entry || has entry entries) e ∙ ap (λ b. b || has entry entries) (own_entry entry)
has_from_contains (other ∷ entries) entry (suc k, lt, e) =
    ⊎_elim
    (λ yes. ap (λ b. b || has entry entries) yes)
    (λ no. ap (λ b. b || has entry entries) no ∙ has_from_contains entries entry (k, omega arith, e))
    (yes_or_no (same_entry other entry))

pub contains_from_has : (entries : List Entry) (entry : Entry) → has entry entries ≡ true → Contains entries entry
contains_from_has [] entry e = absurd (false≢true e)
contains_from_has (other ∷ entries) entry e = ⊎_elim
    (λ yes. (0, omega arith, entry_is other entry yes))
    (λ no.
    let rest = contains_from_has entries entry (sym (ap (λ b. b || has entry entries) no) ∙ e) in
    (suc rest.0, omega (arith, rest.1), rest.2))
    (yes_or_no (same_entry other entry))

-- once each, the same are among them
pub has-distinct : (entries : List Entry) (entry : Entry) → has entry (distinct entries) ≡ has entry entries
has-distinct [] entry = refl
has-distinct (other ∷ entries) entry = ⊎_elim
    (λ yes. ap (λ b. b || has entry (filter (other_than other) (distinct entries))) yes
    ∙ sym (ap (λ b. b || has entry entries) yes))
    (λ no. ap (λ b. same_entry other entry || b)
    (any_filter (λ x. same_entry x entry) (other_than other)
    (λ x e. not_true (same_entry other x)
    (subst (λ y. same_entry other y ≡ false) (sym (entry_is x entry e)) no))
    (distinct entries)
    ∙ has-distinct entries entry))
    (yes_or_no (same_entry other entry))

-- an entry more, after those of which some are others than the first
module _ (other : Entry) (entries : List Entry) (entry : Entry) where
  abbrev Rest : List Entry
  Rest = filter (other_than other) entries

  abbrev Pushed : Bool → Type 0
  Pushed b =
      other ∷ filter (other_than other) (cond b entries (entries ++ entry ∷ []))
      ≡ cond (same_entry other entry || b) (other ∷ Rest) ((other ∷ Rest) ++ entry ∷ [])

  abbrev Ends : Bool → Bool → List Entry
  Ends s b = cond (s || b) (other ∷ Rest) ((other ∷ Rest) ++ entry ∷ [])

  pushed : (b : Bool) → Pushed b
  pushed true = ⊎_elim
      (λ yes. sym (ap (λ s. Ends s true) yes))
      (λ no. sym (ap (λ s. Ends s true) no))
      (yes_or_no (same_entry other entry))
  pushed false =
      ap (λ xs. other ∷ xs) (filter-append (other_than other) entries (entry ∷ []))
      ∙ ⊎_elim
      (λ yes. ap (λ xs. other ∷ (Rest ++ xs))
      (filter_no (other_than other) entry [] (not_false (same_entry other entry) yes))
      ∙ ap (λ xs. other ∷ xs) (append-nil Rest)
      ∙ sym (ap (λ s. Ends s false) yes))
      (λ no. ap (λ xs. other ∷ (Rest ++ xs))
      (filter_yes (other_than other) entry [] (not_true (same_entry other entry) no))
      ∙ sym (ap (λ s. Ends s false) no))
      (yes_or_no (same_entry other entry))

pub distinct-push : (entries : List Entry) (entry : Entry)
    → distinct (entries ++ entry ∷ []) ≡ cond (has entry entries) (distinct entries) (distinct entries ++ entry ∷ [])
distinct-push [] entry = refl
distinct-push (other ∷ entries) entry =
    ap (λ xs. other ∷ filter (other_than other) xs) (distinct-push entries entry)
    ∙ pushed other (distinct entries) entry (has entry entries)

-- those that pass a test
pub distinct-filter : (p : Entry → Bool) (entries : List Entry)
    → distinct (filter p entries) ≡ filter p (distinct entries)
distinct-filter p [] = refl
distinct-filter p (entry ∷ entries) = ⊎_elim
    (λ yes. ap distinct (filter_yes p entry entries yes)
    ∙ ap (λ xs. entry ∷ filter (other_than entry) xs) (distinct-filter p entries)
    ∙ ap (λ xs. entry ∷ xs) (filter_swap (other_than entry) p (distinct entries))
    ∙ sym (filter_yes p entry (filter (other_than entry) (distinct entries)) yes))
    (λ no. ap distinct (filter_no p entry entries no)
    ∙ distinct-filter p entries
    ∙ sym (filter_under p (other_than entry)
    (λ x e. ⊎_elim
    (λ same. absurd (false≢true (sym no ∙ ap p (entry_is entry x same) ∙ e)))
    (λ apart. not_true (same_entry entry x) apart)
    (yes_or_no (same_entry entry x)))
    (distinct entries))
    ∙ sym (filter_no p entry (filter (other_than entry) (distinct entries)) no))
    (yes_or_no (p entry))

-- no entry is one of those before it
abbrev pub AreApart : List Entry → Type 0
AreApart [] = Unit {0}
AreApart (entry ∷ entries) = (has entry entries ≡ false) × AreApart entries

pub has-filter_no : (p : Entry → Bool) (entries : List Entry) (entry : Entry) → has entry entries ≡ false
    → has entry (filter p entries) ≡ false
has-filter_no p [] entry e = refl
has-filter_no p (other ∷ entries) entry e = ⊎_elim
    (λ yes. absurd (false≢true (sym e ∙ ap (λ b. b || has entry entries) yes)))
    (λ no.
    let rest = has-filter_no p entries entry (sym (ap (λ b. b || has entry entries) no) ∙ e) in
    ⊎_elim
    (λ keeps. ap (has entry) (filter_yes p other entries keeps) ∙ ap (λ b. b || has entry (filter p entries)) no
    ∙ rest)
    (λ drops. ap (has entry) (filter_no p other entries drops) ∙ rest)
    (yes_or_no (p other)))
    (yes_or_no (same_entry other entry))

apart_filter : (p : Entry → Bool) (entries : List Entry) → AreApart entries → AreApart (filter p entries)
apart_filter p [] a = tt
apart_filter p (entry ∷ entries) a = ⊎_elim
    (λ yes. subst AreApart (sym (filter_yes p entry entries yes))
    (has-filter_no p entries entry a.0, apart_filter p entries a.1))
    (λ no. subst AreApart (sym (filter_no p entry entries no)) (apart_filter p entries a.1))
    (yes_or_no (p entry))

-- what is other than an entry isn't it
has-others : (entries : List Entry) (entry : Entry) → has entry (filter (other_than entry) entries) ≡ false
has-others [] entry = refl
has-others (other ∷ entries) entry = ⊎_elim
    (λ yes. ap (has entry) (filter_no (other_than entry) other entries (not_false (same_entry entry other) yes))
    ∙ has-others entries entry)
    (λ no. ap (has entry) (filter_yes (other_than entry) other entries (not_true (same_entry entry other) no))
    ∙ ap (λ b. b || has entry (filter (other_than entry) entries)) (entry_back entry other no)
    ∙ has-others entries entry)
    (yes_or_no (same_entry entry other))

pub distinct_apart : (entries : List Entry) → AreApart (distinct entries)
distinct_apart [] = tt
distinct_apart (entry ∷ entries) = (
  has-others (distinct entries) entry,
  apart_filter (other_than entry) (distinct entries) (distinct_apart entries),
)
