-- The first row of a list that has not its shape, and what is found of a list.
use Rattle.std.proofs.Common.{◌≡◌, ◌<◌, ◌≤◌, ℕ, zero, suc, Bool, true, false, List, [], ◌∷◌, Option, Some, None, MatchOption}
use Rattle.std.proofs.Common.{codes, length, map, slice_get, get_or, option_map, is_some, inl, inr, refl, sym, ap, ◌∙◌, subst, arith}
use Rattle.std.proofs.lemmas.Bool.{and_parts, and_from, false≢true}
use Rattle.std.proofs.lemmas.List.{length-map}
use Rattle.std.proofs.lemmas.Option.{slice_get-map, slice_get_read}
use Rattle.std.specs.List.{list_all}
use Rattle.std.specs.Option.{option_map_or, option_and_then}
use Rattle.serde_json.specs.Data.{Data, null, boolean, number, string, array, object}
use Rattle.serde_json.specs.Find.{get, as_object}
use Rattle.serde_json.specs.View.{view}
use Rattle.serde_json.specs.declared.value.Value.{Value}
use Rattle.dt_machine.specs.declared.found.Found.{Found}
use Rattle.dt_machine.specs.declared.found.FileKey.TheVariants as key
use Rattle.dt_machine.specs.declared.found.Part.TheVariants.{File}
use Rattle.dt_machine.specs.Found.{Else, of, IsFirstFound, IsFoundOfList, IsMisshapenScript, IsMisshapenFile}
use Rattle.dt_machine.specs.Given.{items, items_at, is_integer, is_text, is_list_of, has_field}
use Rattle.dt_machine.specs.Shape.{is_account, is_process, is_firing, is_machine}
use Rattle.dt_machine.proofs.Searching.{RightUpTo, right_all}

pub not_true : (b : Bool) → (b ≡ true → ⊥) → b ≡ false
not_true true h = absurd (h refl)
not_true false h = refl

pub value_at : (values : List Value) (i : ℕ) (v : Value) → i < length values → v ≡ get_or values i v
    → slice_get (map view values) i ≡ Some (view v)
value_at values i v inside is =
    slice_get-map view values i ∙ ap (option_map view) (slice_get_read values (length values) i v refl inside is)

all_shaped : (p : Data → Bool) (rows : List Data) → ((k : ℕ) (row : Data) → slice_get rows k ≡ Some row → p row ≡ true)
    → list_all p rows ≡ true
all_shaped p [] each = refl
all_shaped p (d ∷ ds) each =
    and_from (p d) (list_all p ds) (each 0 d refl) (all_shaped p ds (λ k row there. each (suc k) row there))

pub shaped_all : (p : Data → Bool) (values : List Value) (n : ℕ) → length values ≤ n
    → RightUpTo (λ _ d. p d ≡ true) (map view values) n → list_all p (map view values) ≡ true
shaped_all p values n all right =
    all_shaped p (map view values) (right_all (λ _ d. p d ≡ true) (map view values) n
    (omega (arith, all, length-map values view)) right)

shaped_at : (p : Data → Bool) (rows : List Data) (k : ℕ) (row : Data) → list_all p rows ≡ true
    → slice_get rows k ≡ Some row → p row ≡ true
shaped_at p [] k row all there = absurd (cc)
shaped_at p (d ∷ ds) zero row all there =
    let one : d ≡ row = cc in
    let P : Data → Type 0 = λ e. p e ≡ true in
    subst P one (and_parts (p d) (list_all p ds) all).0
shaped_at p (d ∷ ds) (suc k) row all there = shaped_at p ds k row (and_parts (p d) (list_all p ds) all).1 there

module _ (this : Found) (p : Data → Bool) (M : ℕ → Data → Found → Type 0) where
  pub list_wrong : (l : Option (List Data)) (found : Found) → IsFoundOfList this p M l found
      → option_map_or (list_all p) l false ≡ true → ⊥
  list_wrong None found f h = false≢true h
  list_wrong (Some rows) found f h = false≢true (sym f.wrong ∙ shaped_at p rows f.at f.row h f.there)

  pub field_wrong : (o : Option Data) (found : Found) → IsFoundOfList this p M (option_and_then items o) found
      → option_map_or (is_list_of p) o false ≡ true → ⊥
  field_wrong None found f h = false≢true h
  field_wrong (Some v) found f h = list_wrong (items v) found f h

  pub no_list : (l : Option (List Data)) (found : Found) → None ≡ l → found ≡ this → IsFoundOfList this p M l found
  no_list l found e is = let L : Option (List Data) → Type 0 = λ l. IsFoundOfList this p M l found in subst L e is

  pub some_list : (l : Option (List Data)) (rows : List Data) (found : Found) → Some rows ≡ l
      → IsFirstFound p M rows found → IsFoundOfList this p M l found
  some_list l rows found e f = let L : Option (List Data) → Type 0 = λ l. IsFoundOfList this p M l found in subst L e f

  field_shaped : (o : Option Data) (rows : List Data) → Some rows ≡ option_and_then items o → list_all p rows ≡ true
      → option_map_or (is_list_of p) o false ≡ true
  field_shaped None rows e all = absurd (cc)
  field_shaped (Some v) rows e all = sym (ap (λ found. option_map_or (list_all p) found false) e) ∙ all

  -- the answer of a search through the list under a key
  pub list_answer : (o : Option Found) (key : List ℕ) (d : Data) (rows : List Data) → Some rows ≡ items_at key d
      → MatchOption o (list_all p rows ≡ true) (IsFirstFound p M rows)
      → MatchOption o (has_field key (is_list_of p) d ≡ true) (IsFoundOfList this p M (items_at key d))
  list_answer None key d rows e m = field_shaped (get key d) rows e m
  list_answer (Some f) key d rows e m = some_list (items_at key d) rows f e m

  -- the same of a value
  pub items_answer : (o : Option Found) (d : Data) (rows : List Data) → Some rows ≡ items d
      → MatchOption o (list_all p rows ≡ true) (IsFirstFound p M rows)
      → MatchOption o (is_list_of p d ≡ true)
      (λ found. (is_list_of p d ≡ false) × IsFoundOfList this p M (items d) found)
  items_answer None d rows e m = sym (ap (λ found. option_map_or (list_all p) found false) e) ∙ m
  items_answer (Some f) d rows e m =
      let told = some_list (items d) rows f e m in
      (not_true (is_list_of p d) (list_wrong (items d) f told), told)

  pub no_items : (d : Data) (found : Found) → None ≡ items d → found ≡ this
      → (is_list_of p d ≡ false) × IsFoundOfList this p M (items d) found
  no_items d found e is =
      let told = no_list (items d) found e is in
      (not_true (is_list_of p d) (list_wrong (items d) found told), told)

clash : (Test Here Later : Type 0) → Test → (Later → ⊥) → Else Test Here Later → ⊥
clash Test Here Later holds later (inl f) = f.0 holds
clash Test Here Later holds later (inr f) = later f.1

pub file_wrong : (d : Data) (found : Found) → IsMisshapenFile d found → is_machine d ≡ true → ⊥
file_wrong d found told h =
    let a = and_parts _ _ h in
    let b = and_parts _ _ a.0 in
    let e = and_parts _ _ b.0 in
    let f = and_parts _ _ e.0 in
    clash _ _ _ f.0 (clash _ _ _ f.1 (clash _ _ _ e.1 (clash _ _ _ b.1 (clash _ _ _ a.1 (λ n. n))))) told

pub no_object : (d : Data) → (is_some (as_object d) ≡ true → ⊥) → is_machine d ≡ false
no_object null h = refl
no_object (boolean b) h = refl
no_object (number n) h = refl
no_object (string s) h = refl
no_object (array ds) h = refl
no_object (object ms) h = absurd (h refl)

-- the answer of a search through the file, where it came to the scripts
pub file_answer : (o : Option Found) (d : Data) → has_field (codes "cpus") is_integer d ≡ true
    → has_field (codes "accounts") (is_list_of is_account) d ≡ true
    → has_field (codes "processes") (is_list_of is_process) d ≡ true
    → has_field (codes "probes") (is_list_of is_text) d ≡ true
    → MatchOption o (has_field (codes "scripts") (is_list_of (is_list_of is_firing)) d ≡ true)
    (IsFoundOfList (of File key.Scripts) (is_list_of is_firing) IsMisshapenScript (items_at (codes "scripts") d))
    → MatchOption o (is_machine d ≡ true) (IsMisshapenFile d)
file_answer None d cpus accounts processes probes m =
    and_from _ _ (and_from _ _ (and_from _ _ (and_from _ _ cpus accounts) processes) probes) m
file_answer (Some f) d cpus accounts processes probes m =
    let wrong = field_wrong (of File key.Scripts) (is_list_of is_firing) IsMisshapenScript (get (codes "scripts") d) f m in
    inr (cpus, inr (accounts, inr (processes, inr (probes, inl (wrong, m)))))
