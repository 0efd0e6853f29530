-- A note's own items, where a row has no others than those that are known of the note.
use Rattle.std.proofs.Common.{◌≡◌, ℕ, List, [], ◌∷◌, ◌++◌, refl, sym, ap, ◌∙◌, append-nil, append_assoc}
use Rattle.dt_legal.specs.laws.Starts.{own_both}
use Rattle.dt_trail.specs.Items.{StartsWith, TrailItem, own}

-- A list that begins with itself and with more: there is no more.
none_more : (xs more : List TrailItem) → xs ≡ xs ++ more → [] ≡ more
none_more [] more e = e
none_more (x ∷ xs) more e =
    let e1 : x ∷ xs ≡ x ∷ (xs ++ more) = e in
    none_more xs more (cc e1)

none_first : (xs ys : List TrailItem) → [] ≡ xs ++ ys → xs ≡ []
none_first [] ys e = refl
none_first (x ∷ xs) ys e = let bad : [] ≡ x ∷ (xs ++ ys) = e in absurd (cc bad)

-- what begins a row's own items begins those of a longer row
pub own_starts : (note : ℕ) (row known mine : List TrailItem) → StartsWith row known → StartsWith (own note known) mine
    → StartsWith (own note row) mine
own_starts note row known mine s m = (
  m.0 ++ own note s.0,
  ap (own note) s.1 ∙ own_both note known s.0 ∙ ap (λ (l : List TrailItem). l ++ own note s.0) m.1
      ∙ append_assoc mine m.0 (own note s.0),
)

-- A row's own items lie between these and those of a longer row: where the outer two are the same, so is the one between.
pub own_between : (note : ℕ) (row known mine : List TrailItem) → StartsWith row known → StartsWith (own note known) mine
    → own note row ≡ mine → own note known ≡ mine
unfolding own_starts
own_between note row known mine s m same =
    let longer = own_starts note row known mine s m in
    let none : m.0 ≡ [] = none_first m.0 (own note s.0) (none_more mine longer.0 (sym same ∙ longer.1)) in
    m.1 ∙ ap (λ (l : List TrailItem). mine ++ l) none ∙ append-nil mine
