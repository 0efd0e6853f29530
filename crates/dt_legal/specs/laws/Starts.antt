-- Rows that begin with others, and a note's own items in them.
use Rattle.std.proofs.Common.{◌≡◌, ◌≢◌, ◌==◌, ℕ, Bool, cond, List, [], ◌∷◌, ◌++◌, sym, refl, ap, ◌∙◌, eq-eqb, ne_eqb}
use Rattle.std.proofs.lemmas.List.Elements.{filter-append}
use Rattle.dt_trail.specs.Items.{StartsWith, TrailItem, own, whose}

pub starts_more : (row : List TrailItem) (item : TrailItem) → StartsWith (row ++ item ∷ []) row
starts_more row item = (item ∷ [], refl)

pub own_both : (note : ℕ) (xs ys : List TrailItem) → own note (xs ++ ys) ≡ own note xs ++ own note ys
own_both note xs ys = filter-append (λ x. whose x == note) xs ys

pub own_here : (note : ℕ) (item : TrailItem) (items : List TrailItem) → whose item ≡ note → own note (item ∷ items) ≡ item ∷ own note items
own_here note item items mine = ap (λ (b : Bool). cond b (item ∷ own note items) (own note items)) (eq-eqb (whose item) note mine)

pub own_elsewhere : (note : ℕ) (item : TrailItem) (items : List TrailItem) → whose item ≢ note → own note (item ∷ items) ≡ own note items
own_elsewhere note item items other = ap (λ (b : Bool). cond b (item ∷ own note items) (own note items)) (ne_eqb (whose item) note other)

empty_rest : {A : Type 0} (xs rest : List A) → xs ++ rest ≡ xs → rest ≡ []
empty_rest [] rest e = e
empty_rest (x ∷ xs) rest e = empty_rest xs rest (cc e)

-- where a list goes on without a further item of a note's, what follows has none
pub rest_has_none : (note : ℕ) (row known : List TrailItem) (s : StartsWith row known) → own note row ≡ own note known → own note s.0 ≡ []
rest_has_none note row known s same =
    empty_rest (own note known) (own note s.0) (sym (own_both note known s.0) ∙ ap (own note) (sym s.1) ∙ same)
