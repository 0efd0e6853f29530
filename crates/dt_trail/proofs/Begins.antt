-- Lists of items, beginnings of them, and the words that show them.
use Rattle.std.proofs.Common.{◌≡◌, ◌≢◌, ◌⊎◌, ℕ, zero, suc, ◌<◌, ◌≤◌, List, [], ◌∷◌, ◌++◌, length, Bool, true, false, cond, eqb, ltb, subst, refl, sym, ap, ◌∙◌, inl, inr, ⊎_elim, arith, length-append, eq-eqb, ne_eqb, append-nil}
use Rattle.std.proofs.lemmas.List.{append_cancel_left}
use Rattle.std.proofs.lemmas.List.Elements.{filter-append}
use Rattle.std.proofs.lemmas.Bool.{ltb-true}
use Rattle.std.proofs.lemmas.Bool.Decides.{nat_tests}
use mathlib.Core.Option.{some, some-ne-none, some-injective}
use lib.ListN.{get_elem?}
use Rattle.dt_trail.specs.Items.{TrailItem, line, long_line, fired, whose, code, IsReal, AllReal, own, code_at, StartsWith, longer, IsWordAt}
use Rattle.dt_trail.specs.laws.Starts.{starts_self, starts_trans}

pub starts_length : (row xs : List TrailItem) → StartsWith row xs → length xs ≤ length row
starts_length row xs a = omega (arith, ap length a.1 ∙ length-append xs a.0)

-- of two beginnings of one list the shorter begins the longer
pub starts_shorter : (row xs ys : List TrailItem) → StartsWith row xs → StartsWith row ys → length xs ≤ length ys → StartsWith ys xs
starts_shorter row [] ys a b le = (ys, refl)
starts_shorter row (x ∷ xs) [] a b le = absurd (omega arith)
starts_shorter [] (x ∷ xs) (y ∷ ys) a b le = absurd (cc (a.1))
starts_shorter (z ∷ row) (x ∷ xs) (y ∷ ys) a b le =
    let heads : y ≡ x = cc (a.1, b.1) in
    let r = starts_shorter row xs ys (a.0, cc (a.1)) (b.0, cc (b.1)) (omega arith) in
    (r.0, cc (heads, r.1))

pub starts_whole : (row xs : List TrailItem) → StartsWith row xs → length row ≤ length xs → row ≡ xs
starts_whole [] [] a le = refl
starts_whole (z ∷ row) [] a le = absurd (omega arith)
starts_whole [] (x ∷ xs) a le = absurd (cc (a.1))
starts_whole (z ∷ row) (x ∷ xs) a le =
    let heads : z ≡ x = cc (a.1) in
    let r = starts_whole row xs (a.0, cc (a.1)) (omega arith) in cc (heads, r)

-- the longer of two beginnings of one list is one, and begins with both
pub starts_longer : (row xs ys : List TrailItem) → StartsWith row xs → StartsWith row ys
    → StartsWith row (longer xs ys) × StartsWith (longer xs ys) xs × StartsWith (longer xs ys) ys
starts_longer row xs ys a b = by_case (ltb (length xs) (length ys)) refl
  where
    P : Bool → Type 0
    P c = StartsWith row (cond c ys xs) × StartsWith (cond c ys xs) xs × StartsWith (cond c ys xs) ys

    by_case : (c : Bool) → ltb (length xs) (length ys) ≡ c → P (ltb (length xs) (length ys))
    by_case true e = let lt : length xs < length ys = ltb-true (length xs) (length ys) e in
        subst P (sym e) (b, starts_shorter row xs ys a b (omega arith), starts_self ys)
    by_case false e = let ge : length ys ≤ length xs = grind (arith, nat_tests, e) in
        subst P (sym e) (a, starts_self xs, starts_shorter row ys xs b a ge)

nothing_more : (xs ys : List TrailItem) → xs ++ ys ≡ xs → ys ≡ []
nothing_more xs ys e = append_cancel_left xs ys [] (e ∙ sym (append-nil xs))

pub own-append : (n : ℕ) (xs ys : List TrailItem) → own n (xs ++ ys) ≡ own n xs ++ own n ys
own-append n xs ys = filter-append (λ x. eqb (whose x) n) xs ys

-- where a beginning has all that is one note's own, nothing behind it is
pub own_rest : (n : ℕ) (row xs : List TrailItem) (a : StartsWith row xs) → own n row ≡ own n xs → own n a.0 ≡ []
own_rest n row xs a e = nothing_more (own n xs) (own n a.0) (sym (own-append n xs a.0) ∙ ap (own n) (sym a.1) ∙ e)

pub own_longer : (n : ℕ) (row xs ys : List TrailItem) → StartsWith row ys → StartsWith ys xs → own n row ≡ own n xs → own n row ≡ own n ys
unfolding starts_trans
own_longer n row xs ys a b e =
    let c = starts_trans row ys xs a b in
    let none : own n (b.0 ++ a.0) ≡ [] = own_rest n row xs c e in
    let first : own n b.0 ≡ [] = front_empty (own n b.0) (own n a.0) (sym (own-append n b.0 a.0) ∙ none) in
    e ∙ sym (append-nil (own n xs)) ∙ ap (λ l. own n xs ++ l) (sym first) ∙ sym (own-append n xs b.0) ∙ ap (own n) (sym b.1)
  where
    front_empty : (p q : List TrailItem) → p ++ q ≡ [] → p ≡ []
    front_empty [] q e = refl
    front_empty (x ∷ p) q e = absurd (cc)

pub own_one : (n : ℕ) (x : TrailItem) → whose x ≡ n → own n (x ∷ []) ≡ x ∷ []
own_one n x e = ap (λ (b : Bool). cond b (x ∷ []) []) (eq-eqb (whose x) n e)

pub own_none : (n : ℕ) (x : TrailItem) → whose x ≢ n → own n (x ∷ []) ≡ []
own_none n x e = ap (λ (b : Bool). cond b (x ∷ []) []) (ne_eqb (whose x) n e)

pub not_own : (n : ℕ) (x : TrailItem) (xs : List TrailItem) → own n (x ∷ xs) ≡ [] → whose x ≢ n
not_own n x xs e same =
    let head : own n (x ∷ xs) ≡ x ∷ own n xs = ap (λ (b : Bool). cond b (x ∷ own n xs) (own n xs)) (eq-eqb (whose x) n same) in cc (e, head)

pub own_push : (n : ℕ) (row xs : List TrailItem) (x : TrailItem) → own n row ≡ own n xs → own n (row ++ x ∷ []) ≡ own n (xs ++ x ∷ [])
own_push n row xs x e = own-append n row (x ∷ []) ∙ ap (λ l. l ++ own n (x ∷ [])) e ∙ sym (own-append n xs (x ∷ []))

pub own_pushed_else : (n : ℕ) (row : List TrailItem) (x : TrailItem) → whose x ≢ n → own n (row ++ x ∷ []) ≡ own n row
own_pushed_else n row x e = own-append n row (x ∷ []) ∙ ap (λ l. own n row ++ l) (own_none n x e) ∙ append-nil (own n row)

-- the word of an item is none of an empty cell
pub code_some : (x : TrailItem) → 0 < code x
code_some (line bytes) = omega arith
code_some long_line = omega arith
code_some (fired cpu place) = omega arith

pub code_behind : (xs ys : List TrailItem) → code_at (xs ++ ys) (length xs) ≡ code_at ys 0
code_behind [] ys = refl
code_behind (x ∷ xs) ys = code_behind xs ys

-- a beginning has the item whose word the row has there
pub stands_begun : (xs ys : List TrailItem) (k : ℕ) → k < length xs → AllReal (xs ++ ys) → IsWordAt xs k (code_at (xs ++ ys) k)
stands_begun [] ys k h a = absurd (omega arith)
stands_begun (x ∷ xs) ys zero h a = (x, refl, a.0, refl)
stands_begun (x ∷ xs) ys (suc k) h a = stands_begun xs ys k (omega arith) a.1

pub code_end : (row : List TrailItem) → code_at row (length row) ≡ 0
code_end [] = refl
code_end (x ∷ xs) = code_end xs

pub code_push : (row : List TrailItem) (x : TrailItem) (j : ℕ) → j ≢ length row → code_at (row ++ x ∷ []) j ≡ code_at row j
code_push [] x zero n = absurd (n refl)
code_push [] x (suc j) n = refl
code_push (y ∷ row) x zero n = refl
code_push (y ∷ row) x (suc j) n = code_push row x j (λ e. n (omega arith))

-- the new seat is the last
pub at_snoc_at : {A : Type 0} (l : List A) (a b : A) (j : ℕ) → get_elem? (l ++ a ∷ []) j ≡ some b → (get_elem? l j ≡ some b) ⊎ ((j ≡ length l) × (a ≡ b))
at_snoc_at [] a b zero e = inr (refl, some-injective a b e)
at_snoc_at [] a b (suc j) e = absurd (some-ne-none b (sym e))
at_snoc_at (x ∷ xs) a b zero e = inl e
at_snoc_at (x ∷ xs) a b (suc j) e = ⊎_elim (λ t. inl t) (λ (t : (j ≡ length xs) × (a ≡ b)). inr (omega arith, t.1)) (at_snoc_at xs a b j e)

pub All-push : (xs : List TrailItem) (x : TrailItem) → AllReal xs → IsReal x → AllReal (xs ++ x ∷ [])
All-push [] x a r = (r, tt)
All-push (y ∷ xs) x a r = (a.0, All-push xs x a.1 r)

pub All-at : (xs : List TrailItem) (x : TrailItem) (ys : List TrailItem) → AllReal (xs ++ x ∷ ys) → IsReal x
All-at [] x ys a = a.0
All-at (y ∷ xs) x ys a = All-at xs x ys a.1
