-- The longest run of bytes that pass a test.
use Rattle.std.proofs.Common.{◌≡◌, ◌≢◌, ℕ, zero, suc, ◌+◌, ◌≤◌, ◌⊎◌, inl, inr, Bool, true, false, cond, List, [], ◌∷◌}
use Rattle.std.proofs.Common.{◌++◌, length, drop, get_or, refl, sym, ap, ◌∙◌, subst, arith}
use Rattle.std.proofs.lemmas.List.{take-append-drop}
use Rattle.std.proofs.lemmas.List.Folds.{length-prefix_len}
use Rattle.std.proofs.lemmas.List.Sums.{prefix_len-le-length, take_while-cons}
use Rattle.std.specs.List.{take_while, prefix_len, AllPass}

pub truth_of : (b : Bool) → (b ≡ true) ⊎ (b ≡ false)
truth_of true = inl refl
truth_of false = inr refl

pub first_passes : (p : ℕ → Bool) (x : ℕ) (xs : List ℕ) → AllPass p (x ∷ xs) → p x ≡ true
first_passes p x xs h = h 0 x (omega arith)

pub rest_pass : (p : ℕ → Bool) (x : ℕ) (xs : List ℕ) → AllPass p (x ∷ xs) → AllPass p xs
rest_pass p x xs h k d below = h (suc k) d (omega arith)

pub all_pass : (p : ℕ → Bool) (x : ℕ) (xs : List ℕ) → p x ≡ true → AllPass p xs → AllPass p (x ∷ xs)
all_pass p x xs first h zero d below = first
all_pass p x xs first h (suc k) d below = h k d (omega arith)

pub none_pass : (p : ℕ → Bool) → AllPass p []
none_pass p k d below = absurd (omega arith)

-- the bytes that pass at the front of a text are no more than its run
at_least : (p : ℕ → Bool) (front behind : List ℕ) → AllPass p front → length front ≤ prefix_len p (front ++ behind)
at_least p [] behind h = omega arith
at_least p (x ∷ xs) behind h =
    let e : prefix_len p (x ∷ (xs ++ behind)) ≡ 1 + prefix_len p (xs ++ behind) =
    ap (λ b. cond b (1 + prefix_len p (xs ++ behind)) 0) (first_passes p x xs h) in
    let f = at_least p xs behind (rest_pass p x xs h) in omega arith

pub run_at_least : (p : ℕ → Bool) (text front behind : List ℕ) → text ≡ front ++ behind → AllPass p front
    → length front ≤ length (take_while p text)
run_at_least p text front behind e h =
    let f = subst (λ (s : List ℕ). length front ≤ prefix_len p s) (sym e) (at_least p front behind h) in
    let g = length-prefix_len p text in omega arith

-- and where a byte that doesn't pass stands after them, they are the run
exactly : (p : ℕ → Bool) (front : List ℕ) (stop : ℕ) (behind : List ℕ) → AllPass p front → p stop ≡ false
    → prefix_len p (front ++ (stop ∷ behind)) ≡ length front
exactly p [] stop behind h s = ap (λ b. cond b (1 + prefix_len p behind) 0) s
exactly p (x ∷ xs) stop behind h s =
    let e : prefix_len p (x ∷ (xs ++ (stop ∷ behind))) ≡ 1 + prefix_len p (xs ++ (stop ∷ behind)) =
    ap (λ b. cond b (1 + prefix_len p (xs ++ (stop ∷ behind))) 0) (first_passes p x xs h) in
    let f = exactly p xs stop behind (rest_pass p x xs h) s in omega arith

pub run_exactly : (p : ℕ → Bool) (text front : List ℕ) (stop : ℕ) (behind : List ℕ) → text ≡ front ++ (stop ∷ behind)
    → AllPass p front → p stop ≡ false → length (take_while p text) ≡ length front
run_exactly p text front stop behind e h s =
    length-prefix_len p text ∙ ap (λ (t : List ℕ). prefix_len p t) e ∙ exactly p front stop behind h s

run_more : (p : ℕ → Bool) (x : ℕ) (xs : List ℕ) → p x ≡ true → take_while p (x ∷ xs) ≡ x ∷ take_while p xs
run_more p x xs h = take_while-cons p x xs ∙ ap (λ b. cond b (x ∷ take_while p xs) []) h

pub run_ends : (p : ℕ → Bool) (x : ℕ) (xs : List ℕ) → p x ≡ false → take_while p (x ∷ xs) ≡ []
run_ends p x xs h = take_while-cons p x xs ∙ ap (λ b. cond b (x ∷ take_while p xs) []) h

pub run_passes : (p : ℕ → Bool) (text : List ℕ) → AllPass p (take_while p text)
run_passes p [] = none_pass p
run_passes p (x ∷ xs) = elim (truth_of (p x)) [
  | inl h ↦ subst (AllPass p) (sym (run_more p x xs h)) (all_pass p x (take_while p xs) h (run_passes p xs))
  | inr h ↦ subst (AllPass p) (sym (run_ends p x xs h)) (none_pass p)
]

-- what stands after a run
abbrev pub behind_run : (ℕ → Bool) → List ℕ → List ℕ
behind_run p text = drop (prefix_len p text) text

pub run_cut : (p : ℕ → Bool) (text : List ℕ) → text ≡ take_while p text ++ behind_run p text
run_cut p text = sym (take-append-drop (prefix_len p text) text)

pub run_fits : (p : ℕ → Bool) (text : List ℕ) → length (take_while p text) ≤ length text
run_fits p text = let e = length-prefix_len p text in let f = prefix_len-le-length p text in omega arith

pub run_begins : (p : ℕ → Bool) (x : ℕ) (xs : List ℕ) → p x ≡ true
    → (take_while p (x ∷ xs) ≢ []) × (get_or (take_while p (x ∷ xs)) 0 0 ≡ x)
run_begins p x xs h =
    let e = run_more p x xs h in
    (λ n. let bad : x ∷ take_while p xs ≡ [] = sym e ∙ n in cc, ap (λ (s : List ℕ). get_or s 0 0) e)
