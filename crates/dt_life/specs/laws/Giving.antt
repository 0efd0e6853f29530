-- What clauses give to aggregations.
use Rattle.std.proofs.Common.{◌≡◌, ℕ, ℤ, pos, zero, suc, ◌+◌, drop}
use Rattle.std.proofs.Common.{List, [], ◌∷◌, ◌++◌, length, Option, Some, refl, sym, ap, ◌∙◌, subst, arith}
use Rattle.std.proofs.lemmas.List.{append-nil, get_or-drop, append_assoc}
use Rattle.std.proofs.lemmas.Grind.{flat_map-append}
use Rattle.dt_aggstore.specs.History as store
use Rattle.dt_aggstore.specs.IsAt.{IsAt}
use Rattle.dt_aggstore.specs.declared.key.Aggregation.{Aggregation}
use Rattle.dt_aggstore.specs.declared.key.KeyPart.{KeyPart}
use Rattle.dt_aggstore.specs.declared.store.AggStore.{AggStore}
use Rattle.dt_ecb.specs.Shapes.{ShapeForm}
use Rattle.dt_expr.specs.declared.text.Value.{Value}
use Rattle.dt_expr.specs.declared.text.Value.TheVariants as val
use Rattle.dt_lang.specs.Program.{StatementForm}
use Rattle.dt_life.specs.Aggregations.{UseForm, contribution_at, key_at, number_at, number_given, split_by, use_by, uses_by}
use Rattle.dt_life.specs.Uses.{given_then}

-- how many values uses take
abbrev pub span : List UseForm → ℕ
span [] = 0
span (one ∷ uses) = (one.1 + 1) + span uses

pub span_more : (uses : List UseForm) (one : UseForm) → span (uses ++ one ∷ []) ≡ span uses + (one.1 + 1)
span_more [] one = omega arith
span_more (u ∷ uses) one = omega (arith, span_more uses one)

pub uses_more : (shapes : List ShapeForm) (xs : List StatementForm) (x : StatementForm)
    → uses_by shapes (xs ++ x ∷ []) ≡ uses_by shapes xs ++ use_by shapes x
uses_more shapes xs x =
    flat_map-append (use_by shapes) xs (x ∷ []) ∙ ap (λ us. uses_by shapes xs ++ us) (append-nil (use_by shapes x))

drop_none : (m : ℕ) (xs : List Value) → length xs ≡ 0 → drop m xs ≡ xs
drop_none zero xs e = refl
drop_none (suc m) [] e = refl
drop_none (suc m) (x ∷ xs) e = absurd (omega arith)

drop_sum : (m n : ℕ) (xs : List Value) → drop m (drop n xs) ≡ drop (n + m) xs
drop_sum m zero xs = ap (λ k. drop k xs) (omega arith)
drop_sum m (suc n) [] = drop_none m [] refl ∙ sym (drop_none (suc n + m) [] refl)
drop_sum m (suc n) (x ∷ xs) =
    let same : suc (n + m) ≡ suc n + m = omega arith in
    drop_sum m n xs ∙ ap (λ k. drop k (x ∷ xs)) same

-- one use more takes what is left
pub split_more : (uses : List UseForm) (one : UseForm) (values : List Value)
    → split_by (uses ++ one ∷ []) values ≡ split_by uses values ++ contribution_at one (drop (span uses) values)
split_more [] one values = append-nil (contribution_at one values)
split_more (u ∷ uses) one values =
    ap (λ es. contribution_at u values ++ es)
    (split_more uses one (drop (u.1 + 1) values)
    ∙ ap (λ vs. split_by uses (drop (u.1 + 1) values) ++ contribution_at one vs)
    (drop_sum (span uses) (u.1 + 1) values))
    ∙ sym (append_assoc (contribution_at u values) (split_by uses (drop (u.1 + 1) values))
    (contribution_at one (drop (span (u ∷ uses)) values)))

-- the same past, written in another way
pub same_at : (past past' : store.Past) (st : AggStore) → past ≡ past' → IsAt past st → IsAt past' st
same_at past past' st e h = subst (λ x. IsAt x st) e h

pub given_none : (past : store.Past) (st : AggStore) → IsAt past st → IsAt (given_then past []) st
given_none past st h =
    same_at past (given_then past []) st
    (ap (λ es. record { size = past.size; events = es }) (sym (append-nil past.events))) h

pub given_both : (past : store.Past) (xs ys : List store.Event)
    → given_then (given_then past xs) ys ≡ given_then past (xs ++ ys)
given_both past xs ys = ap (λ es. record { size = past.size; events = es }) (append_assoc past.events xs ys)

-- what one use gives
pub gave_one : (past : store.Past) (a : Aggregation) (o : Option Aggregation) (keys place : ℕ) (values : List Value)
    (parts : List KeyPart) (z : ℤ) (st : AggStore) → o ≡ Some a → parts ≡ key_at keys (drop place values)
    → z ≡ number_at values (place + keys) → IsAt (store.after past (store.given a parts z)) st
    → IsAt (given_then past (contribution_at (o, keys) (drop place values))) st
gave_one past a o keys place values parts z st is own number h =
    same_at _ _ st
    (ap (λ ks. given_then past (store.given a ks z ∷ [])) own
    ∙ ap (λ n. given_then past (store.given a (key_at keys (drop place values)) n ∷ []))
    (number ∙ ap number_given (sym (get_or-drop place values keys (val.Number (pos 0)))))
    ∙ ap (λ x. given_then past (contribution_at (x, keys) (drop place values))) (sym is))
    h
