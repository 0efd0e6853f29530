-- Shares are none, or a first one and later ones.
use Rattle.std.proofs.Common.{◌≡◌, ◌<◌, ◌≤◌, ◌-◌, List, [], ◌∷◌, length, get_or, take, drop, map, suc, refl, sym, subst, arith}
use Rattle.std.specs.List.{AllZip}
use Rattle.std.specs.List.Sorted.{IsSortedByKey}
use Rattle.std.proofs.lemmas.List.{take_all}
use Rattle.dt_aggstore.specs.Keys.{key_cmp}
use Rattle.dt_aggfn.specs.Cells.{cell_words}
use Rattle.std.specs.Prelude.{All}
use Rattle.dt_aggstore.specs.Joining.{cell_shared, AreShares, IsAnswerRow, shared_key}
use Rattle.dt_aggstore.specs.declared.row.Row.{Row}
use Rattle.dt_aggstore.proofs.Joins.{none_joined}
use Rattle.dt_aggstore.proofs.Sharing.{nothing_made}
use Rattle.dt_aggstore.proofs.joining.rows_of.Goals as goal

no_more : {A : Type 0} (xs : List A) → length xs < 1 → xs ≡ []
no_more [] h = refl
no_more (x ∷ xs) h = absurd (omega arith)

first_and_later : {A : Type 0} (xs : List A) (x : A) → 1 ≤ length xs → x ≡ get_or xs 0 x
    → xs ≡ x ∷ take (length xs - 1) (drop 1 xs)
first_and_later [] x h e = absurd (omega arith)
first_and_later (y ∷ ys) x h e =
    let later : take (length (y ∷ ys) - 1) ys ≡ ys = take_all (length (y ∷ ys) - 1) ys (omega arith) in
    sym (λ i. e i ∷ later i)

pub rows_from-requires-clause-words : goal.rows_from-requires-clause-words
rows_from-requires-clause-words g c =
    let all = subst (λ xs. All (λ share. length (cell_shared share) ≡ cell_words c.args.function) (map g.S.KeyShare.told xs))
    (first_and_later c.args.shares.now c.first-item.result c.in-len1-up.len_at_least c.first-item.is) c.requires.words in
    λ k d small. all (suc k) d (omega (arith, small))

pub rows_from-requires-clause-sorted : goal.rows_from-requires-clause-sorted
rows_from-requires-clause-sorted g c =
    subst (λ xs. IsSortedByKey shared_key key_cmp (map g.S.KeyShare.told xs))
    (first_and_later c.args.shares.now c.first-item.result c.in-len1-up.len_at_least c.first-item.is) c.requires.sorted

pub returns-in-empty : goal.returns-in-empty
returns-in-empty g c = λ bags a few.
    let function = c.args.function in
    let none = no_more c.args.shares.now c.in-empty.len_below in
    record {
      done = [];
      joined = none_joined function bags [] refl
          (λ key. nothing_made function (bags key) (subst (λ xs. AreShares function bags (map g.S.KeyShare.told xs)) none a key));
      made = subst (AllZip (IsAnswerRow function) []) (sym {A = List Row} c.in_ok-rows.ensures.items) tt;
    }

pub returns-in-len1-up : goal.returns-in-len1-up
returns-in-len1-up g c = λ bags a few.
    c.rows_from.ensures bags
    (subst (λ xs. AreShares c.args.function bags (map g.S.KeyShare.told xs))
    (first_and_later c.args.shares.now c.first-item.result c.in-len1-up.len_at_least c.first-item.is) a) few
