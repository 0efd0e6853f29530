-- A share's bag joins the last row, which has its key, or that row is made.
use Rattle.std.proofs.Common.{◌≡◌, List, [], ◌∷◌, ◌++◌, ◌-◌, length, get_or, refl, sym, ap, ◌∙◌, subst, arith}
use Rattle.std.specs.Prelude.{IfOk, Result, Ok, Err}
use Rattle.std.specs.List.{AllZip}
use Rattle.std.proofs.Math.Seq.{get_or-append_seam}
use Rattle.std.proofs.lemmas.List.{length-append}
use Rattle.dt_aggfn.specs.Cells.{cell_of}
use Rattle.dt_aggstore.specs.Keys.{same_key}
use Rattle.dt_aggstore.specs.Joining.{AreJoined, AreUnderWay, IsAnswerRow, joined_at, joined_told}
use Rattle.dt_aggstore.specs.Shares.{ShareForm}
use Rattle.dt_aggstore.specs.declared.row.Row.{Row}
use denote.Ref.{Bor}
use Rattle.dt_aggstore.proofs.Same.{key_decides}
use Rattle.dt_aggstore.proofs.Joins.{last_bag, last_cell, merged_last, pushed_at}
use Rattle.dt_aggstore.proofs.Rows.{zip_push}
use Rattle.dt_aggstore.proofs.joining.join.Goals as goal

last_one : (rows : List ShareForm) (row d : ShareForm) → get_or (rows ++ row ∷ []) (length (rows ++ row ∷ []) - 1) d ≡ row
last_one rows row d =
    let place : length (rows ++ row ∷ []) - 1 ≡ length rows = omega (arith, length-append rows (row ∷ [])) in
    ap (λ n. get_or (rows ++ row ∷ []) n d) place ∙ get_or-append_seam rows row [] d

-- two facts of a success
both : {T E : Type 0} (r : Result T E) (P Q R : T → Type 0) → ((x : T) → P x → Q x → R x) → IfOk r P → IfOk r Q → IfOk r R
both (Ok x) P Q R f p q = f x p q
both (Err e) P Q R f p q = tt

pub returns-then-are_same-clause-joins : goal.returns-then-are_same-clause-joins
returns-then-are_same-clause-joins g c = λ bags bag so_far none few own cell.
    let told = g.S.KeyShare.told in
    let function = c.args.function in
    let last = joined_told told c.args.last in
    let key = (told c.args.share.now).key in
    let before = so_far.done in
    let j : AreJoined function bags (before ++ last ∷ []) = so_far.joined in
    let compared : c.are_same.result ≡ same_key last.key key =
    c.are_same.ensures ∙ (λ i. same_key (c.parts.ensures.key i) (c.parts-2.ensures.key i)) in
    let same : last.key ≡ key = (key_decides last.key key).0 (sym compared ∙ c.if-are_same.true) in
    both c.merged.result (λ new. new.share ≡ c.args.last.share)
    (λ new. (joined_told told new).cell ≡ cell_of function (bags key ++ bag))
    (λ new. AreUnderWay function (joined_at key bag bags) (joined_told told new) c.args.rows.now.items)
    (λ new share cells. record {
      done = before;
      joined = merged_last function bags bag before last key j same (joined_told told new)
          (ap (λ (s : Bor g.row.S.Denot). (told s.now).key) share) cells own;
      made = so_far.made;
    })
    c.merged.ensures.share
    (c.merged.ensures.cell (bags key) bag (last_bag function bags bag before last key j same few) own
    (last_cell function bags bag before last key j same) (c.cell.ensures ∙ cell))

pub returns-clause-joins : goal.returns-clause-joins
returns-clause-joins g c = λ bags bag so_far none few own cell.
    let told = g.S.KeyShare.told in
    let function = c.args.function in
    let last = joined_told told c.args.last in
    let key = (told c.args.share.now).key in
    let before = so_far.done in
    let compared : c.are_same.result ≡ same_key last.key key =
    c.are_same.ensures ∙ (λ i. same_key (c.parts.ensures.key i) (c.parts-2.ensures.key i)) in
    record {
      done = before ++ last ∷ [];
      joined = pushed_at function bags bag (before ++ last ∷ []) key (told c.args.share.now)
          so_far.joined none
          (λ d some. ap (λ (r : ShareForm). same_key r.key key) (last_one before last d)
          ∙ sym compared ∙ c.if-are_same.false)
          refl cell own;
      made = subst (AllZip (IsAnswerRow function) (before ++ last ∷ [])) (sym {A = List Row} c.in_ok-push.ensures.items)
          (zip_push (IsAnswerRow function) before c.args.rows.now.items last c.in_ok-row.field-0 so_far.made
          c.in_ok-row.ensures);
    }
