-- What is to be shown of `finish`.
use Rattle.std.proofs.Common.{◌≡◌, ◌+◌, ◌-◌, ℕ, List, [], ◌∷◌, ◌++◌, length, true, false, ap, sym, ◌∙◌, arith}
use Rattle.std.proofs.lemmas.List.{length-append}
use Rattle.std.proofs.lemmas.Bool.{false_from_ne_true}
use Rattle.dt_legal.specs.Rows.{life_of_row}
use Rattle.dt_legal.specs.laws.Room.{line_has_room}
use Rattle.dt_life.specs.Life.{is_over}
use Rattle.dt_cred.specs.declared.account.Account.{Account}
use Rattle.dt_seat.proofs.Begins.{lines_of_met, lines_more}
use Rattle.dt_seat.proofs.Trails.{trailed_line}
use Rattle.dt_seat.specs.Sessions.{line_kept, lines_from}
use Rattle.dt_seat.specs.declared.line_kept.LineKept.{LineKept}
use Rattle.dt_trail.specs.Known.{Noted}
use Rattle.dt_seat.proofs.trailed.finish.Goals as goal

pub append-requires-clause-room : goal.append-requires-clause-room
append-requires-clause-room g c =
    let over : is_over (life_of_row c.args.owner.now.row.account g.J.Traced.contents c.args.owner.now.knows) ≡ false =
    false_from_ne_true _ (λ is.
    let bad : false ≡ true = sym c.if-is_over.false ∙ (c.is_over_quota-is_over.ensures _ _ _ _ c.requires.prepared.drafted).1 is in cc) in
    line_has_room c.args.owner.now.row.account g.J.Traced.contents c.args.owner.now.knows c.args.owner.now.cells c.requires.kept.legal
    c.requires.kept.suffice over

pub returns-then-is_over-clause-lines : goal.returns-then-is_over-clause-lines
returns-then-is_over-clause-lines g c =
    let known = ap (λ (n : Noted Account). lines_from 0 n.knows) c.meet.ensures.note in
    c.requires.lines ∙ sym (lines_of_met c.args.note.now c.args.owner.now.knows c.requires.note.1 c.meet.ensures.met) ∙ sym known

pub returns-else-is_over-clause-kept : goal.returns-else-is_over-clause-kept
returns-else-is_over-clause-kept g c =
    let contents = g.J.Traced.contents in
    let stands = rw c.requires.machine at c.apply.ensures in
    let new = stands _ _ _ c.requires.kept.stands c.requires.prepared.drafted in
    let over : is_over (life_of_row c.args.owner.now.row.account contents c.args.owner.now.knows) ≡ false =
    false_from_ne_true _ (λ is.
    let bad : false ≡ true = sym c.if-is_over.false ∙ (c.is_over_quota-is_over.ensures _ _ _ _ c.requires.prepared.drafted).1 is in cc) in
    rw c.append.ensures.owner
    (trailed_line contents c.args.owner.now.row.account c.args.owner.now c.args.consumer.now c.requires.kept _ c.args.prepared.item new over
    c.requires.prepared.mine c.requires.room)

pub returns-else-is_over-clause-lines : goal.returns-else-is_over-clause-lines
returns-else-is_over-clause-lines g c =
    let item = c.args.prepared.item in
    let row = c.args.owner.now.knows in
    let knows : c.append.new.note.knows ≡ row ++ item ∷ [] = ap (λ (n : Noted Account). n.knows) c.append.ensures.note in
    let long : length (row ++ item ∷ []) ≡ length row + 1 = length-append row (item ∷ []) in
    let count : c.count-place.result ≡ length (row ++ item ∷ []) = c.count-place.ensures ∙ ap length knows in
    let place : c.count-place.result - 1 ≡ length row = omega (arith, long, count) in
    c.push_reserved.ensures.items
    ∙ ap (λ (l : List LineKept). l ++ line_kept (c.count-place.result - 1) item ∷ [])
    (c.requires.lines ∙ sym (lines_of_met c.args.note.now row c.requires.note.1 c.append.ensures.met))
    ∙ ap (λ (p : ℕ). lines_from 0 row ++ line_kept p item ∷ []) place
    ∙ sym (lines_more row item c.requires.prepared.mine)
    ∙ ap (lines_from 0) (sym knows)
