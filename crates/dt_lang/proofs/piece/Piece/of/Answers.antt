-- What is to be shown of `of`.
use Rattle.std.proofs.Common.{sym, ◌∙◌}
use Rattle.dt_lang.proofs.Pieces.{finds, commented, head_mode, body_mode}
use Rattle.dt_lang.specs.laws.Standing.{stands_found}
use Rattle.dt_lang.proofs.piece.Piece.of.Goals as goal

pub returns-then-opens_comment : goal.returns-then-opens_comment
returns-then-opens_comment c =
    stands_found c.args.mode c.args.text.now _
    (commented c.args.mode c.args.text.now (sym c.is_empty.ensures ∙ c.if-is_empty.false)
    (sym c.opens_comment.ensures ∙ c.if-opens_comment.true))

pub returns-in-Head : goal.returns-in-Head
returns-in-Head c =
    stands_found c.args.mode c.args.text.now c.in_head.result
    (finds c.args.mode c.args.text.now c.in_head.result (sym c.is_empty.ensures ∙ c.if-is_empty.false)
    (sym c.opens_comment.ensures ∙ c.if-opens_comment.false)
    (head_mode c.args.mode c.args.text.now c.in_head.result c.in-Head.is c.in_head.ensures))

pub returns-in-Predicate : goal.returns-in-Predicate
returns-in-Predicate c =
    stands_found c.args.mode c.args.text.now c.in_body.result
    (finds c.args.mode c.args.text.now c.in_body.result (sym c.is_empty.ensures ∙ c.if-is_empty.false)
    (sym c.opens_comment.ensures ∙ c.if-opens_comment.false)
    (body_mode c.args.mode c.args.text.now c.in_body.result c.in-Predicate.is c.in_body.ensures))
