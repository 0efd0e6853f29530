-- What is to be shown of `in_head`.
use Rattle.std.proofs.Common.{List, ℕ, length, eqb, sym, ap, ◌∙◌}
use Rattle.std.proofs.lemmas.Bool.{false≢true}
use Rattle.dt_lang.proofs.Pieces.{described}
use Rattle.dt_lang.proofs.piece.in_head.Goals as goal

pub returns-then-not-is_empty : goal.returns-then-not-is_empty
returns-then-not-is_empty c =
    described c.args.text.now c.run-run.result.now c.parse.result c.run-run.ensures
    (λ e. false≢true (sym c.if-not-is_empty.true ∙ c.is_empty.ensures ∙ ap (λ (s : List ℕ). eqb (length s) 0) e))
    c.parse.ensures.found c.parse.ensures.fault
