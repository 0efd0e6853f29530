-- What is to be shown of `take_line`.
use Rattle.std.proofs.Common.{refl, sym, subst, ◌∙◌}
use Rattle.std.proofs.lemmas.Bool.{true≢false}
use Rattle.dt_proto.specs.Splits.{with_newline}
use Rattle.dt_alone.specs.Compared.{IsCompared}
use Rattle.dt_proto.specs.Legal.{life_of_trail}
use Rattle.dt_alone.proofs.Judging.{line_ruled}
use Rattle.dt_alone.proofs.judge.Judge.take_line.Goals as goal

pub returns-then-is_over : goal.returns-then-is_over
returns-then-is_over c = λ account past after quota.
    let contents = c.args.machine.now in
    let over = c.is_over.ensures.over account contents.registry (life_of_trail account contents past) after.runs in
    true≢false (sym c.if-is_over.true ∙ over ∙ quota)

pub returns : goal.returns
returns c = λ account past after.
    let contents = c.args.machine.now in
    let life = life_of_trail account contents past in
    let over = c.is_over.ensures.over account contents.registry life after.runs in
    line_ruled c.one_reply.ensures account contents past c.args.self.now _ c.args.line.now c.args.reply.now
    c.in_ok-due.due.items c.compared.result after refl (sym over ∙ c.if-is_over.false)
    (c.in_ok-due.ensures account life after.runs)
    (subst (λ due. IsCompared (with_newline c.args.reply.now) due c.compared.result) c.deref.ensures.value
    c.compared.ensures)
