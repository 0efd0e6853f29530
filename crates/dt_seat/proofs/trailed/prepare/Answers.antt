-- What is to be shown of `prepare`.
use Rattle.std.proofs.Common.{◌≡◌, ap, sym, ◌∙◌}
use Rattle.dt_legal.specs.Rows.{line_form_of, life_of_row}
use Rattle.dt_life.specs.Answer.{answer_of}
use Rattle.dt_life.specs.Ask.{line_asks}
use Rattle.dt_proto.specs.Line.{ask_in}
use Rattle.dt_seat.proofs.Trails.{line_is_mine, same_form}
use Rattle.dt_seat.proofs.trailed.prepare.Goals as goal

pub returns-clause-prepared : goal.returns-clause-prepared
returns-clause-prepared c = λ account knows stands.
    let life = life_of_row account c.args.machine.now knows in
    let asks : line_asks c.in_ok-command.command ≡ ask_in (line_form_of c.in_ok-item.item) =
    c.in_ok-command.ensures.asks
    ∙ ap ask_in (c.lent.ensures ∙ sym (same_form c.args.asked.now) ∙ ap line_form_of (sym c.in_ok-item.ensures)) in
    let told = rw asks at c.in_ok-draft.ensures.drafted in
    let drafted = told account life stands in
    record {
      mine = rw c.in_ok-item.ensures (line_is_mine c.args.asked.now);
      drafted = drafted;
      fits = c.in_ok-draft.ensures.fits;
      due = (answer_of c.reply.result.now, c.reply.ensures _ _ _ _ drafted, c.in_ok-text.ensures);
    }
