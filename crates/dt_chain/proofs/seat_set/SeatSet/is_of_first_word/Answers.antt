-- Where a later word isn't empty, there is a seat of it; and all later words were passed.
use Rattle.std.proofs.Common.{◌*◌, ◌+◌, IsTrue, sym, ◌∙◌, arith}
use Rattle.std.proofs.lemmas.Bool.{false≢true}
use Rattle.dt_machine.specs.laws.Words.{has_at}
use Rattle.dt_chain.proofs.seat_set.SeatSet.is_of_first_word.Goals as goal

pub returns-then-not-is_empty : goal.returns-then-not-is_empty
returns-then-not-is_empty c = (
  λ e. absurd (false≢true e),
  λ none.
      let empty : IsTrue c.is_empty.result = c.is_empty.ensures.1
      (λ place low. sym (has_at c.args.self.now.words c.loop-word.word place low)
      ∙ none (c.loop-word.word * 64 + place) (omega (arith, low, c.loop-word.auto.word))) in
      absurd (false≢true (sym c.if-not-is_empty.true ∙ empty)),
)
