-- The least that is left of the word that one is at is the first that is to come, and all others stay.
use Rattle.std.proofs.Common.{◌≡◌, ◌*◌, ◌+◌, Bool, Option, ℕ, Some, None, cond, eqb, slice_index, ap, sym, ◌∙◌, subst, arith}
use Rattle.dt_chain.proofs.GoingOver.{first_to_come, none_before, without_it, cond_twice}
use Rattle.dt_chain.specs.Named.{is_to_come, life_left}
use Rattle.dt_chain.proofs.named_seats.NamedSeats.pop_first.Goals as goal

pub returns : goal.returns
returns c =
    let at = c.turn.new.self in
    let place = c.in_ok-place.place in
    let words = at.mask.now.seats.words in
    let lives = at.mask.now.lives in
    let found = c.in_ok-place.ensures in
    let is = c.at-seat.ensures in (
      sym (c.turn.ensures.same c.at-seat.result)
          ∙ ap (λ s. life_left at s) is
          ∙ ap (λ b. cond b (Some (slice_index lives (at.word * 64 + place))) None)
          (first_to_come words at.word at.left place found.0 ∙ found.1)
          ∙ ap (λ s. Some (slice_index lives s)) (sym (c.number.ensures.value ∙ is)),
      λ seat less. sym (c.turn.ensures.same seat)
          ∙ ap (λ b. cond b (Some (slice_index lives seat)) None)
          (none_before words at.word at.left place found.0 found.2 seat (omega (arith, less, is))),
      λ seat. ap (λ b. cond b (Some (slice_index lives seat)) None)
          (without_it words at.word at.left c.remove.new.self place found.0 c.remove.ensures.others seat)
          ∙ cond_twice (eqb seat (at.word * 64 + place)) (is_to_come words at.word at.left seat) (Some (slice_index lives seat))
          ∙ ap (λ s. cond (eqb seat s) None (life_left at seat)) (sym is)
          ∙ ap (λ l. cond (eqb seat c.at-seat.result) None l) (c.turn.ensures.same seat),
    )
