-- What is to be shown of `read_items`.
use Rattle.dt_alone.specs.Lent.{forms_of_lent}
use Rattle.dt_alone.proofs.Trails.{nothing_left, not_empty}
use Rattle.dt_alone.proofs.trail.read_items.Goals as goal

pub returns-in_err-item-clause-refused : goal.returns-in_err-item-clause-refused
returns-in_err-item-clause-refused c = λ is items h.
    let known = c.loop-rest.invariant in
    nothing_left c.args.text.now c.loop-rest.rest.now (forms_of_lent c.loop-rest.items.items) items known.spelled
    known.writable (not_empty c.loop-rest.rest.now c.loop-rest-test.ensures)
    (rw c.in_err-item.ensures.ok_part at c.read.ensures.none) h
