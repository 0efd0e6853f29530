-- Only empty lists and empty interests are added.
use Rattle.std.proofs.Common.{◌-◌, arith, sym, ◌∙◌, vec_len}
use Rattle.std.specs.Prelude.{is_ok}
use Rattle.dt_machine.specs.Interest.{has_probe}
use Rattle.dt_chain.specs.Seats.{has}
use Rattle.dt_chain.proofs.Listing.{flag_at-resized}
use Rattle.dt_chain.proofs.lists.Lists.reserve.Goals as goal
use Rattle.dt_chain.specs.Limits.{list_count, seat_count}

pub invariant_of-self-2-clause-agree : goal.invariant_of-self-2-clause-agree
invariant_of-self-2-clause-agree c = λ probe seat.
    let old = c.args.self.now in
    flag_at-resized (λ seats. has seats seat) (is_ok c.resize.result) old.by_probe.items c.resize.new.self.items list_count
    (list_count - vec_len old.by_probe) probe c.new.result (c.new.ensures seat) (omega arith) c.resize.ensures.items
    ∙ old.agree probe seat
    ∙ sym (flag_at-resized (λ interest. has_probe interest probe) (is_ok c.resize-2.result) old.by_seat.items
    c.resize-2.new.self.items seat_count (seat_count - vec_len old.by_seat) seat c.new-2.result (c.new-2.ensures probe) (omega arith)
    c.resize-2.ensures.items)

pub returns-clause-same : goal.returns-clause-same
returns-clause-same c = λ probe seat.
    let old = c.args.self.now in
    flag_at-resized (λ seats. has seats seat) (is_ok c.resize.result) old.by_probe.items c.resize.new.self.items list_count
    (list_count - vec_len old.by_probe) probe c.new.result (c.new.ensures seat) (omega arith) c.resize.ensures.items
