-- The seat has the new publication, and the others have theirs.
use Rattle.std.proofs.Common.{◌≡◌, ◌≢◌, ◌↔◌, ℕ, ◌<◌, IsTrue, length, ◌∙◌, rules}
use Rattle.dt_machine.specs.Interest.{Names, flags_of}
use Rattle.dt_machine.specs.laws.Flags.{names_flags}
use Rattle.dt_chain.specs.Lists.{is_seat_listed}
use Rattle.dt_chain.specs.Writes.{Published, published_on}
use Rattle.dt_chain.proofs.Listing.{along}
use Rattle.dt_chain.proofs.Publishing.{kept_after, listed_after}
use Rattle.dt_chain.proofs.entries.Entries.publish.Goals as goal

pub returns-clause-ok : goal.returns-clause-ok
returns-clause-ok c = λ writes at.
    let old = c.args.self.now in
    let publication : Published = record {
      life = c.args.life;
      account = c.args.account.now;
      probes = flags_of c.args.interest.now;
    } in
    let within : c.number.result < length old.slots = search rules in
    let own : (probe : ℕ) → IsTrue (is_seat_listed c.set.new.self probe c.args.seat) ↔ Names publication.probes probe =
    λ probe.
    let named = names_flags c.args.interest.now c.args.interest.now.bounded probe in
    along _ _ _ (c.set.ensures.own probe) (λ e. named.1 e, λ n. named.0 n) in
    let others : (probe other : ℕ) → other ≢ c.args.seat
    → is_seat_listed c.set.new.self probe other ≡ is_seat_listed old.lists probe other =
    λ probe other ne. c.set.ensures.others probe other ne ∙ c.in_ok-reserve.ensures.same probe other in
    record {
      kept = λ seat.
          rw c.number.ensures.value
          (kept_after old.slots c.args.seat seat publication (published_on writes seat)
          (rw (← c.number.ensures.value) within)
          (at.kept seat));
      listed = λ probe seat.
          listed_after (λ other. is_seat_listed old.lists probe other)
          (λ other. is_seat_listed c.set.new.self probe other)
          c.args.seat seat probe publication (published_on writes seat) (own probe) (others probe) (at.listed probe seat);
    }
