-- What is to be shown of `retire`.
use Rattle.std.proofs.Common.{rules, ◌≡◌, ℕ, true, ap, sym, ◌∙◌, subst}
use Rattle.dt_chain.specs.Writes.{Write, seat_of}
use Rattle.dt_legal.specs.Rows.{life_of_row}
use Rattle.dt_seat.proofs.Writing.{writes_withdrawn}
use Rattle.dt_seat.proofs.asking.retire.Goals as goal
use Rattle.dt_seat.specs.Written.{MayEndWith, SaysWrites, writes_in}

pub write_down-requires-clause-writes : goal.write_down-requires-clause-writes
write_down-requires-clause-writes g c =
    subst (λ (n : ℕ). SaysWrites g.J.HubSite.word n c.args.writes.now) (sym (ap seat_of c.withdrawal.ensures)) c.requires.written.says

pub returns-in-Ok-clause-written : goal.returns-in-Ok-clause-written
returns-in-Ok-clause-written g c =
    let contents = g.J.Traced.contents in
    let account = c.args.present.now.account in
    let knows = c.args.present.now.owner.knows in
    let old = writes_in c.args.writes.now.fact in
    let new = writes_in c.write_down.new.writes.fact in
    let stopped : c.has_stopped.result ≡ true = search rules in
    record {
      says = subst (λ (n : ℕ). SaysWrites g.J.HubSite.word n c.write_down.new.writes) (ap seat_of c.withdrawal.ensures) c.write_down.ensures.writes;
      are = writes_withdrawn contents account c.args.life knows old c.requires.written.are c.args.number new
          (sym (c.has_stopped.ensures account contents.registry (life_of_row account contents knows) c.requires.trailed.stands) ∙ stopped)
          (subst (λ (w : Write). MayEndWith w old new) c.withdrawal.ensures c.write_down.ensures.may);
    }

pub returns-in-Err-clause-written : goal.returns-in-Err-clause-written
returns-in-Err-clause-written g c =
    let contents = g.J.Traced.contents in
    let account = c.args.present.now.account in
    let knows = c.args.present.now.owner.knows in
    let old = writes_in c.args.writes.now.fact in
    let new = writes_in c.write_down.new.writes.fact in
    let stopped : c.has_stopped.result ≡ true = search rules in
    record {
      says = subst (λ (n : ℕ). SaysWrites g.J.HubSite.word n c.write_down.new.writes) (ap seat_of c.withdrawal.ensures) c.write_down.ensures.writes;
      are = writes_withdrawn contents account c.args.life knows old c.requires.written.are c.args.number new
          (sym (c.has_stopped.ensures account contents.registry (life_of_row account contents knows) c.requires.trailed.stands) ∙ stopped)
          (subst (λ (w : Write). MayEndWith w old new) c.withdrawal.ensures c.write_down.ensures.may);
    }
