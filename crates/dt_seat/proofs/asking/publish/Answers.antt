-- What is to be shown of `publish`.
use Rattle.std.proofs.Common.{◌≡◌, ℕ, List, [], ◌∷◌, refl, ap, sym, subst, arith}
use Rattle.std.specs.List.{Contains}
use Rattle.std.proofs.lemmas.List.Elements.{Contains-append_right}
use Rattle.std.proofs.lemmas.Result.{IfOk-weaker}
use Rattle.dt_chain.specs.Writes.{Write, seat_of, writes_of}
use Rattle.dt_legal.specs.Rows.{AreOfEcbs, life_of_row}
use Rattle.dt_machine.specs.Interest.{flags_of}
use Rattle.dt_machine.specs.laws.Flags.{names_flags}
use Rattle.dt_seat.proofs.Writing.{may_begin, writes_published}
use Rattle.dt_seat.proofs.asking.publish.Goals as goal
use Rattle.dt_seat.specs.Written.{MayEndWith, SaysWrites, writes_in}

pub write_down-requires-clause-writes : goal.write_down-requires-clause-writes
write_down-requires-clause-writes g c =
    subst (λ (n : ℕ). SaysWrites g.J.HubSite.word n c.args.writes.now) (sym (ap seat_of c.in_ok-write.ensures)) c.requires.written.says

pub returns-clause-written : goal.returns-clause-written
returns-clause-written g c =
    let interest = c.in_ok-interest.interest in
    let contents = g.J.Traced.contents in
    let account = c.args.present.now.account in
    let knows = c.args.present.now.owner.knows in
    let old = writes_in c.args.writes.now.fact in
    let new = writes_in c.write_down.new.writes.fact in
    let named = c.in_ok-interest.ensures.named account contents.registry (life_of_row account contents knows) c.requires.trailed.stands in
    let exact : AreOfEcbs account contents knows (flags_of interest) = λ id.
    let flag = names_flags interest interest.bounded id in
    let names = named id in
    (λ n. names.0 (flag.0 n), λ e. flag.1 (names.1 e)) in
    record {
      says = subst (λ (n : ℕ). SaysWrites g.J.HubSite.word n c.write_down.new.writes) (ap seat_of c.in_ok-write.ensures) c.write_down.ensures.writes;
      are = writes_published contents account c.args.life knows old c.requires.written.are c.args.number (flags_of interest) new exact c.requires.going
          (subst (λ (w : Write). MayEndWith w old new) c.in_ok-write.ensures c.write_down.ensures.may);
    }

pub returns-clause-published : goal.returns-clause-published
returns-clause-published g c =
    let interest = c.in_ok-interest.interest in
    let contents = g.J.Traced.contents in
    let account = c.args.present.now.account in
    let write = c.in_ok-write.write in
    let named = c.in_ok-interest.ensures.named account contents.registry (life_of_row account contents c.args.present.now.owner.knows) c.requires.trailed.stands in
    IfOk-weaker c.write_down.result _ _ (λ front last. (
      write,
      subst (λ (l : List Write). Contains l write) (sym last.1) (Contains-append_right last.0 (write ∷ []) write (0, omega arith, refl)),
      (
        flags_of interest,
        c.in_ok-write.ensures,
        λ id. let flag = names_flags interest interest.bounded id in
            let names = named id in
            (λ n. names.0 (flag.0 n), λ e. flag.1 (names.1 e)),
      ),
    )) c.write_down.ensures.front

pub returns-clause-own : goal.returns-clause-own
returns-clause-own g c =
    IfOk-weaker c.write_down.result _ _ (λ front same.
    subst (λ (n : ℕ). writes_of front n ≡ writes_in c.write_down.new.writes.fact) (ap seat_of c.in_ok-write.ensures) same) c.write_down.ensures.own

pub returns-clause-more : goal.returns-clause-more
returns-clause-more g c = may_begin c.in_ok-write.write (writes_in c.args.writes.now.fact) (writes_in c.write_down.new.writes.fact) c.write_down.ensures.may
