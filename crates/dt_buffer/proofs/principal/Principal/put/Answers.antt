-- A record is put into the store of the policy.
use Rattle.std.proofs.Common.{Bool, sym, subst, true, false}
use Rattle.dt_buffer.proofs.Pasts.{put_switch, answer_switch, put_ring, answer_ring, put_ordinary_past, answer_ordinary}
use Rattle.dt_buffer.proofs.Pasts.{put_end_past, answer_end}
use Rattle.dt_buffer.specs.History.{attempt, buffer_after, attempts, ordinary, of_end, since_swap}
use Rattle.dt_buffer.specs.IsAt.{StoreIsAt}
use Rattle.dt_buffer.specs.Shows.{PutAnswers, EndLast}
use Rattle.dt_buffer.specs.declared.policy.Put.{Put}
use Rattle.dt_buffer.specs.declared.principal.Store.{Store}
use Rattle.dt_buffer.specs.declared.principal.Store.TheVariants.{Fill}
use Rattle.dt_buffer.proofs.principal.Principal.put.Goals as goal

pub returns-in-Switch-clause-stands : goal.returns-in-Switch-clause-stands
returns-in-Switch-clause-stands c = λ past s last.
    let P : Store → Type 0 = λ x. StoreIsAt past x in
    put_switch past c.args.bytes.now c.args.in_end true c.in-Switch.store c.put.new.self (subst P c.in-Switch.is s)
    (c.put.ensures.shows past.size (since_swap past.events))

pub returns-in-Switch-clause-answers : goal.returns-in-Switch-clause-answers
returns-in-Switch-clause-answers c = λ past s last.
    let P : Store → Type 0 = λ x. StoreIsAt past x in
    let A : Put → Type 0 = λ p. PutAnswers past c.args.bytes.now c.args.in_end p in
    subst A (sym c.put_or_dropped.ensures)
    (answer_switch past c.args.bytes.now c.args.in_end c.put.result c.in-Switch.store c.put.new.self
    (subst P c.in-Switch.is s) (c.put.ensures.shows past.size (since_swap past.events)) c.put.ensures.kept)

pub returns-then-in_end-clause-stands : goal.returns-then-in_end-clause-stands
returns-then-in_end-clause-stands c = λ past s last.
    let P : Store → Type 0 = λ x. StoreIsAt past x in
    let E : Bool → Type 0 = λ e. StoreIsAt (buffer_after past (attempt c.args.bytes.now e))
    (Fill c.put_of_end.new.self) in
    subst E (sym c.if-in_end.true)
    (put_end_past past c.args.bytes.now c.put_of_end.result c.in-Fill.store c.put_of_end.new.self
    (subst P c.in-Fill.is s)
    (c.put_of_end.ensures past.size past.reserve (ordinary past.events) (of_end past.events)))

pub returns-then-in_end-clause-answers : goal.returns-then-in_end-clause-answers
returns-then-in_end-clause-answers c = λ past s last.
    let P : Store → Type 0 = λ x. StoreIsAt past x in
    let A : Put → Type 0 = λ p. PutAnswers past c.args.bytes.now c.args.in_end p in
    let E : Bool → Type 0 = λ e. PutAnswers past c.args.bytes.now e c.put_or_filled.result in
    let T : Put → Type 0 = λ p. PutAnswers past c.args.bytes.now true p in
    subst E (sym c.if-in_end.true)
    (subst T (sym c.put_or_filled.ensures)
    (answer_end past c.args.bytes.now c.put_of_end.result c.in-Fill.store c.put_of_end.new.self
    (subst P c.in-Fill.is s)
    (c.put_of_end.ensures past.size past.reserve (ordinary past.events) (of_end past.events))))

pub returns-else-in_end-clause-stands : goal.returns-else-in_end-clause-stands
returns-else-in_end-clause-stands c = λ past s last.
    let P : Store → Type 0 = λ x. StoreIsAt past x in
    let L : Bool → Type 0 = λ e. EndLast past e in
    let E : Bool → Type 0 = λ e. StoreIsAt (buffer_after past (attempt c.args.bytes.now e))
    (Fill c.put_ordinary.new.self) in
    subst E (sym c.if-in_end.false)
    (put_ordinary_past past c.args.bytes.now c.put_ordinary.result c.in-Fill.store c.put_ordinary.new.self
    (subst P c.in-Fill.is s) (subst L c.if-in_end.false last)
    (c.put_ordinary.ensures past.size past.reserve (ordinary past.events)))

pub returns-else-in_end-clause-answers : goal.returns-else-in_end-clause-answers
returns-else-in_end-clause-answers c = λ past s last.
    let P : Store → Type 0 = λ x. StoreIsAt past x in
    let L : Bool → Type 0 = λ e. EndLast past e in
    let E : Bool → Type 0 = λ e. PutAnswers past c.args.bytes.now e c.put_or_filled-else-in_end.result in
    let T : Put → Type 0 = λ p. PutAnswers past c.args.bytes.now false p in
    subst E (sym c.if-in_end.false)
    (subst T (sym c.put_or_filled-else-in_end.ensures)
    (answer_ordinary past c.args.bytes.now c.put_ordinary.result c.in-Fill.store c.put_ordinary.new.self
    (subst P c.in-Fill.is s) (subst L c.if-in_end.false last)
    (c.put_ordinary.ensures past.size past.reserve (ordinary past.events))))

pub returns-in-Ring-clause-stands : goal.returns-in-Ring-clause-stands
returns-in-Ring-clause-stands c = λ past s last.
    let P : Store → Type 0 = λ x. StoreIsAt past x in
    put_ring past c.args.bytes.now c.args.in_end true c.in-Ring.store c.put-in-Ring.new.self (subst P c.in-Ring.is s)
    (c.put-in-Ring.ensures.shows past.size (attempts past.events))

pub returns-in-Ring-clause-answers : goal.returns-in-Ring-clause-answers
returns-in-Ring-clause-answers c = λ past s last.
    let P : Store → Type 0 = λ x. StoreIsAt past x in
    let A : Put → Type 0 = λ p. PutAnswers past c.args.bytes.now c.args.in_end p in
    subst A (sym c.put_or_dropped-in-Ring.ensures)
    (answer_ring past c.args.bytes.now c.args.in_end c.put-in-Ring.result c.in-Ring.store c.put-in-Ring.new.self
    (subst P c.in-Ring.is s) (c.put-in-Ring.ensures.shows past.size (attempts past.events)) c.put-in-Ring.ensures.kept)
