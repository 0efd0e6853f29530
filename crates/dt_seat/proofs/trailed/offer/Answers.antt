-- What is to be shown of `offer`.
use Rattle.std.proofs.Common.{arith}
use Rattle.dt_legal.specs.laws.Room.{firing_has_room}
use Rattle.dt_seat.proofs.Trails.{below_met, trailed_firing}
use Rattle.dt_seat.proofs.trailed.offer.Goals as goal

pub returns-else-is_seen-clause-seen : goal.returns-else-is_seen-clause-seen
returns-else-is_seen-clause-seen g c =
    let told = rw c.requires.machine at c.offer_context-is_seen.ensures.sees in
    told _ _ c.requires.kept.stands c.requires.context

pub fired-item-requires : goal.fired-item-requires
fired-item-requires g c = let in_range = c.requires.context.belongs.cpu in omega (arith, in_range, c.requires.few)

pub append-requires-clause-room : goal.append-requires-clause-room
append-requires-clause-room g c =
    let told = rw c.requires.machine at c.offer_context-is_seen.ensures.sees in
    let sees = (told _ _ c.requires.kept.stands c.requires.context).0 c.if-is_seen.true in
    firing_has_room c.args.owner.now.row.account g.J.Traced.contents c.args.owner.now.knows _ c.args.owner.now.cells c.requires.kept.legal
    c.requires.kept.suffice sees

pub append-requires-clause-lawful : goal.append-requires-clause-lawful
append-requires-clause-lawful g c = λ met.
    let told = rw c.requires.machine at c.offer_context-is_seen.ensures.sees in
    let sees = (told _ _ c.requires.kept.stands c.requires.context).0 c.if-is_seen.true in
    let seen = rw c.requires.machine at c.offer_context-is_seen.ensures.seen in
    let stands = seen _ _ c.requires.kept.stands c.requires.context c.if-is_seen.true in
    let below = below_met _ _ _ _ _ c.requires.note.1 met.1 c.requires.below in
    rw (c.fired-item.ensures, c.requires.kept.whose_is)
    (trailed_firing g.J.Traced.contents c.args.owner.now.row.account c.args.owner.now c.args.consumer.now c.requires.kept _ _ stands
    c.requires.script sees below).legal

pub returns-then-is_seen-clause-kept : goal.returns-then-is_seen-clause-kept
returns-then-is_seen-clause-kept g c =
    let told = rw c.requires.machine at c.offer_context-is_seen.ensures.sees in
    let sees = (told _ _ c.requires.kept.stands c.requires.context).0 c.if-is_seen.true in
    let seen = rw c.requires.machine at c.offer_context-is_seen.ensures.seen in
    let stands = seen _ _ c.requires.kept.stands c.requires.context c.if-is_seen.true in
    let below = below_met _ _ _ _ _ c.requires.note.1 c.append.ensures.met.1 c.requires.below in
    rw (c.append.ensures.owner, c.fired-item.ensures)
    (trailed_firing g.J.Traced.contents c.args.owner.now.row.account c.args.owner.now c.args.consumer.now c.requires.kept _ _ stands
    c.requires.script sees below)

pub returns-then-is_seen-clause-seen : goal.returns-then-is_seen-clause-seen
returns-then-is_seen-clause-seen g c =
    let told = rw c.requires.machine at c.offer_context-is_seen.ensures.sees in
    told _ _ c.requires.kept.stands c.requires.context
