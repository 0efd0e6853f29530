-- What is to be shown of `ask_at`.
use Rattle.std.proofs.Common.{◌≡◌, ap, sym, ◌∙◌, subst}
use Rattle.std.specs.List.{Contains}
use Rattle.dt_chain.specs.Writes.{Write}
use Rattle.dt_cred.specs.declared.account.Account.{Account}
use Rattle.dt_facts.specs.laws.Beginnings.{prefix_trans}
use Rattle.dt_seat.proofs.Offering.{goes_on_asked, goes_on_self, goes_on_wider, starts_after}
use Rattle.dt_seat.proofs.Published.{published_line}
use Rattle.dt_seat.specs.laws.Publications.{contained_still, still_published}
use Rattle.dt_seat.proofs.Seats.{answered_from}
use Rattle.dt_seat.proofs.Sitting.{lines_grown, notebook_asked, notebook_goes_on}
use Rattle.dt_life.specs.Life.{is_stopped}
use Rattle.dt_seat.proofs.Writing.{front_begins, has_written_on, retired}
use Rattle.dt_seat.proofs.asking.ask_at.Goals as goal
use Rattle.dt_seat.specs.Publications.{IsPublicationAfter, writes_seen}
use Rattle.dt_legal.specs.Rows.{IsGoAfter}
use Rattle.dt_seat.proofs.Trails.{trailed_as, trailed_own}
use Rattle.dt_seat.specs.Trailed.{row_after}
use Rattle.dt_seat.specs.Written.{writes_in}
use Rattle.dt_trail.specs.Items.{StartsWith}
use Rattle.dt_trail.specs.Known.{Known, Noted, noted}
use Rattle.dt_trail.specs.declared.law.Named.{Named}
use Rattle.dt_trail.specs.laws.Starts.{starts_trans}

pub returns-in_err-published-clause-notebook : goal.returns-in_err-published-clause-notebook
returns-in_err-published-clause-notebook g c =
    rw c.reserve.ensures.items
    (notebook_goes_on _ _ _ c.args.notebook.now.note c.make_ready.new.note _ _ c.requires.notebook c.make_ready.ensures.note)

pub returns-in_err-published-clause-trail : goal.returns-in_err-published-clause-trail
returns-in_err-published-clause-trail g c =
    let row = c.make_ready.ensures.row in
    goes_on_wider c.args.present.now.owner c.make_ready.new.present.owner row.0 row.1 row.2

pub finish-text-requires-clause-lines : goal.finish-text-requires-clause-lines
finish-text-requires-clause-lines g c =
    c.reserve.ensures.items
    ∙ lines_grown _ _ _ c.args.notebook.now.note c.make_ready.new.note _ _ c.requires.notebook c.make_ready.ensures.note

pub finish-text-requires-clause-kept : goal.finish-text-requires-clause-kept
finish-text-requires-clause-kept g c = trailed_own _ _ _ _ c.make_ready.ensures.trailed

pub finish-text-requires-clause-prepared : goal.finish-text-requires-clause-prepared
finish-text-requires-clause-prepared g c =
    let whose : c.make_ready.new.present.owner.row.account ≡ c.args.present.now.account =
    ap (λ (r : Named Account). r.account) c.make_ready.ensures.row.0 ∙ c.requires.trailed.whose_is in
    let made = rw c.requires.machine at c.in_ok-prepared.ensures.prepared in
    rw (whose, c.make_ready.ensures.row.1, c.make_ready.ensures.same.1) (made c.args.present.now.account c.args.present.now.owner.knows c.requires.trailed.stands)

pub finish-text-requires-clause-room : goal.finish-text-requires-clause-room
finish-text-requires-clause-room g c = λ go.
    let whose : c.make_ready.new.present.owner.row.account ≡ c.args.present.now.account =
    ap (λ (r : Named Account). r.account) c.make_ready.ensures.row.0 ∙ c.requires.trailed.whose_is in
    let made = rw c.requires.machine at c.in_ok-prepared.ensures.prepared in
    let prepared = made c.args.present.now.account c.args.present.now.owner.knows c.requires.trailed.stands in
    let is_go = (c.publishes-is_go.ensures _ _ _ _ prepared.drafted).1 (rw (whose, c.make_ready.ensures.row.1) at go) in
    rw c.make_ready.ensures.trailed.whose_is (c.in_ok-published.ensures.room is_go)

pub returns-clause-trailed : goal.returns-clause-trailed
returns-clause-trailed g c =
    rw (c.retire-withdrawn.ensures.same.0, c.retire-withdrawn.ensures.same.1, c.retire-withdrawn.ensures.same.2)
    (trailed_as _ _ _ _ _ c.make_ready.ensures.trailed.whose_is c.finish-text.ensures.kept)

pub returns-clause-appended : goal.returns-clause-appended
returns-clause-appended g c =
    let contents = g.J.Traced.contents in
    let whose : c.make_ready.new.present.owner.row.account ≡ c.args.present.now.account =
    ap (λ (r : Named Account). r.account) c.make_ready.ensures.row.0 ∙ c.requires.trailed.whose_is in
    let whole : c.retire-withdrawn.new.present.owner.knows
    ≡ row_after c.make_ready.new.present.owner.row.account contents c.make_ready.new.present.owner.knows c.in_ok-prepared.prepared.item =
    ap (λ (o : Known Account). o.knows) (c.retire-withdrawn.ensures.same.1 ∙ c.finish-text.ensures.trail) in
    rw (← c.in_ok-prepared.ensures.line) (rw (whose, c.make_ready.ensures.row.1) at whole)

pub returns-clause-answered : goal.returns-clause-answered
returns-clause-answered g c =
    let contents = g.J.Traced.contents in
    let made = rw c.requires.machine at c.in_ok-prepared.ensures.prepared in
    let prepared = made c.args.present.now.account c.args.present.now.owner.knows c.requires.trailed.stands in
    let account : c.args.notebook.now.note.row.account ≡ c.args.present.now.account =
    ap (λ (r : Named Account). r.account) c.requires.row ∙ c.requires.trailed.whose_is in
    let whose : c.make_ready.new.present.owner.row.account ≡ c.args.present.now.account =
    ap (λ (r : Named Account). r.account) c.make_ready.ensures.row.0 ∙ c.requires.trailed.whose_is in
    let after : c.finish-text.new.note.knows
    ≡ row_after c.make_ready.new.present.owner.row.account contents c.make_ready.new.present.owner.knows c.in_ok-prepared.prepared.item =
    ap (λ (n : Noted Account). n.knows) c.finish-text.ensures.note in
    let met = rw c.make_ready.ensures.row.1 at c.finish-text.ensures.met in
    rw (account, ← c.in_ok-prepared.ensures.line, c.finish-text.ensures.text)
    (answered_from contents c.args.present.now.account c.args.notebook.now.note c.make_ready.new.note c.args.present.now.owner.knows
    c.in_ok-prepared.prepared.item c.in_ok-prepared.prepared.text.items c.of-ending.result c.finish-text.new.note.knows c.requires.notebook.first
    c.make_ready.ensures.note met c.requires.trailed.legal prepared.due
    (c.of-ending.ensures c.args.present.now.account contents c.args.present.now.owner.knows c.in_ok-prepared.prepared.item prepared.drafted)
    (rw (whose, c.make_ready.ensures.row.1) at after))

pub returns-clause-notebook : goal.returns-clause-notebook
returns-clause-notebook g c =
    let contents = g.J.Traced.contents in
    let item = c.in_ok-prepared.prepared.item in
    let old = c.args.notebook.now.note in
    let account : old.row.account ≡ c.args.present.now.account =
    ap (λ (r : Named Account). r.account) c.requires.row ∙ c.requires.trailed.whose_is in
    let whose : c.make_ready.new.present.owner.row.account ≡ c.args.present.now.account =
    ap (λ (r : Named Account). r.account) c.make_ready.ensures.row.0 ∙ c.requires.trailed.whose_is in
    let made = rw c.requires.machine at c.in_ok-prepared.ensures.prepared in
    let prepared = made c.args.present.now.account c.args.present.now.owner.knows c.requires.trailed.stands in
    let met = rw c.make_ready.ensures.row.1 at c.finish-text.ensures.met in
    let after : c.finish-text.new.note ≡ noted old.row 0 (row_after c.args.present.now.account contents c.args.present.now.owner.knows item) =
    rw (whose, c.make_ready.ensures.row.1, c.make_ready.ensures.note.row) at c.finish-text.ensures.note in
    let announced : IsGoAfter c.args.present.now.account contents c.args.present.now.owner.knows item → (write : Write)
    × Contains (writes_seen c.take_down-3.new.front) write
    × IsPublicationAfter contents c.args.number c.args.life c.args.present.now.account c.args.present.now.owner.knows write = λ go.
    let is_go = (c.publishes-is_go.ensures _ _ _ _ prepared.drafted).1 go in
    let found = c.in_ok-published.ensures.published is_go in
    let first = contained_still _ _ found.0 c.take_down-2.ensures.now found.1 in
    (found.0, contained_still _ _ found.0 c.take_down-3.ensures.before first, found.2) in
    notebook_asked contents c.args.number c.args.life c.args.present.now.account old c.make_ready.new.note c.args.notebook.now.lines.items
    c.args.notebook.now.front c.take_down-3.new.front account c.requires.notebook c.make_ready.ensures.note c.args.present.now.owner.knows met item
    c.finish-text.new.note c.finish-text.new.lines.items (prefix_trans _ _ _ c.take_down-2.ensures.before c.take_down-3.ensures.before) announced after c.finish-text.ensures.lines

pub returns-clause-trail : goal.returns-clause-trail
returns-clause-trail g c =
    let row = c.make_ready.ensures.row in
    rw (c.retire-withdrawn.ensures.same.1, c.finish-text.ensures.trail)
    (goes_on_asked c.make_ready.new.present.owner.row.account g.J.Traced.contents c.args.present.now.owner c.make_ready.new.present.owner
    c.in_ok-prepared.prepared.item (goes_on_wider c.args.present.now.owner c.make_ready.new.present.owner row.0 row.1 row.2))

pub returns-clause-note : goal.returns-clause-note
returns-clause-note g c =
    let contents = g.J.Traced.contents in
    let item = c.in_ok-prepared.prepared.item in
    let old = c.args.notebook.now.note in
    let row = c.args.present.now.owner.knows in
    let whose : c.make_ready.new.present.owner.row.account ≡ c.args.present.now.account =
    ap (λ (r : Named Account). r.account) c.make_ready.ensures.row.0 ∙ c.requires.trailed.whose_is in
    let met = rw c.make_ready.ensures.row.1 at c.finish-text.ensures.met in
    let after : c.finish-text.new.note ≡ noted old.row 0 (row_after c.args.present.now.account contents row item) =
    rw (whose, c.make_ready.ensures.row.1, c.make_ready.ensures.note.row) at c.finish-text.ensures.note in
    let starts : StartsWith (row_after c.args.present.now.account contents row item) old.knows =
    starts_trans (row_after c.args.present.now.account contents row item) row old.knows (starts_after c.args.present.now.account contents row item)
    (starts_trans row c.make_ready.new.note.knows old.knows met.0 c.make_ready.ensures.note.longer) in
    (ap (λ (n : Noted Account). n.row) after, subst (λ (n : Noted Account). StartsWith n.knows old.knows) (sym after) starts)

pub returns-clause-front : goal.returns-clause-front
returns-clause-front g c = prefix_trans _ _ _ c.take_down-2.ensures.before c.take_down-3.ensures.before

pub returns-in_err-published-clause-written : goal.returns-in_err-published-clause-written
returns-in_err-published-clause-written g c =
    rw (c.make_ready.ensures.same.0, c.make_ready.ensures.row.1) c.make_ready.ensures.written

pub retire-withdrawn-requires-clause-trailed : goal.retire-withdrawn-requires-clause-trailed
retire-withdrawn-requires-clause-trailed g c = trailed_as _ _ _ _ _ c.make_ready.ensures.trailed.whose_is c.finish-text.ensures.kept

pub retire-withdrawn-requires-clause-written : goal.retire-withdrawn-requires-clause-written
retire-withdrawn-requires-clause-written g c =
    let contents = g.J.Traced.contents in
    let mid = c.make_ready.new.present in
    let trailed = trailed_as _ _ _ _ _ c.make_ready.ensures.trailed.whose_is c.finish-text.ensures.kept in
    let written = rw (← c.make_ready.ensures.same.0, ← c.make_ready.ensures.row.1) at c.make_ready.ensures.written in
    let on = goes_on_asked mid.owner.row.account contents mid.owner mid.owner c.in_ok-prepared.prepared.item (goes_on_self mid.owner) in
    let longer = subst (λ (o : Known Account). StartsWith o.knows mid.owner.knows) (sym c.finish-text.ensures.trail) on.longer in
    has_written_on g.J.HubSite.word contents c.args.number c.args.life mid.account mid.owner.knows c.finish-text.new.owner.knows c.make_ready.new.writes
    longer trailed.legal written

pub returns-clause-written : goal.returns-clause-written
returns-clause-written g c =
    rw (c.retire-withdrawn.ensures.same.0, c.retire-withdrawn.ensures.same.1) c.retire-withdrawn.ensures.written

pub make_ready-requires-clause-going : goal.make_ready-requires-clause-going
make_ready-requires-clause-going g c = λ is_go.
    let made = rw c.requires.machine at c.in_ok-prepared.ensures.prepared in
    let prepared = made c.args.present.now.account c.args.present.now.owner.knows c.requires.trailed.stands in
    ap is_stopped ((c.publishes-is_go.ensures _ _ _ _ prepared.drafted).0 is_go).1

-- Where memory ran out, the publication that is known of is the one that was.
pub returns-in_err-published-clause-published : goal.returns-in_err-published-clause-published
returns-in_err-published-clause-published g c =
    let h = c.requires.published in
    let made = c.make_ready.ensures in
    rw (made.same.0, made.same.2, made.row.1) (record {
      there = h.there;
      begins = prefix_trans _ _ _ h.begins made.more;
    })

-- A `go` that is accepted is published, and that is known from then on; what was known before stays.
pub returns-clause-published : goal.returns-clause-published
returns-clause-published g c =
    let contents = g.J.Traced.contents in
    let item = c.in_ok-prepared.prepared.item in
    let account = c.args.present.now.account in
    let row = c.args.present.now.owner.knows in
    let h = c.requires.published in
    let old_front = c.args.present.now.front in
    let whose : c.make_ready.new.present.owner.row.account ≡ account =
    ap (λ (r : Named Account). r.account) c.make_ready.ensures.row.0 ∙ c.requires.trailed.whose_is in
    let made = rw c.requires.machine at c.in_ok-prepared.ensures.prepared in
    let prepared = made account row c.requires.trailed.stands in
    let after : c.finish-text.new.owner.knows
    ≡ row_after c.make_ready.new.present.owner.row.account contents c.make_ready.new.present.owner.knows item =
    ap (λ (o : Known Account). o.knows) c.finish-text.ensures.trail in
    let knows : c.finish-text.new.owner.knows ≡ row_after account contents row item = rw (whose, c.make_ready.ensures.row.1) at after in
    let taken = rw (c.make_ready.ensures.same.2, c.again.ensures) at c.take_down.ensures in
    let announced : IsGoAfter account contents row item → (write : Write) × Contains (writes_seen c.take_down.new.front) write
    × IsPublicationAfter contents c.args.number c.args.life account row write = λ go.
    let is_go = (c.publishes-is_go.ensures _ _ _ _ prepared.drafted).1 go in
    let found = c.in_ok-published.ensures.published is_go in
    (found.0, contained_still _ _ found.0 taken.now found.1, found.2) in
    let whole = published_line contents c.args.number c.args.life account row item (writes_seen c.take_down.new.front)
    (still_published contents c.args.number c.args.life account row (writes_seen old_front) (writes_seen c.take_down.new.front) taken.before h.there) announced in
    let by_old = prefix_trans _ _ _ h.begins c.make_ready.ensures.more in
    let begins = front_begins c.args.number old_front c.in_ok-published.published c.take_down.new.front (writes_in c.make_ready.new.writes.fact) taken.one by_old
    c.in_ok-published.ensures.own in
    let more = retired c.args.number (writes_in c.make_ready.new.writes.fact) (writes_in c.retire-withdrawn.new.writes.fact) c.retire-withdrawn.result
    c.retire-withdrawn.ensures.own in
    rw (c.retire-withdrawn.ensures.same.0, c.retire-withdrawn.ensures.same.1, c.retire-withdrawn.ensures.same.3, c.make_ready.ensures.same.0, knows) (record {
      there = whole;
      begins = prefix_trans _ _ _ begins more;
    })
