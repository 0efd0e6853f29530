use Rattle.std.proofs.Common.{[], ◌∷◌, ◌++◌, take, sym, subst, refl, ap, ◌∙◌}
use Rattle.std.proofs.lemmas.List.{append-nil}
use Rattle.dt_cred.specs.declared.account.Account.{Account}
use Rattle.dt_proto.specs.Asked.{form_lent}
use Rattle.dt_proto.specs.HasRead.{form_held}
use Rattle.dt_proto.specs.Lines.{lines_of}
use Rattle.dt_server.specs.Talk.{ServesOn, ServesToEnd}
use Rattle.dt_server.proofs.Streams.{appends_none, appends_more}
use Rattle.dt_server.proofs.Talking.{goes_nowhere, on_and_on, on_and_end, up_to, nothing_read, line_whole, line_part, read_lines}
use Rattle.dt_server.proofs.session.answer_piece.Goals as goal
use Rattle.dt_server.proofs.session.answer_piece.Goals.{then-fed+in_default, else-fed}
use Rattle.dt_proto.specs.laws.Taken.{left_of_piece}

pub loop-rest-init : goal.loop-rest-init
loop-rest-init g c = (
  [],
  [],
  [],
  refl,
  appends_none (g.W.Sink.contents c.args.sink.now),
  goes_nowhere c.args.session.now.account g.J.Traced.contents c.args.session.now.knows,
  λ input read. nothing_read input c.args.lines.now read,
  refl,
  refl,
  refl,
  refl,
)

pub returns-in-Some-clause-same : goal.returns-in-Some-clause-same
returns-in-Some-clause-same g c =
    let before = c.loop-rest.invariant in
    let same = c.in-Some.ensures.same in
    (same.0 ∙ before.8, same.1 ∙ before.9, same.2 ∙ before.10)

pub returns-in-Some-clause-some : goal.returns-in-Some-clause-some
returns-in-Some-clause-some g c =
    let account = c.args.session.now.account in
    let contents = g.J.Traced.contents in
    let first = c.args.session.now.knows in
    let known = c.loop-rest.session.knows in
    let after = c.answer_line.new.session.knows in
    let before = c.loop-rest.invariant in
    let more = c.in-Some.ensures.some in
    let form = form_lent c.line.result in
    let rest = c.loop-rest.rest.now in
    let used = c.feed-fed.result.used in
    let held = form_held c.feed-fed.new.self in
    let E : Account → Type 0 = λ a. ServesToEnd a contents c.in-Some.ended known after (form ∷ []) more.0 in (
      before.1 ++ more.0,
      before.2 ++ form ∷ [],
      appends_more (g.W.Sink.contents c.args.sink.now) (g.W.Sink.contents c.loop-rest.sink)
          (g.W.Sink.contents c.answer_line.new.sink) before.1 more.0 before.4 more.1,
      on_and_end account contents c.in-Some.ended first known after before.2 (form ∷ []) before.1
          more.0 before.5 (subst E before.10 more.2),
      λ input read.
          let told = before.6 input read in
          up_to input before.0 rest c.args.piece.now used before.2 form before.3 told.1
          (line_whole (lines_of ((input ++ before.0) ++ take used rest)) (lines_of (input ++ before.0)) c.feed-fed.result.whole
          held form c.if-fed.true c.line.ensures.held (c.feed-fed.ensures.lines (input ++ before.0) told.0)),
    )

pub loop-rest-preserved : goal.loop-rest-preserved
loop-rest-preserved g c =
    let account = c.args.session.now.account in
    let contents = g.J.Traced.contents in
    let first = c.args.session.now.knows in
    let known = c.loop-rest.session.knows in
    let before = c.loop-rest.invariant in
    let rest = c.loop-rest.rest.now in
    let used = c.feed-fed.result.used in
    let bytes = take used rest in
    let held = form_held c.feed-fed.new.self in
    elim c.if-fed.branch [
      | then-fed+in_default w ↦
          let more = w.in_default.ensures.none in
          let form = form_lent w.line.result in
          let after = w.answer_line.new.session.knows in
          let same = w.in_default.ensures.same in
          let G : Account → Type 0 = λ a. ServesOn a contents known after (form ∷ []) more.0 in
          rw (w.session-is, w.sink-is) (
            before.0 ++ bytes,
            before.1 ++ more.0,
            before.2 ++ form ∷ [],
            left_of_piece c.args.piece.now before.0 rest used before.3,
            appends_more (g.W.Sink.contents c.args.sink.now) (g.W.Sink.contents c.loop-rest.sink)
                (g.W.Sink.contents w.answer_line.new.sink) before.1 more.0 before.4 more.1,
            on_and_on account contents first known after before.2 (form ∷ []) before.1 more.0
                before.5 (subst G before.10 more.2),
            λ input read.
                let told = before.6 input read in
                read_lines input before.0 bytes c.feed-fed.new.self before.2 (form ∷ [])
                (c.feed-fed.ensures.stands (input ++ before.0) told.0) told.1
                (line_whole (lines_of ((input ++ before.0) ++ bytes)) (lines_of (input ++ before.0)) c.feed-fed.result.whole
                held form w.if-fed.true w.line.ensures.held (c.feed-fed.ensures.lines (input ++ before.0) told.0)),
            w.in_default.ensures.failures ∙ before.7,
            same.0 ∙ before.8,
            same.1 ∙ before.9,
            same.2 ∙ before.10,
          )
      | else-fed w ↦ rw (w.session-is, w.sink-is) (
        before.0 ++ bytes,
        before.1,
        before.2,
        left_of_piece c.args.piece.now before.0 rest used before.3,
        before.4,
        before.5,
        λ input read.
            let told = before.6 input read in
            let done = read_lines input before.0 bytes c.feed-fed.new.self before.2 []
            (c.feed-fed.ensures.stands (input ++ before.0) told.0) told.1
            (line_part (lines_of ((input ++ before.0) ++ bytes)) (lines_of (input ++ before.0)) c.feed-fed.result.whole
            held w.if-fed.false (c.feed-fed.ensures.lines (input ++ before.0) told.0)
            ∙ sym (append-nil (lines_of (input ++ before.0)))) in
            (done.0, done.1 ∙ ap (λ l. lines_of input ++ l) (append-nil before.2)),
        before.7,
        before.8,
        before.9,
        before.10,
      )
    ]
