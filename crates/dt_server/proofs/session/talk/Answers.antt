use Rattle.std.proofs.Common.{List, ◌++◌, take, sym, subst, ◌∙◌}
use Rattle.dt_cred.specs.declared.account.Account.{Account}
use Rattle.dt_proto.specs.Lines.{LineForm, lines_of}
use Rattle.dt_server.specs.Talk.{ServesOn, ServesToEnd}
use Rattle.dt_server.proofs.Streams.{appends_more, consumes_more}
use Rattle.dt_server.proofs.Talking.{on_and_on, on_and_end, talk_ends}
use Rattle.dt_server.proofs.session.talk.Goals as goal

pub returns-in-Some-answer_piece-clause-same : goal.returns-in-Some-answer_piece-clause-same
returns-in-Some-answer_piece-clause-same g c =
    let before = c.loop.invariant in
    let same = c.in-Some-answer_piece.ensures.same in
    (same.0 ∙ before.8, same.1 ∙ before.9, same.2 ∙ before.10)

pub returns-in-Some-answer_piece-clause-talk : goal.returns-in-Some-answer_piece-clause-talk
returns-in-Some-answer_piece-clause-talk g c =
    let account = c.args.session.now.account in
    let contents = g.J.Traced.contents in
    let first = c.args.session.now.knows in
    let known = c.loop.session.knows in
    let after = c.answer_piece.new.session.knows in
    let before = c.loop.invariant in
    let step = c.in-Some-answer_piece.ensures.some in
    let e = c.in-Some-answer_piece.ended in
    let piece = take c.in-Ok.n c.pull.new.buf in
    let told = step.4 before.0 before.4 in
    let E : Account → Type 0 = λ a. ServesToEnd a contents e known after step.1 step.0 in (
      before.0 ++ piece,
      before.1 ++ step.0,
      consumes_more (g.R.Source.remaining c.args.source.now) (g.R.Source.remaining c.loop.source)
          (g.R.Source.remaining c.pull.new.self) before.0 piece before.2 c.in-Ok.ensures.bytes.0,
      appends_more (g.W.Sink.contents c.args.sink.now) (g.W.Sink.contents c.loop.sink)
          (g.W.Sink.contents c.answer_piece.new.sink) before.1 step.0 before.3 step.2,
      talk_ends account contents e first after (lines_of (before.0 ++ piece)) (before.1 ++ step.0)
          c.in-Some-answer_piece.ensures.kind (
            lines_of before.0 ++ step.1,
            told.0,
            told.1,
            on_and_end account contents e first known after (lines_of before.0) step.1 before.1 step.0
                before.5 (subst E before.10 step.3),
          ),
    )

pub loop-preserved : goal.loop-preserved
loop-preserved g c =
    let account = c.args.session.now.account in
    let contents = g.J.Traced.contents in
    let first = c.args.session.now.knows in
    let known = c.loop.session.knows in
    let after = c.answer_piece.new.session.knows in
    let before = c.loop.invariant in
    let step = c.in_default.ensures.none in
    let same = c.in_default.ensures.same in
    let piece = take c.in-Ok.n c.pull.new.buf in
    let Q : List LineForm → Type 0 = λ l. ServesOn account contents first after l (before.1 ++ step.0) in
    let G : Account → Type 0 = λ a. ServesOn a contents known after step.1 step.0 in
    let told = step.4 before.0 before.4 in (
      before.0 ++ piece,
      before.1 ++ step.0,
      consumes_more (g.R.Source.remaining c.args.source.now) (g.R.Source.remaining c.loop.source)
          (g.R.Source.remaining c.pull.new.self) before.0 piece before.2 c.in-Ok.ensures.bytes.0,
      appends_more (g.W.Sink.contents c.args.sink.now) (g.W.Sink.contents c.loop.sink)
          (g.W.Sink.contents c.answer_piece.new.sink) before.1 step.0 before.3 step.2,
      told.0,
      subst Q (sym told.1) (on_and_on account contents first known after (lines_of before.0) step.1
          before.1 step.0 before.5 (subst G before.10 step.3)),
      c.in_default.ensures.failures ∙ before.6,
      c.in-Ok.ensures.failures ∙ before.7,
      same.0 ∙ before.8,
      same.1 ∙ before.9,
      same.2 ∙ before.10,
    )
