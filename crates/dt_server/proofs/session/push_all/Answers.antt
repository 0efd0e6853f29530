use Rattle.std.proofs.Common.{◌≡◌, ◌++◌, ◌∙◌, ℕ, List, [], refl, take, length, ap, sym, subst}
use Rattle.std.proofs.Math.Seq.{take-append_seam}
use Rattle.std.specs.Io.KnownBytes.{Appends}
use Rattle.dt_server.proofs.Streams.{appends_kept, appends_more, appends_none}
use Rattle.dt_proto.specs.laws.Taken.{left_of_piece}
use Rattle.dt_server.proofs.session.push_all.Goals as goal

pub loop-rest-init : goal.loop-rest-init
loop-rest-init g c = ([], refl, appends_none (g.W.Sink.contents c.args.sink.now), refl)

pub loop-rest-preserved : goal.loop-rest-preserved
loop-rest-preserved g c =
    let before = c.loop-rest.invariant in (
      before.0 ++ take c.in-Ok.n c.loop-rest.rest.now,
      left_of_piece c.args.bytes.now before.0 c.loop-rest.rest.now c.in-Ok.n before.1,
      appends_more (g.W.Sink.contents c.args.sink.now) (g.W.Sink.contents c.loop-rest.sink)
          (g.W.Sink.contents c.push.new.self) before.0 (take c.in-Ok.n c.loop-rest.rest.now) before.2 c.in-Ok.ensures.bytes,
      c.in-Ok.ensures.failures ∙ before.3,
    )

pub returns-in-Err-clause-no : goal.returns-in-Err-clause-no
returns-in-Err-clause-no g c = λ _.
    let before = c.loop-rest.invariant in
    let old = g.W.Sink.contents c.args.sink.now in
    let new = g.W.Sink.contents c.push.new.self in
    let front : take (length before.0) c.args.bytes.now ≡ before.0 = ap (take (length before.0)) before.1
    ∙ take-append_seam before.0 c.loop-rest.rest.now in
    let A : List ℕ → Type 0 = λ l. Appends old new l in (
      length before.0,
      subst A (sym front) (appends_kept old (g.W.Sink.contents c.loop-rest.sink) new before.0 before.2 c.in-Err.ensures.bytes),
    )
