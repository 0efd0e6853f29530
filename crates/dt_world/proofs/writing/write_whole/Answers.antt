-- What is to be shown of `write_whole`.
use Rattle.std.proofs.Common.{◌≡◌, ◌+◌, ◌-◌, ℕ, List, Bor, length, drop, arith, ap, ◌∙◌}
use Rattle.std.proofs.lemmas.List.{drop-drop, length-drop}
use Rattle.dt_world.proofs.Streams.{more_written, still_written, whole_rest}
use Rattle.dt_world.proofs.writing.write_whole.Goals as goal
use Rattle.dt_world.proofs.writing.write_whole.Goals.{in-Ok, in-Err}

pub loop-write-preserved : goal.loop-write-preserved
loop-write-preserved g c =
    let before = c.loop-write.invariant in
    elim c.match-write.branch [
      | in-Ok w ↦
          let rest : c.match-write.rest.now
          ≡ drop w.in-Ok.count c.loop-write.rest.now = ap (λ (b : Bor (List ℕ)). b.now) w.rest-is
          ∙ whole_rest c.loop-write.rest.now w.in-Ok.count in
          let left : length c.loop-write.rest.now ≡ length c.args.bytes.now - before.0 = ap length before.2
          ∙ length-drop before.0 c.args.bytes.now in (
            before.0 + w.in-Ok.count,
            omega (arith, before.1, left, w.in-Ok.ensures.bound),
            rest ∙ ap (drop w.in-Ok.count) before.2 ∙ drop-drop w.in-Ok.count before.0 c.args.bytes.now,
            more_written (g.W.Write.contents c.args.writer.now) (g.W.Write.contents c.loop-write.writer)
                (g.W.Write.contents c.write.new.self) c.args.bytes.now c.loop-write.rest.now before.0 w.in-Ok.count
                before.2 before.3 w.in-Ok.ensures.bytes,
          )
      | in-Err w ↦
          let rest : c.match-write.rest.now ≡ c.loop-write.rest.now = ap (λ (b : Bor (List ℕ)). b.now) w.rest-is in (
            before.0,
            before.1,
            rest ∙ before.2,
            still_written (g.W.Write.contents c.args.writer.now)
                (g.W.Write.contents c.loop-write.writer) (g.W.Write.contents c.write.new.self) _ before.3
                w.in-Err.ensures.bytes,
          )
    ]
