-- All ECBs of the probe.
use Rattle.std.proofs.Common.{◌≡◌, ◌==◌, ◌<◌, All, filter, length, vec_len, sym, ap, ◌∙◌, subst, arith}
use Rattle.std.proofs.lemmas.List.{take_all}
use Rattle.std.proofs.lemmas.List.Elements.{All-filter}
use Rattle.dt_alone.proofs.Bringing.{count_all}
use Rattle.dt_ecb.specs.declared.parts.Ecb.{Ecb}
use Rattle.dt_alone.proofs.programs.Programs.row.Goals as goal

pub returns : goal.returns
returns c =
    let ecbs = c.args.self.now.ecbs.items in
    let all : c.loop-ecb.row.items ≡ filter (λ (ecb : Ecb). ecb.probe == c.args.probe) c.args.self.now.ecbs.items =
    c.loop-ecb.invariant
    ∙ ap (filter (λ (ecb : Ecb). ecb.probe == c.args.probe))
    (take_all c.loop-ecb.ecb-index c.deref-ecb-items.result.now c.loop-ecb-test.false ∙ c.deref-ecb-items.ensures.value) in
    record {
      all = all;
      few = omega (arith, ap length all, count_all (λ (ecb : Ecb). ecb.probe == c.args.probe) ecbs, c.args.self.now.few);
      placed = subst (All (λ (ecb : Ecb). ecb.clause < vec_len c.args.self.now.clauses)) (sym all)
          (All-filter (λ (ecb : Ecb). ecb.probe == c.args.probe) (λ (ecb : Ecb). ecb.clause < vec_len c.args.self.now.clauses) ecbs
          c.args.self.now.placed);
    }
