-- Each ECB has the place of one of the clauses, of those before the program's and of the program's.
use Rattle.std.proofs.Common.{◌<◌, ◌++◌, All, length, map, vec_len, sym, ap, ◌∙◌, subst, arith}
use Rattle.std.proofs.lemmas.List.Elements.{All-append, All-map, All-weaker}
use Rattle.dt_ecb.specs.declared.parts.Ecb.{Ecb}
use Rattle.dt_life.specs.Placed.{placed_after}
use Rattle.dt_alone.proofs.programs.Programs.extend.Goals as goal

pub invariant_of-self-2-clause-placed : goal.invariant_of-self-2-clause-placed
invariant_of-self-2-clause-placed c =
    let own = c.args.self.now in
    let new = c.args.ecbs.now in
    let longer = c.in_ok-append.ensures.len in
    let P : Ecb → Type 0 = λ ecb. ecb.clause < vec_len c.append.new.self in
    subst (All P) (sym (c.in_ok-append-2.ensures.items ∙ ap (λ es. own.ecbs.items ++ es) c.in_ok-placed.ensures))
    (All-append P own.ecbs.items (map (placed_after c.len.result) new)
    (All-weaker (λ (ecb : Ecb). ecb.clause < vec_len own.clauses) P (λ ecb inside. omega (arith, inside, longer))
    own.ecbs.items own.placed)
    (All-map P (placed_after c.len.result) new
    (All-weaker (λ (ecb : Ecb). ecb.clause < length c.args.clauses.items) (λ ecb. P (placed_after c.len.result ecb))
    (λ ecb inside. omega (arith, inside, longer, c.len.ensures)) new c.requires.placed)))
