-- A look takes the next firing, or nothing.
use Rattle.std.proofs.Common.{◌≡◌, ◌+◌, ◌<◌, Some, set, sym, ap, ◌∙◌, subst, arith, rules}
use Rattle.dt_machine.specs.Registry.{firing_at}
use Rattle.dt_world.specs.Progress.{IsAfter}
use Rattle.dt_steps.specs.Stands.{EngineIsAt}
use Rattle.dt_world.proofs.Looks.{not_done, done, next_not_done, next_done, look_none, look_some, counted, own_firing}
use Rattle.dt_world.proofs.Looks.{low_place}
use Rattle.dt_world.proofs.Trails.{told-looked}
use Rattle.dt_world.proofs.progress.Progress.look.Goals as goal

pub returns-in_err-named-clause-after : goal.returns-in_err-named-clause-after
returns-in_err-named-clause-after c = λ wanted now before.
    let there = c.requires in
    let contents = c.args.machine.now in
    let cpu = c.args.cpu in
    let sound = c.firing.ensures.sound in
    let low : cpu < 64 = omega (arith, sound.few_cpus, there) in
    let firing = c.in_ok-firing.firing.now in
    let is : firing_at contents.scripts cpu (now.taken cpu) ≡ Some firing =
    ap (firing_at contents.scripts cpu) (sym (before.taken cpu low)) ∙ sym c.in_ok-firing.ensures.value in
    let left = not_done contents.registry now.world cpu firing there
    (own_firing contents sound cpu (now.taken cpu) firing is) (c.in_err-named.ensures.answer now.world before.at) in
    subst
    (λ at. IsAfter wanted contents at
    (record { engine = c.look.new.self; taken = c.args.self.now.taken; output = c.args.self.now.output }))
    (sym (look_none contents now cpu (next_not_done contents now cpu left.0)))
    (record {
      at = subst (λ world. EngineIsAt contents.registry world c.look.new.self) left.1
          (c.in_err-named.ensures.at now.world before.at);
      taken = before.taken;
      same = before.same;
      told = before.told;
    })

pub returns-in_err-named-clause-answer : goal.returns-in_err-named-clause-answer
returns-in_err-named-clause-answer c = λ wanted now before.
    let there = c.requires in
    let contents = c.args.machine.now in
    let cpu = c.args.cpu in
    let sound = c.firing.ensures.sound in
    let low : cpu < 64 = omega (arith, sound.few_cpus, there) in
    let firing = c.in_ok-firing.firing.now in
    let is : firing_at contents.scripts cpu (now.taken cpu) ≡ Some firing =
    ap (firing_at contents.scripts cpu) (sym (before.taken cpu low)) ∙ sym c.in_ok-firing.ensures.value in
    let left = not_done contents.registry now.world cpu firing there
    (own_firing contents sound cpu (now.taken cpu) firing is) (c.in_err-named.ensures.answer now.world before.at) in
    rw c.from_residual-in_err-named.ensures (next_not_done contents now cpu left.0)

pub returns-clause-after : goal.returns-clause-after
returns-clause-after c = λ wanted now before.
    let there = c.requires in
    let contents = c.args.machine.now in
    let cpu = c.args.cpu in
    let sound = c.firing.ensures.sound in
    let low : cpu < 64 = omega (arith, sound.few_cpus, there) in
    let firing = c.in_ok-firing.firing.now in
    let is : firing_at contents.scripts cpu (now.taken cpu) ≡ Some firing =
    ap (firing_at contents.scripts cpu) (sym (before.taken cpu low)) ∙ sym c.in_ok-firing.ensures.value in
    let seen = done contents.registry now.world cpu firing there
    (own_firing contents sound cpu (now.taken cpu) firing is) c.in_ok-named.named
    (c.in_ok-named.ensures.answer now.world before.at) in
    let more : c.saturating_add.result ≡ now.taken cpu + 1 =
    omega (
      arith,
      c.saturating_add.ensures,
      before.taken cpu low,
      low_place contents sound cpu (now.taken cpu)
          firing is,
    ) in
    subst
    (λ at. IsAfter wanted contents at (record {
      engine = c.look.new.self;
      taken = set c.args.self.now.taken cpu c.saturating_add.result;
      output = c.args.self.now.output;
    }))
    (sym (look_some contents now cpu firing (next_done contents now cpu firing seen is)))
    (record {
      at = c.in_ok-named.ensures.at now.world before.at;
      taken = counted c.args.self.now.taken now.taken cpu c.saturating_add.result (search rules) before.taken more;
      same = before.same;
      told = told-looked contents.registry now.world wanted cpu firing c.args.self.now.output.text.items before.at.0
          before.told;
    })

pub returns-clause-answer : goal.returns-clause-answer
returns-clause-answer c = λ wanted now before.
    let there = c.requires in
    let contents = c.args.machine.now in
    let cpu = c.args.cpu in
    let sound = c.firing.ensures.sound in
    let low : cpu < 64 = omega (arith, sound.few_cpus, there) in
    let firing = c.in_ok-firing.firing.now in
    let is : firing_at contents.scripts cpu (now.taken cpu) ≡ Some firing =
    ap (firing_at contents.scripts cpu) (sym (before.taken cpu low)) ∙ sym c.in_ok-firing.ensures.value in
    let seen = done contents.registry now.world cpu firing there
    (own_firing contents sound cpu (now.taken cpu) firing is) c.in_ok-named.named
    (c.in_ok-named.ensures.answer now.world before.at) in (
      firing,
      next_done contents now cpu firing seen is,
      (c.in_ok-named.ensures.answer now.world before.at).1,
    )
