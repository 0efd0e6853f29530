-- What is to be shown of `take_firing`.
use Rattle.std.proofs.Common.{◌≡◌, Some, sym, ◌∙◌, subst, arith, rules}
use Rattle.std.proofs.lemmas.Bool.{true≢false}
use Rattle.dt_cred.specs.declared.firing.Firing.{Firing}
use Rattle.dt_life.specs.Sees.{Sees}
use Rattle.dt_proto.specs.Legal.{life_of_trail}
use Rattle.dt_alone.proofs.Judging.{inside, least_more}
use Rattle.dt_alone.proofs.judge.Judge.take_firing.Goals as goal

pub bounds-self-cpu-2 : goal.bounds-self-cpu-2
bounds-self-cpu-2 c =
    let within = inside c.args.machine.now c.args.cpu c.args.place c.in-Some.firing.now c.firing.ensures.sound
    (sym c.in-Some.ensures.value) in
    within.processor

pub overflow_add-self : goal.overflow_add-self
overflow_add-self c =
    let within = inside c.args.machine.now c.args.cpu c.args.place c.in-Some.firing.now c.firing.ensures.sound
    (sym c.in-Some.ensures.value) in
    let row = within.row in
    omega arith

pub returns-then-place-self : goal.returns-then-place-self
returns-then-place-self c = λ account past after may.
    let within = inside c.args.machine.now c.args.cpu c.args.place c.in-Some.firing.now c.firing.ensures.sound
    (sym c.in-Some.ensures.value) in
    let reached = (after.least c.args.cpu c.args.place within.processor).0 may.0 in
    omega arith

pub returns-then-branch : goal.returns-then-branch
returns-then-branch c = λ account past after.
    let contents = c.args.machine.now in
    let is = sym c.in-Some.ensures.value in
    let within = inside contents c.args.cpu c.args.place c.in-Some.firing.now c.firing.ensures.sound is in
    let life = life_of_trail account contents past in
    let seen = c.in_ok-offer.ensures.sees account life after.runs in
    let runs = rw c.if-branch.true at (c.in_ok-offer.ensures.after account life after.runs) in (
      (
        (after.least c.args.cpu c.args.place within.processor).1 (omega arith),
        (c.in-Some.firing.now, is, seen.0 c.if-branch.true),
      ),
      tt,
      record {
        runs = rw is runs;
        least = least_more c.args.self.now.least past c.args.cpu c.args.place (search rules) after.least
            (omega arith);
      },
    )

some_same : (a b : Firing) → Some a ≡ Some b → a ≡ b
some_same a b e = cc

pub returns-else-branch : goal.returns-else-branch
returns-else-branch c = λ account past after may.
    let contents = c.args.machine.now in
    let life = life_of_trail account contents past in
    let seen = c.in_ok-offer.ensures.sees account life after.runs in
    let same = some_same may.1.0 c.in-Some.firing.now (sym may.1.1 ∙ sym c.in-Some.ensures.value) in
    let sees = subst (λ firing. Sees account contents.registry life firing) same may.1.2 in
    true≢false (sym (seen.1 sees) ∙ c.if-branch.false)
