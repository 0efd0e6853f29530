-- An offer: a session sees what is due to its seat, or nothing is due.
use Rattle.std.proofs.Common.{◌≡◌, ◌∙◌, ◌<◌, ◌≤◌, Bool, true, false, Some, None, option_map, cond, length, refl, sym}
use Rattle.std.proofs.Common.{ap, arith}
use Rattle.std.proofs.lemmas.Option.{slice_get-get_or, slice_get_past}
use Rattle.std.specs.List.{slice_get}
use Rattle.std.specs.Bool.{then_some}
use Rattle.dt_cred.specs.declared.firing.Firing.{Firing}
use Rattle.dt_steps.specs.Sound.{IsDueToShown}
use Rattle.dt_steps.specs.Stands.{due_of, due_in, place_of}
use Rattle.dt_steps.specs.World.{DueOffer}
use Rattle.dt_steps.proofs.Soundness.{sound-offering}
use Rattle.dt_steps.proofs.Standing.{Found, kept-offering, kept-offering-none, kept-offering-past}
use Rattle.dt_steps.proofs.Standing.{lent-looked, shown-due, seen-offered, seen-none}
use Rattle.dt_steps.proofs.engine.Engine.offer.Goals as goal

place_if : (b : Bool) (firing : Firing) → then_some b (place_of firing)
    ≡ option_map place_of (cond b (Some firing) None)
place_if true firing = refl
place_if false firing = refl

pub returns : goal.returns
returns c = λ world at.
    let registry = c.args.machine.now.registry in
    let seats = c.args.self.now.seats.items in
    let processors = c.args.self.now.processors.items in
    let publications = c.args.self.now.publications in
    let found : Found seats c.number.result c.args.seat c.index_mut-place.result.now = record {
      is = c.number.ensures.value;
      low = c.number.ensures.small;
      read = c.index_mut-place.ensures.value;
    } in
    let before = c.index_mut-due.result.now in
    let long = c.args.self.now.processors.ok.0 in
    let low : c.args.cpu < length processors = omega (arith, long, c.len.ensures, c.if-cpu-len.false) in
    let is : slice_get processors c.args.cpu ≡ Some before =
    slice_get-get_or processors c.args.cpu before low ∙ ap Some (sym c.index_mut-due.ensures.value) in
    let due : DueOffer = record { life = c.in_ok-life.life; firing = c.in_ok-life.context.firing.now } in
    let owes : due_of before c.args.seat ≡ Some due = c.in_ok-life.ensures.offer in
    let lent = lent-looked registry world seats publications processors at.0 at.1 c.args.cpu before c.in_ok-life.context is
    c.in_ok-life.ensures.lent in
    let shown : IsDueToShown registry (world.places c.args.seat) due =
    shown-due registry world seats publications processors at.0 at.1 c.args.cpu c.args.seat before due is owes in
    let seen = seen-offered registry world seats publications processors at.0 at.1 c.args.cpu c.number.result c.args.seat
    c.index_mut-place.result.now before due found is owes c.deliver-is_seen.result
    (λ held. c.deliver-is_seen.ensures.seen (world.places c.args.seat) held lent shown) in (
      (
        sound-offering registry world at.0 c.args.cpu c.args.seat,
        kept-offering registry world seats publications processors at.0 at.1 c.args.cpu c.number.result c.args.seat
            c.index_mut-place.result.now c.deliver-is_seen.new.self before c.take.new.self due found is owes
            c.in_ok-life.ensures.taken c.in_ok-life.ensures.context
            (λ held. c.deliver-is_seen.ensures.reached (world.places c.args.seat) held lent shown),
      ),
      c.then_some.ensures ∙ place_if c.deliver-is_seen.result due.firing ∙ sym (ap (option_map place_of) seen),
    )

pub returns-in_err-life : goal.returns-in_err-life
returns-in_err-life c = λ world at.
    let registry = c.args.machine.now.registry in
    let seats = c.args.self.now.seats.items in
    let processors = c.args.self.now.processors.items in
    let before = c.index_mut-due.result.now in
    let long = c.args.self.now.processors.ok.0 in
    let low : c.args.cpu < length processors = omega (arith, long, c.len.ensures, c.if-cpu-len.false) in
    let is : slice_get processors c.args.cpu ≡ Some before =
    slice_get-get_or processors c.args.cpu before low ∙ ap Some (sym c.index_mut-due.ensures.value) in
    let none : due_of before c.args.seat ≡ None = c.in_err-life.ensures.none in (
      (
        sound-offering registry world at.0 c.args.cpu c.args.seat,
        kept-offering-none registry world seats c.args.self.now.publications processors at.0 at.1 c.args.cpu c.args.seat
            before c.take.new.self low c.index_mut-due.ensures.value c.in_err-life.ensures.same none,
      ),
      c.from_residual.ensures ∙ sym (ap (option_map place_of)
          (seen-none registry world seats c.args.self.now.publications processors at.0 at.1
          c.args.cpu c.args.seat (ap (λ o. due_in o c.args.seat) is ∙ none))),
    )

pub returns-then-cpu-len : goal.returns-then-cpu-len
returns-then-cpu-len c = λ world at.
    let registry = c.args.machine.now.registry in
    let seats = c.args.self.now.seats.items in
    let processors = c.args.self.now.processors.items in
    let long = c.args.self.now.processors.ok.0 in
    let high : length processors ≤ c.args.cpu = omega (arith, long, c.len.ensures, c.if-cpu-len.true) in (
      (
        sound-offering registry world at.0 c.args.cpu c.args.seat,
        kept-offering-past registry world seats c.args.self.now.publications processors at.0 at.1 c.args.cpu
            c.args.seat high,
      ),
      sym (ap (option_map place_of) (seen-none registry world seats c.args.self.now.publications processors at.0 at.1
          c.args.cpu c.args.seat (ap (λ o. due_in o c.args.seat) (slice_get_past processors c.args.cpu high)))),
    )
