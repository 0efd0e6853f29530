-- A buffer is read.
use Rattle.std.proofs.Common.{◌≡◌, ◌<◌, ◌-◌, refl, sym, ap, ◌∙◌, arith}
use Rattle.dt_alone.proofs.Replying.{room_on, room_other, shows_past, snap_done}
use Rattle.dt_life.specs.Buffers.{reserve_on}
use Rattle.dt_life.specs.Life.{is_readable, set_up}
use Rattle.dt_alone.proofs.runner.Runner.snap.Goals as goal
use Rattle.dt_alone.proofs.runner.Runner.snap.Goals.{then-cpu-eq0, else-cpu-eq0}

pub returns : goal.returns
returns c = λ account life k.
    let registry = c.args.machine.now.registry in
    let s = set_up account registry life in
    let r = c.args.self.now in
    let on = sym (c.is_readable.ensures s k.has.within.options ∙ ap (is_readable s) k.has.within.standing)
    ∙ c.if-not-is_readable.false in
    let room : c.if-cpu-eq0.room ≡ c.args.self.now.options.bufsize
    - reserve_on account c.args.machine.now.registry (set_up account c.args.machine.now.registry life) c.args.cpu =
    elim c.if-cpu-eq0.branch [
      | then-cpu-eq0 w ↦ room_on account registry life r k c.args.cpu c.if-cpu-eq0.room w.if-cpu-eq0.true
          (w.room-is ∙ w.room-room.ensures.room account registry s k.has)
      | else-cpu-eq0 w ↦ room_other account registry life r k c.args.cpu c.if-cpu-eq0.room w.if-cpu-eq0.false w.room-is
    ] in
    let inside : c.args.cpu < c.args.machine.now.registry.cpus =
    omega (arith, c.if-cpu-from.false, c.from.ensures, c.cpus.ensures.value) in
    snap_done account registry life r k c.args.cpu c.in_ok-shown.shown.drops c.in_ok-shown.shown.filled
    c.in_ok-shown.shown.bytes _ inside on
    (shows_past account registry life r k c.args.cpu c.in_ok-shown.shown.bytes.items c.in_ok-shown.shown.drops
    c.in_ok-shown.shown.filled c.deref.result.now inside c.deref.ensures.value (c.in_ok-shown.ensures _ room))
    refl refl refl refl refl c.in_ok-push.ensures.items refl refl
