-- What is to be shown of `push_numbers`.
use Rattle.std.proofs.Common.{refl}
use Rattle.dt_proto.proofs.StatusTexts.{numbers_more, numbers_all}
use Rattle.dt_proto.proofs.written.push_numbers.Goals as goal

pub loop-number-init : goal.loop-number-init
loop-number-init c = (c.in-Some.first.now, c.in-Some.ensures.cases.0, c.in_ok-push_number.ensures)

pub loop-number-preserved : goal.loop-number-preserved
loop-number-preserved c =
    let inv = c.loop-number.invariant in (
      inv.0,
      inv.1,
      numbers_more c.args.line.now.items c.loop-number.line.items c.push.new.self.items
          c.push_number-in-loop-number.new.line.items inv.0 c.in-Some.more.now c.loop-number.number-index _
          c.loop-number-test.true refl inv.2 c.in_ok-push.ensures.items c.in_ok-push_number-2.ensures,
    )

pub returns : goal.returns
returns c =
    let inv = c.loop-number.invariant in
    rw inv.1
    (numbers_all c.args.line.now.items c.loop-number.line.items inv.0 c.in-Some.more.now c.loop-number.number-index
    c.loop-number-test.false inv.2)
