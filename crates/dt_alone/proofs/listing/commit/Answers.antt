-- The part of one processor more.
use Rattle.std.proofs.Common.{◌==◌, length, ap, sym, ◌∙◌, arith}
use Rattle.std.specs.Global.{Vec}
use Rattle.dt_alone.specs.declared.happened.Happened.{Happened}
use Rattle.dt_alone.specs.Happened.{left_count, told_both, told_on}
use Rattle.dt_alone.specs.declared.happened.Happened.TheVariants.{Committed}
use Rattle.dt_life.specs.Takings.{part_out}
use Rattle.dt_record.specs.Taking.{committed}
use Rattle.dt_speculation.specs.Parts.{part_bytes}
use Rattle.dt_speculation.specs.laws.Parts.{part_is}
use Rattle.dt_alone.proofs.Bringing.{left_more, told_more, told_one}
use Rattle.dt_alone.proofs.ListSteps.{part_none, part_step, parts_none}
use Rattle.dt_alone.proofs.listing.commit.Goals as goal
use Rattle.dt_alone.proofs.listing.commit.Goals.{then-not-is_empty+in_ok-part+in_ok-push, else-not-is_empty}

pub loop-cpu-init : goal.loop-cpu-init
loop-cpu-init c = record {
  told = λ past at on. parts_none c.args.in_end (told_on on c.args.happened.now.items) on (part_out on past (committed c.args.id));
  left = omega arith;
}

pub loop-cpu-preserved : goal.loop-cpu-preserved
loop-cpu-preserved c =
    let old = c.loop-cpu.happened.items in
    elim c.if-not-is_empty.branch [
      | then-not-is_empty+in_ok-part+in_ok-push w ↦ record {
        told = λ past at on.
            let x = Committed c.loop-cpu.cpu c.args.in_end w.in_ok-part.part in
            ap (λ (v : Vec Happened). told_on on v.items) w.happened-is ∙ ap (told_on on) w.in_ok-push.ensures.items ∙ told_more on old x
            ∙ ap (λ t. told_both t (told_one on x)) (c.loop-cpu.invariant.told past at on)
            ∙ part_step c.args.in_end past c.args.id (told_on on c.args.happened.now.items) on c.loop-cpu.cpu w.in_ok-part.part
            (w.in_ok-part.ensures.items ∙ c.one_part.ensures.one past c.args.id c.loop-cpu.cpu c.part-part.result.now
            (part_bytes past c.args.id c.loop-cpu.cpu) (c.part-part.ensures past at) (part_is past c.args.id c.loop-cpu.cpu))
            (ap (λ bytes. length bytes == 0) w.in_ok-part.ensures.items ∙ sym c.is_empty.ensures ∙ w.if-not-is_empty.true);
        left = omega (arith, ap (λ (v : Vec Happened). left_count v.items) w.happened-is, ap left_count w.in_ok-push.ensures.items, left_more old (Committed c.loop-cpu.cpu c.args.in_end w.in_ok-part.part), c.loop-cpu.invariant.left);
      }
      | else-not-is_empty w ↦ record {
        told = λ past at on.
            ap (λ (v : Vec Happened). told_on on v.items) w.happened-is ∙ c.loop-cpu.invariant.told past at on
            ∙ part_none c.args.in_end past c.args.id (told_on on c.args.happened.now.items) on c.loop-cpu.cpu c.part-part.result.now
            (c.one_part.ensures.one past c.args.id c.loop-cpu.cpu c.part-part.result.now
            (part_bytes past c.args.id c.loop-cpu.cpu) (c.part-part.ensures past at) (part_is past c.args.id c.loop-cpu.cpu))
            (sym c.is_empty.ensures ∙ w.if-not-is_empty.false);
        left = omega (arith, ap (λ (v : Vec Happened). left_count v.items) w.happened-is, c.loop-cpu.invariant.left);
      }
    ]
