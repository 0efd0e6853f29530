-- One thing more came, or nothing.
use Rattle.std.proofs.Common.{ℕ, [], length, take, sym, ap, ◌∙◌, arith}
use Rattle.std.specs.Global.{Vec}
use Rattle.std.proofs.lemmas.List.{append-nil, length-append}
use Rattle.dt_alone.specs.Happened.{all_to}
use Rattle.dt_buffer.specs.History.{since_swap}
use Rattle.dt_buffer.specs.laws.Histories.{since-put, since-swap}
use Rattle.dt_alone.proofs.Showing.{all_more, same_switch, switch_dropped, switch_kept, switch_nothing}
use Rattle.dt_alone.proofs.shown.switch.Goals as goal
use Rattle.dt_alone.proofs.shown.switch.Goals.{in-Put+then-more-size+in_ok-extend_from_slice-in-Put}
use Rattle.dt_alone.proofs.shown.switch.Goals.{in-Put+else-more-size, in-Snapped, in-Nothing}

pub loop-one-preserved : goal.loop-one-preserved
loop-one-preserved c =
    let size = c.args.size in
    let cpu = c.args.cpu in
    let hs = c.args.happened.now in
    let i = c.loop-one.one-index in
    let held = c.loop-one.invariant in
    let events = all_to cpu (take i hs) in
    let more = all_more cpu hs i c.one-item.result c.loop-one-test.true c.one-item.is in
    elim c.match-comes_to.branch [
      | in-Put+then-more-size+in_ok-extend_from_slice-in-Put w ↦
          let m = w.in-Put.more.now in
          let grown = ap (λ (v : Vec ℕ). v.items) w.bytes-is ∙ w.in_ok-extend_from_slice-in-Put.ensures.items in
          record {
            shows = same_switch size _ _ _ _ _ _
                (sym (ap since_swap (more _ w.in-Put.ensures) ∙ since-put events m w.in-Put.in_end))
                (sym grown) (sym w.drops-is)
                (switch_kept size (since_swap events) c.loop-one.bytes.items c.loop-one.drops held.shows m
                (omega (arith, w.if-more-size.true, w.len.ensures, held.within)));
            within = omega (
              arith,
              ap length grown,
              length-append c.loop-one.bytes.items m,
              w.if-more-size.true,
              w.len.ensures,
              held.within,
            );
            few = omega (arith, w.drops-is, held.few);
          }
      | in-Put+else-more-size w ↦
          let m = w.in-Put.more.now in
          let same = ap (λ (v : Vec ℕ). v.items) w.bytes-is in
          record {
            shows = same_switch size _ _ _ _ _ _
                (sym (ap since_swap (more _ w.in-Put.ensures) ∙ since-put events m w.in-Put.in_end))
                (sym same) (sym w.drops-is)
                (switch_dropped size (since_swap events) c.loop-one.bytes.items c.loop-one.drops held.shows m
                (omega (arith, w.if-more-size.false, w.len.ensures, held.within)));
            within = omega (arith, ap length same, held.within);
            few = omega (arith, w.drops-is, held.few);
          }
      | in-Snapped w ↦
          let none = ap (λ (v : Vec ℕ). v.items) w.bytes-is ∙ w.clear.ensures.items in
          record {
            shows = same_switch size _ _ _ _ _ _
                (sym (ap since_swap (more _ w.in-Snapped.ensures) ∙ since-swap events))
                (sym none) (sym w.drops-is) (switch_nothing size);
            within = omega (arith, ap length none);
            few = omega (arith, w.drops-is);
          }
      | in-Nothing w ↦
          let same = ap (λ (v : Vec ℕ). v.items) w.bytes-is in
          record {
            shows = same_switch size _ _ _ _ _ _
                (sym (ap since_swap (more [] w.in-Nothing.ensures ∙ append-nil events)))
                (sym same) (sym w.drops-is) held.shows;
            within = omega (arith, ap length same, held.within);
            few = omega (arith, w.drops-is, held.few);
          }
    ]
