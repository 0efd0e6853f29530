-- What is to be shown of `judge`.
use Rattle.std.proofs.Common.{◌+◌, ◌<◌, [], length, get_or, take, drop, reverse, sym, ap, arith}
use Rattle.dt_alone.specs.Lent.{form_of_lent, forms_of_lent}
use Rattle.dt_alone.specs.declared.lent_item.LentItem.{LentItem}
use Rattle.dt_alone.specs.declared.lent_item.LentItem.TheVariants.{Line}
use Rattle.dt_alone.proofs.SoFar.{so_far_more, cut_here, length_so_far}
use Rattle.dt_alone.proofs.checking.judge.Goals as goal

-- what stands past the last item, for a proof
abbrev past_end : LentItem
past_end = Line (record { ref_ptr = (0, 0); now = [] }) (record { ref_ptr = (0, 0); now = [] })

pub loop-index-init : goal.loop-index-init
loop-index-init c = record { agreed = tt; after = c.new-judge.ensures c.args.machine.now }

pub loop-index-preserved : goal.loop-index-preserved
loop-index-preserved c =
    let items = c.args.items.now in
    let here = c.loop-index.index in
    let before = c.loop-index.invariant in
    let within : here < length items = omega arith in
    let ruling = rw c.in-Right.is at (c.in_ok-take.ensures c.args.account.now
    (reverse (forms_of_lent (take here items))) before.after) in
    let more = so_far_more form_of_lent items here past_end within in
    record { agreed = rw more (before.agreed, ruling.0, ruling.1); after = rw more ruling.2 }

pub returns-in-Wrong : goal.returns-in-Wrong
returns-in-Wrong c =
    let items = c.args.items.now in
    let here = c.loop-index.index in
    let before = c.loop-index.invariant in
    let within : here < length items = omega arith in
    let ruling = rw c.in-Wrong.is at (c.in_ok-take.ensures c.args.account.now
    (reverse (forms_of_lent (take here items))) before.after) in (
      forms_of_lent (take here items),
      forms_of_lent (drop (here + 1) items),
      form_of_lent (get_or items here past_end),
      cut_here form_of_lent items here past_end within,
      before.agreed,
      ruling.0,
      ruling.1,
      ap (λ n. n + 1) c.replies_in.ensures.count,
    )

pub returns-in-OutOfPlace : goal.returns-in-OutOfPlace
returns-in-OutOfPlace c =
    let items = c.args.items.now in
    let here = c.loop-index.index in
    let before = c.loop-index.invariant in
    let within : here < length items = omega arith in
    let ruling = rw c.in-OutOfPlace.is at (c.in_ok-take.ensures c.args.account.now
    (reverse (forms_of_lent (take here items))) before.after) in
    let so_far = length_so_far form_of_lent items here within in (
      forms_of_lent (take here items),
      forms_of_lent (drop (here + 1) items),
      form_of_lent (get_or items here past_end),
      cut_here form_of_lent items here past_end within,
      before.agreed,
      ruling,
      ap (λ n. n + 1) (sym so_far),
    )
