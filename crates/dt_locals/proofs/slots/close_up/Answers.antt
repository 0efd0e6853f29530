-- What moves into the hole leaves the next one, and what stays has its home after it.
use Rattle.std.proofs.Common.{◌≡◌, ◌+◌, ◌<◌, ◌≤◌, length, sym, ap, ◌∙◌, subst, arith}
use Rattle.std.specs.Prelude.{◌≢◌, pos}
use Rattle.std.proofs.lemmas.Bool.{false≢true}
use Rattle.std.proofs.lemmas.List.{get_or_default}
use Rattle.std.proofs.lemmas.List.Sorted.{sum_by-IsPermutation}
use Rattle.dt_locals.specs.Hash.{home_in}
use Rattle.dt_locals.specs.Slots.{free_slot, slot_at, value_at, local_at, taken_count, HasValue, AreHashedBut}
use Rattle.dt_locals.specs.declared.slots.LocalSlot.{LocalSlot}
use Rattle.dt_locals.proofs.Hashing.{IsTaken, Counted}
use Rattle.dt_locals.proofs.Closing.{AllStay, none_stay, one_stays, moved_free, moved_hashed, moved_values}
use Rattle.dt_locals.proofs.slots.close_up.Goals as goal
use Rattle.dt_locals.proofs.slots.close_up.Goals.{then-home-gap, else-home-gap}

pub loop-place-preserved : goal.loop-place-preserved
loop-place-preserved c =
    let home = home_in c.args.beginnings in
    let slots = c.loop-place.slots in
    let gap = c.loop-place.gap in
    let place = c.loop-place.place in
    let so_far = c.loop-place.invariant in
    let lt : place < length slots = omega (arith, c.loop-place-test.true, c.loop-place.auto.slots) in
    let slot_is : slot_at slots place ≡ c.index-slots-place.result =
    get_or_default slots place free_slot c.index-slots-place.result lt ∙ sym c.index-slots-place.is in
    let there : IsTaken c.index-slots-place.result = λ none. false≢true (sym c.if-is_free.false ∙ c.is_free.ensures.1 none) in
    let taken : value_at slots place ≢ pos 0 = subst IsTaken (sym slot_is) there in
    let home_is : c.home.result ≡ home (local_at slots place) =
    c.home.ensures ∙ sym (ap (λ (s : LocalSlot). home s.variable) slot_is) in
    elim c.if-home-gap.branch [
      | then-home-gap w ↦ (
          let now = c.if-home-gap.slots in
          let swapped = w.swap.ensures.by_index in
          let at_hole : slot_at now gap ≡ slot_at slots place = ap (λ xs. slot_at xs gap) w.slots-is ∙ swapped.0 free_slot in
          let at_place : slot_at now place ≡ slot_at slots gap = ap (λ xs. slot_at xs place) w.slots-is ∙ swapped.1 free_slot in
          let fits : home (local_at slots place) ≤ gap = omega (arith, w.if-home-gap.true, home_is) in
          record {
            order = omega (arith, w.gap-is);
            within = omega (arith, w.gap-is, lt, ap length w.slots-is, w.swap.ensures.len);
            hashed = subst (λ n. AreHashedBut home now n) (sym w.gap-is)
                (moved_hashed home slots now gap place so_far.order at_hole at_place
                (λ k n m. ap (λ xs. slot_at xs k) w.slots-is ∙ swapped.2 k free_slot n m) so_far.free taken so_far.hashed
                fits);
            free = ap (λ n. value_at now n) w.gap-is
                ∙ moved_free home slots now gap place so_far.order at_hole at_place
                (λ k n m. ap (λ xs. slot_at xs k) w.slots-is ∙ swapped.2 k free_slot n m) so_far.free taken;
            stay = none_stay home now c.if-home-gap.gap (place + 1) (omega (arith, w.gap-is));
            values = λ variable value has.
                moved_values home slots now gap place so_far.order at_hole at_place
                (λ k n m. ap (λ xs. slot_at xs k) w.slots-is ∙ swapped.2 k free_slot n m) so_far.free taken
                variable value (so_far.values variable value has);
            taken = ap taken_count w.slots-is
                ∙ sum_by-IsPermutation Counted slots w.swap.new.self w.swap.ensures.permutation ∙ so_far.taken;
            long = ap length w.slots-is ∙ w.swap.ensures.len ∙ so_far.long;
          })
      | else-home-gap w ↦ (
          let now = c.if-home-gap.slots in
          let after : gap < home (local_at slots place) = omega (arith, w.if-home-gap.false, home_is) in
          record {
            order = omega (arith, w.gap-is, so_far.order);
            within = omega (arith, w.gap-is, so_far.within, ap length w.slots-is);
            hashed = subst (λ n. AreHashedBut home now n) (sym w.gap-is)
                (subst (λ xs. AreHashedBut home xs gap) (sym w.slots-is) so_far.hashed);
            free = ap (λ n. value_at now n) w.gap-is ∙ ap (λ xs. value_at xs gap) w.slots-is ∙ so_far.free;
            stay = subst (λ n. AllStay home now n (place + 1)) (sym w.gap-is)
                (subst (λ xs. AllStay home xs gap (place + 1)) (sym w.slots-is)
                (one_stays home slots gap place so_far.stay after));
            values = λ variable value has. subst (λ xs. HasValue xs variable value) (sym w.slots-is)
                (so_far.values variable value has);
            taken = ap taken_count w.slots-is ∙ so_far.taken;
            long = ap length w.slots-is ∙ so_far.long;
          })
    ]
