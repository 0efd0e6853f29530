-- One seat more was asked.
use Rattle.std.proofs.Common.{◌≡◌, ◌∙◌, ◌*◌, ◌+◌, ◌<◌, sym, ap, subst, Bool, Some, None, ℕ, length, arith, rules, get_or-set_other, if◌then◌else◌}
use Rattle.std.proofs.lemmas.List.{get_or_default}
use Rattle.std.specs.Prelude.{slice_index_or, slice_set}
use Rattle.dt_machine.specs.BitWord.{has_bit}
use Rattle.dt_chain.specs.Kept.{life_shown}
use Rattle.dt_chain.proofs.Marking.{was_left}
use Rattle.dt_chain.proofs.Showing.{AreNamed, named_more, not_named}
use Rattle.dt_chain.proofs.entries.Entries.show.Goals as goal

pub loop-place-preserved-then-is_shown : goal.loop-place-preserved-then-is_shown
loop-place-preserved-then-is_shown c =
    let step = c.loop-place in
    let first = c.in-Some.ensures in
    let place = c.in-Some.place in
    let up = step.invariant.left place first.1 in
    let slots = c.args.self.now.slots in
    let life = c.in-Some-slots.slot.life in
    let at : c.number-number.result ≡ c.args.word * 64 + place = c.number-number.ensures.value ∙ c.at.ensures in
    let inside : c.number-number.result < length slots = search rules in
    let inside_lives : c.number-number.result < length step.mask.lives = search rules in
    let slot : slice_index_or slots (c.args.word * 64 + place) None ≡ Some c.in-Some-slots.slot =
    ap (λ (n : ℕ). slice_index_or slots n None) (sym at) ∙ (get_or_default slots c.number-number.result None c.index-self-number.result inside ∙ c.in-Some-slots.is) in
    record {
      left = λ k still. step.invariant.left k (was_left _ (has_bit step.left k) (sym (first.3 k) ∙ still));
      named = λ registry is.
          let shown = λ (seat : ℕ). life_shown registry c.args.context.now.firing.now (slice_index_or slots seat None) in
          subst (λ (n : ℕ). AreNamed c.args.word shown c.args.seats c.pop_first.new.self c.insert.new.self (slice_set step.mask.lives n life)) (sym at)
          (named_more c.args.word place shown c.args.seats step.left c.pop_first.new.self first.0 first.1 up first.3 step.named step.mask.lives
          (step.invariant.named registry is) life c.insert.new.self
          (ap (life_shown registry c.args.context.now.firing.now) slot
          ∙ ap (λ (b : Bool). if b then Some life else None) (sym (c.is_shown.ensures registry is) ∙ c.if-is_shown.true))
          (subst (λ (n : ℕ). n < length step.mask.lives) at inside_lives) c.insert.ensures);
      others = λ seat away.
          get_or-set_other step.mask.lives c.number-number.result seat life 0
          (λ e. away (let low = first.0 in omega (arith, e, at, low)))
          ∙ step.invariant.others seat away;
      same = step.invariant.same;
    }

pub loop-place-preserved-else-is_shown : goal.loop-place-preserved-else-is_shown
loop-place-preserved-else-is_shown c =
    let step = c.loop-place in
    let first = c.in-Some.ensures in
    let place = c.in-Some.place in
    let up = step.invariant.left place first.1 in
    let slots = c.args.self.now.slots in
    let life = c.in-Some-slots.slot.life in
    let at : c.number-number.result ≡ c.args.word * 64 + place = c.number-number.ensures.value ∙ c.at.ensures in
    let inside : c.number-number.result < length slots = search rules in
    let slot : slice_index_or slots (c.args.word * 64 + place) None ≡ Some c.in-Some-slots.slot =
    ap (λ (n : ℕ). slice_index_or slots n None) (sym at) ∙ (get_or_default slots c.number-number.result None c.index-self-number.result inside ∙ c.in-Some-slots.is) in
    record {
      left = λ k still. step.invariant.left k (was_left _ (has_bit step.left k) (sym (first.3 k) ∙ still));
      named = λ registry is.
          not_named c.args.word place _ c.args.seats step.left c.pop_first.new.self first.0 first.1 up first.3 step.named step.mask.lives
          (step.invariant.named registry is)
          (ap (life_shown registry c.args.context.now.firing.now) slot
          ∙ ap (λ (b : Bool). if b then Some life else None) (sym (c.is_shown.ensures registry is) ∙ c.if-is_shown.false));
      others = step.invariant.others;
      same = step.invariant.same;
    }

pub loop-place-preserved : goal.loop-place-preserved
loop-place-preserved c =
    let step = c.loop-place in
    let first = c.in-Some.ensures in
    let place = c.in-Some.place in
    let up = step.invariant.left place first.1 in
    let slots = c.args.self.now.slots in
    let at : c.number-number.result ≡ c.args.word * 64 + place = c.number-number.ensures.value ∙ c.at.ensures in
    let inside : c.number-number.result < length slots = search rules in
    let slot : slice_index_or slots (c.args.word * 64 + place) None ≡ None =
    ap (λ (n : ℕ). slice_index_or slots n None) (sym at) ∙ (get_or_default slots c.number-number.result None c.index-self-number.result inside ∙ c.in_default-slots.is) in
    record {
      left = λ k still. step.invariant.left k (was_left _ (has_bit step.left k) (sym (first.3 k) ∙ still));
      named = λ registry is.
          not_named c.args.word place _ c.args.seats step.left c.pop_first.new.self first.0 first.1 up first.3 step.named step.mask.lives
          (step.invariant.named registry is) (ap (life_shown registry c.args.context.now.firing.now) slot);
      others = step.invariant.others;
      same = step.invariant.same;
    }
