-- No word has a number.
use Rattle.std.proofs.Common.{◌≡◌, ℕ, zero, suc, ◌/◌, ◌%◌, false, eqb, ap, get_or, replicate}
use Rattle.std.proofs.lemmas.Nat.Bits.{bit_at-zero}
use Rattle.dt_machine.specs.BitWord.{has_bit}
use Rattle.dt_machine.specs.declared.bit_word.BitWord.{BitWord}
use Rattle.dt_machine.proofs.interest.Interest.new.Goals as goal
use Rattle.dt_machine.specs.Limits.{interest_words, word_bits}

none_at : (n at k : ℕ) (word empty : BitWord) → has_bit word k ≡ false → has_bit empty k ≡ false
    → has_bit (get_or (replicate n word) at empty) k ≡ false
none_at zero at k word empty none past = past
none_at (suc n) zero k word empty none past = none
none_at (suc n) (suc at) k word empty none past = none_at n at k word empty none past

pub invariant_of-result : goal.invariant_of-result
invariant_of-result c = record {
  bounded = λ id far. none_at interest_words (id / word_bits) (id % word_bits) c.new.result _ (c.new.ensures (id % word_bits))
      (ap (λ b. eqb b 1) (bit_at-zero (id % word_bits)));
}

pub returns : goal.returns
returns c = λ id. none_at interest_words (id / word_bits) (id % word_bits) c.new.result _ (c.new.ensures (id % word_bits))
    (ap (λ b. eqb b 1) (bit_at-zero (id % word_bits)))
