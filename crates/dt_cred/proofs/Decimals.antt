-- The number that digits read so far stand for, one digit further.
use Rattle.std.proofs.Common.{◌≡◌, ℕ, ◌+◌, ◌-◌, ◌*◌, ◌^◌, ◌<◌, ◌≤◌, List, length, get_or, take, Fits, lit<, arith, ap}
use Rattle.std.proofs.Common.{sym, ◌∙◌, add-one}
use Rattle.std.proofs.Math.Nat.{pow-le-pow_right, pow-succ'}
use Rattle.std.proofs.lemmas.List.Sums.{fold_more}
use Rattle.std.proofs.lemmas.List.Elements.{All-more}
use Rattle.std.specs.Int.{w128}
use Rattle.std.specs.List.{All}
use Rattle.dt_cred.specs.Class.{IsDigit, number_of}

-- with at most 28 digits it fits 128 bits
pub below_28_digits : (number i : ℕ) → number < 10 ^ i → i ≤ 27 → 10 * number + 9 < 10000000000000000000000000000
below_28_digits number i h few =
    let top : 10 ^ i ≤ 1000000000000000000000000000 = pow-le-pow_right (lit< tt) few in
    omega arith

pub fits_wide : (n : ℕ) → n < 10000000000000000000000000000 → Fits w128 n
fits_wide n h = omega arith

-- what the scan of a number knows at place i
pub record Scanned (digits : List ℕ) (i number : ℕ) : Type 0 where
  pub read : number ≡ number_of (take i digits)
  pub bounded : number < 10 ^ i
  pub each : All IsDigit (take i digits)

pub scanned_more : (digits : List ℕ) (i number : ℕ) → Scanned digits i number → i < length digits
    → IsDigit (get_or digits i 0) → Scanned digits (i + 1) (10 * number + (get_or digits i 0 - 48))
scanned_more digits i number s inside digit = record {
  read = ap (λ n. 10 * n + (get_or digits i 0 - 48)) s.read
      ∙ sym (fold_more (λ n d. 10 * n + (d - 48)) 0 digits i 0 inside);
  bounded =
      let power : 10 ^ (i + 1) ≡ 10 * 10 ^ i = ap (λ k. 10 ^ k) (add-one i) ∙ pow-succ' 10 i in
      rw power (omega (arith, s.bounded, digit.0, digit.1));
  each = All-more IsDigit digits i 0 inside s.each digit;
}
