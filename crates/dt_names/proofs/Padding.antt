-- Cells whose front was written over.
use Rattle.std.proofs.Common.{◌≡◌, ℕ, ◌≤◌, ◌++◌, List, length, drop, replicate, sym, ◌∙◌, ap, arith}
use Rattle.std.proofs.lemmas.List.{length-append, length-replicate, drop-replicate}
use Rattle.std.proofs.Math.Seq.{drop-append_seam}
use Rattle.dt_names.specs.ShortText.{IsPadded}

drop_front : (xs ys : List ℕ) (n : ℕ) → length xs ≡ n → drop n (xs ++ ys) ≡ ys
drop_front xs ys n e = ap (λ m. drop m (xs ++ ys)) (sym e) ∙ drop-append_seam xs ys

pub padded_by : (front : List ℕ) (len : ℕ) → length front ≡ len → len ≤ 31
    → IsPadded (front ++ drop len (replicate 32 0)) len
padded_by front len h short = record {
  short = short;
  full = rw (length-append, drop-replicate, length-replicate) (omega arith);
  zeros = drop_front front (drop len (replicate 32 0)) len h ∙ drop-replicate len 32 0;
}
