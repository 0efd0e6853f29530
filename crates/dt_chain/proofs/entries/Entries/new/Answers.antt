-- Nothing is kept, and no list is there.
use Rattle.std.proofs.Common.{◌≡◌, ℕ, zero, suc, None, get_or, replicate, refl, sym, ◌∙◌}
use Rattle.std.proofs.lemmas.Bool.{false≢true}
use Rattle.dt_chain.proofs.entries.Entries.new.Goals as goal
use Rattle.dt_chain.specs.Limits.{seat_count}

copies : {A : Type 0} (count place : ℕ) (x : A) → get_or (replicate count x) place x ≡ x
copies zero place x = refl
copies (suc count) zero x = refl
copies (suc count) (suc place) x = copies count place x

pub returns : goal.returns
returns c = record {
  kept = λ seat. copies seat_count seat None;
  listed = λ probe seat. (λ e. absurd (false≢true (sym (c.new.ensures probe seat) ∙ e)), λ (e : ⊥). absurd e);
}
