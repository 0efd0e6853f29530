-- What is named with the same lives is the same.
use Rattle.std.proofs.Common.{◌≡◌, ◌↔◌, ℕ, Option, Some, None, refl, sym}
use Rattle.dt_chain.proofs.laws.one_look.Goals as goal

same : (some other : Option ℕ) → ((life : ℕ) → (some ≡ Some life) ↔ (other ≡ Some life)) → some ≡ other
same None None h = refl
same None (Some life) h = (h life).1 refl
same (Some life) other h = sym ((h life).0 refl)

pub returns : goal.returns
returns c = λ registry writes firing some other a b seat.
    same (some seat) (other seat) (λ life. (
      λ e. (b.exactly seat life).1 ((a.exactly seat life).0 e),
      λ e. (a.exactly seat life).1 ((b.exactly seat life).0 e),
    ))
