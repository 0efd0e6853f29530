-- Of parts that are added one after the other.
use Rattle.std.proofs.Common.{◌≡◌, ℕ, List, ◌++◌, ap, ◌∙◌, append_assoc}

pub three_added : (old one two three a b c : List ℕ) → one ≡ old ++ a → two ≡ one ++ b → three ≡ two ++ c → three ≡ old ++ (a ++ (b ++ c))
three_added old one two three a b c first second third =
    third ∙ ap (λ xs. xs ++ c) second ∙ ap (λ xs. (xs ++ b) ++ c) first
    ∙ append_assoc (old ++ a) b c ∙ append_assoc old a (b ++ c)
