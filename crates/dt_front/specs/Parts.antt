-- Parts of texts.
use Rattle.std.specs.Prelude.{ℕ, ◌+◌, ◌==◌, List, drop, take}
use Rattle.std.specs.List.{position_or_len}

-- what stands before the first such byte; all, where there is none
abbrev pub before_byte : ℕ → List ℕ → List ℕ
before_byte byte bytes = take (position_or_len (λ b. b == byte) bytes) bytes

-- what stands after the first such byte; nothing, where there is none
abbrev pub after_byte : ℕ → List ℕ → List ℕ
after_byte byte bytes = drop (position_or_len (λ b. b == byte) bytes + 1) bytes
