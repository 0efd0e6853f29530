-- What holds at each turn of a loop of `named_in`.
use Rattle.std.proofs.Common.{◌≢◌, ℕ, ◌<◌, Some}
use Rattle.std.specs.List.{HoldsAt}
use Rattle.dt_lang.specs.Word.{name_of_word}
use Rattle.dt_lang.specs.machine.KnownWord.{as_word}
use Rattle.dt_lang.proofs.word.KnownWord.named_in.Given as goal

abbrev pub invariant-loop-word : goal.invariant-loop-word
invariant-loop-word l = (k : ℕ) → k < l.word-index → HoldsAt (λ w. name_of_word (as_word w) ≢ Some l.name) l.words k
