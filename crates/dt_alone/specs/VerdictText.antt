-- How a verdict is written.
use Rattle.std.specs.Prelude.{ℕ, List, ◌++◌, codes, decimal}
use Rattle.dt_alone.specs.declared.verdict.Verdict.{Verdict}
use Rattle.dt_alone.specs.declared.verdict.Verdict.TheVariants.{Agree, Differs, Illegal}

abbrev pub verdict_text : Verdict → List ℕ
verdict_text (Agree replies) = codes "agree " ++ decimal replies
verdict_text (Differs reply) = codes "differs at " ++ decimal reply
verdict_text (Illegal item) = codes "illegal at " ++ decimal item
