use Rattle.dt_facts.proofs.Keeping.{starts}
use Rattle.dt_facts.proofs.word.Facts.new.Goals as goal

pub of_words-requires : goal.of_words-requires
of_words-requires c = starts _
