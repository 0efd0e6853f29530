-- What the proof of `one_answer` is told at its goals.
use Rattle.dt_glob.specs.laws.Readings.{reading_of-spelled, reading_of-fault}
use Rattle.dt_glob.specs.laws.Places.{answer}
use Rattle.dt_glob.proofs.pattern.one_answer.Goals as goal

pub returns-clause-some : goal.returns-clause-some
returns-clause-some c = answer

pub returns-clause-one_pattern : goal.returns-clause-one_pattern
returns-clause-one_pattern c text a b h k =
    let e = reading_of-spelled text a h in
    let f = reading_of-spelled text b k in
    cc

pub returns-clause-one_fault : goal.returns-clause-one_fault
returns-clause-one_fault c text a b h k =
    let e = reading_of-fault text a h in
    let f = reading_of-fault text b k in
    cc

pub returns-clause-never_both : goal.returns-clause-never_both
returns-clause-never_both c text items fault h k =
    let e = reading_of-spelled text items h in
    let f = reading_of-fault text fault k in
    cc
