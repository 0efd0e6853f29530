-- What the proof of `left_is_limited` is told at its goals.
use Rattle.dt_record.specs.laws.Within.{layout_short, values_few, written_within}
use Rattle.dt_record.proofs.Greatest.{greatest_record, most_values}
use Rattle.dt_record.proofs.laws.left_is_limited.Goals as goal

pub returns-clause-record : goal.returns-clause-record
returns-clause-record c = layout_short

pub returns-clause-values : goal.returns-clause-values
returns-clause-values c = values_few

pub returns-clause-written : goal.returns-clause-written
returns-clause-written c = written_within

pub returns-clause-greatest_record : goal.returns-clause-greatest_record
returns-clause-greatest_record c = greatest_record

pub returns-clause-most_values : goal.returns-clause-most_values
returns-clause-most_values c = most_values
