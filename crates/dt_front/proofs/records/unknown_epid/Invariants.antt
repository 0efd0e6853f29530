-- What is left to look through: the same record is the first that isn't known.
use Rattle.std.proofs.Common.{ℕ, length, map}
use Rattle.dt_record.specs.Fields.{form_of_layout}
use Rattle.dt_front.specs.Unknown.{ComesUnknown}
use Rattle.dt_front.proofs.records.unknown_epid.Given as goal

abbrev pub invariant-loop-rest : goal.invariant-loop-rest
invariant-loop-rest l = record {
  there : (epid : ℕ) → ComesUnknown (map form_of_layout l.layouts) l.bytes epid → ComesUnknown (map form_of_layout l.layouts) l.rest epid;
  back : (epid : ℕ) → ComesUnknown (map form_of_layout l.layouts) l.rest epid → ComesUnknown (map form_of_layout l.layouts) l.bytes epid;
}

abbrev pub decreases-loop-rest : goal.decreases-loop-rest
decreases-loop-rest l = length l.rest
