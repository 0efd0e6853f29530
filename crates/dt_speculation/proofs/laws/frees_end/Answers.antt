-- What a free ends.
use Rattle.std.proofs.Common.{◌++◌, ◌∷◌, [], sym}
use Rattle.dt_speculation.specs.History.{free}
use Rattle.dt_speculation.specs.laws.Steps.{free_own, free_records, free_use, records_unused}
use Rattle.dt_speculation.proofs.laws.frees_end.Goals as goal

pub returns-clause-ended : goal.returns-clause-ended
returns-clause-ended c = λ events id.
    (free_own id events, (λ cpu. records_unused id cpu (events ++ free id ∷ []) (free_own id events)))

pub returns-clause-others : goal.returns-clause-others
returns-clause-others c = λ events other id ne.
    (free_use id events other (λ e. ne (sym e)), (λ cpu. free_records id events other cpu (λ e. ne (sym e))))
