-- What a session's seen view never has.
use Rattle.dt_steps.proofs.Closing.{only_seen, ends_at_close}
use Rattle.dt_steps.proofs.laws.no_other_view.Goals as goal

pub returns : goal.returns
returns c = record { seen = only_seen; ends = ends_at_close }
