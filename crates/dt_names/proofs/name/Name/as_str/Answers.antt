-- What the proof of `Name::as_str` is told at its goals.
use Rattle.dt_names.proofs.Names.{name_text}
use Rattle.dt_names.proofs.name.Name.as_str.Goals as goal

pub unreachable-requires : goal.unreachable-requires
unreachable-requires c = c.in-Err.ensures.cases.0 (name_text _ _ c.as_bytes.ensures.value c.as_bytes.ensures.name)
