-- Private to the proofs.
-- What contracts see of the kinds of statements.
use Rattle.dt_lang.specs.declared.kind.Kind.{Kind}
use Rattle.dt_lang.specs.declared.kind.Kind.TheVariants as kind
use Rattle.dt_program.specs.Kinds.{StatementKind, recording, speculating, committing, irrevocable, unrestricted}

abbrev pub kind_form : Kind → StatementKind
kind_form kind.Recording = recording
kind_form kind.Speculating = speculating
kind_form kind.Committing = committing
kind_form kind.Irrevocable = irrevocable
kind_form kind.Unrestricted = unrestricted
