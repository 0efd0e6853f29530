-- None of the lines so far stands there.
use Rattle.std.proofs.Common.{◌≢◌, ◌<◌, ℕ}
use Rattle.std.specs.List.{slice_get}
use Rattle.std.specs.Option.{IfSome}
use Rattle.dt_seat.specs.declared.line_kept.LineKept.{LineKept}
use Rattle.dt_seat.proofs.lines.number_of.Given as goal

abbrev pub invariant-lines : goal.invariant-lines
invariant-lines l = record {
  none : (n : ℕ) → n < l.number → IfSome (slice_get l.fn.lines.items n) (λ (line : LineKept). line.place ≢ l.fn.place);
}
