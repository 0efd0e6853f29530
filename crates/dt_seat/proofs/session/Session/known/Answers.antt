-- What is to be shown of `known`.
use Rattle.std.proofs.Common.{◌≡◌, ◌≢◌, ℕ, List, Some, IfSome, IsSomeAnd, ap, ◌∙◌, subst}
use Rattle.std.specs.List.{slice_get}
use Rattle.dt_seat.specs.declared.line_kept.LineKept.{LineKept}
use Rattle.dt_seat.proofs.Kept.{known_line, no_line_missing}
use Rattle.dt_seat.proofs.session.Session.known.Goals as goal
use Rattle.dt_seat.proofs.session.Session.known.Goals.{in-Fired, in-Line+in-Some}

pub unreachable-requires : goal.unreachable-requires
unreachable-requires g c =
    let notebook = c.self.inside.notebook in
    let seen = c.in-Line.ensures.seen in
    let none = subst (λ (l : List LineKept). (n : ℕ) → IfSome (slice_get l n) (λ (line : LineKept). line.place ≢ c.args.k))
    c.self.invariant.1.own_lines c.in-None.ensures in
    no_line_missing notebook.note.knows c.args.k seen.0 seen.1 seen.2 none

pub returns-clause-item : goal.returns-clause-item
returns-clause-item g c =
    let notebook = c.self.inside.notebook in
    elim c.match-item.branch [
      | in-Fired w ↦
          let seen = w.in-Fired.ensures.seen in
          rw (w.result-is, ← c.self.view_is) (seen.1 ∙ ap Some seen.2)
      | in-Line+in-Some w ↦
          let has = subst (λ (l : List LineKept). IsSomeAnd (slice_get l w.in-Some.number) (λ (line : LineKept). line.place ≡ c.args.k))
          c.self.invariant.1.own_lines w.in-Some.ensures in
          rw (w.result-is, ← c.self.view_is) (known_line notebook.note.knows c.args.k w.in-Some.number has)
    ]
