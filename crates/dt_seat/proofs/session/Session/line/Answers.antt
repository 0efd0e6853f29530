-- What is to be shown of `line`.
use Rattle.std.proofs.Common.{◌≡◌, ◌<◌, ◌≤◌, List, Some, length, ap, sym, ◌∙◌, arith}
use Rattle.std.proofs.lemmas.Option.{slice_get_read}
use Rattle.std.specs.List.{slice_get}
use Rattle.dt_seat.specs.declared.line_kept.LineKept.{LineKept}
use Rattle.dt_seat.proofs.Kept.{line_at, lines_count}
use Rattle.dt_seat.proofs.session.Session.line.Goals as goal
use Rattle.dt_trail.specs.Items.{own}

pub returns-then-number-len : goal.returns-then-number-len
returns-then-number-len g c =
    let notebook = c.self.inside.notebook in
    let count = lines_count 0 notebook.note.knows in
    let kept = ap length c.self.invariant.1.own_lines in
    let few : length (own 0 notebook.note.knows) ≤ c.args.number =
    omega (arith, c.if-number-len.true, c.len.ensures, notebook.lines.ok.0, kept, count) in
    rw (← c.self.view_is) few

pub returns : goal.returns
returns g c =
    let notebook = c.self.inside.notebook in
    let within : c.args.number < notebook.lines.len = omega (arith, c.if-number-len.false, c.len.ensures) in
    let line = c.index.result.now in
    let read : slice_get notebook.lines.items c.args.number ≡ Some line =
    slice_get_read notebook.lines.items notebook.lines.len c.args.number line notebook.lines.ok.0 within c.index.ensures in
    let kept = ap (λ (l : List LineKept). slice_get l c.args.number) (sym c.self.invariant.1.own_lines) ∙ read in
    rw (← c.self.view_is)
    ((line_at 0 notebook.note.knows c.args.number line kept).own_is ∙ ap Some (sym c.kind.ensures))
