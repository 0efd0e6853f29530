-- The line goes on, and ends where a newline came.
use Rattle.std.proofs.Common.{◌≡◌, false, ◌++◌, ap, ◌∙◌, inl, inr}
use Rattle.std.proofs.Math.Seq.{take-length}
use Rattle.dt_proto.specs.Lines.{line_form, lines_of, rest_of}
use Rattle.dt_proto.specs.HasRead.{form_held, is_whole}
use Rattle.dt_proto.proofs.Feeding.{begun, fed_line, fed_more, lines-more}
use Rattle.dt_proto.proofs.lines.Lines.feed.Goals as goal
use Rattle.dt_proto.proofs.lines.Lines.feed.Goals.{then-self, else-self}

pub returns-in-Some-clause-stands : goal.returns-in-Some-clause-stands
returns-in-Some-clause-stands c = λ input read.
    let begins : form_held c.if-self.self ≡ line_form (rest_of input) =
    begun input c.args.self.now c.if-self.self read (elim c.if-self.branch [
      | then-self w ↦ inl (w.if-self.true, ap form_held w.self-is ∙ w.begin_line.ensures.held)
      | else-self w ↦ inr (w.if-self.false, w.self-is)
    ]) in
    let fed = fed_line input c.args.piece.now c.in-Some.at _ c.in-Some.ensures.within c.in-Some.ensures.found
    (c.keep.ensures.held (rest_of input) begins) in
    record { earlier = lines_of input; last = fed.0; nothing_after = fed.1 }

pub returns-in-Some-clause-lines : goal.returns-in-Some-clause-lines
unfolding returns-in-Some-clause-stands
returns-in-Some-clause-lines c = λ input read. (returns-in-Some-clause-stands c input read).last

pub returns-in-None-clause-stands : goal.returns-in-None-clause-stands
returns-in-None-clause-stands c = λ input read.
    let begins : form_held c.if-self.self ≡ line_form (rest_of input) =
    begun input c.args.self.now c.if-self.self read (elim c.if-self.branch [
      | then-self w ↦ inl (w.if-self.true, ap form_held w.self-is ∙ w.begin_line.ensures.held)
      | else-self w ↦ inr (w.if-self.false, w.self-is)
    ]) in
    let open_line : is_whole c.if-self.self ≡ false =
    elim c.if-self.branch [
      | then-self w ↦ ap is_whole w.self-is ∙ w.begin_line.ensures.whole
      | else-self w ↦ ap is_whole w.self-is ∙ w.if-self.false
    ] in
    fed_more input c.args.piece.now c.keep-in-None.new.self c.in-None.ensures.none
    (c.keep-in-None.ensures.whole ∙ open_line) (c.keep-in-None.ensures.held (rest_of input) begins)

pub returns-in-None-clause-lines : goal.returns-in-None-clause-lines
returns-in-None-clause-lines c = λ input read.
    ap (λ bytes. lines_of (input ++ bytes)) (take-length c.args.piece.now)
    ∙ lines-more input c.args.piece.now c.in-None.ensures.none
