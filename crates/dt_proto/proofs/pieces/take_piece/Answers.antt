-- The bytes that a feed took add their line, if they have one.
use Rattle.std.proofs.Common.{◌≡◌, ◌++◌, take, map, ap, sym, ◌∙◌, append_assoc}
use Rattle.dt_proto.specs.Asked.{form_asked}
use Rattle.dt_proto.specs.HasRead.{form_held, line_given}
use Rattle.dt_proto.specs.Lines.{lines_of}
use Rattle.dt_proto.proofs.Giving.{given_line, given_none, read_on}
use Rattle.dt_proto.proofs.pieces.take_piece.Goals as goal
use Rattle.dt_proto.proofs.pieces.take_piece.Goals.{then-fed+in_ok-to_asked+in_ok-push, else-fed}
use Rattle.dt_proto.specs.laws.Taken.{left_of_piece}

pub loop-rest-preserved : goal.loop-rest-preserved
loop-rest-preserved c =
    let before = c.loop-rest.invariant in
    let given_before = c.loop-rest.asked.items in
    let given_now = c.if-fed.asked.items in
    let form = form_held c.feed-fed.new.self in
    let whole = c.feed-fed.result.whole in
    let bytes = take c.feed-fed.result.used c.loop-rest.rest.now in (
      before.0 ++ bytes,
      left_of_piece c.args.piece.now before.0 c.loop-rest.rest.now c.feed-fed.result.used before.1,
      λ input read given.
          let told = before.2 input read given in
          let lines : map form_asked given_now ≡ lines_of (input ++ before.0) ++ line_given whole form =
          elim c.if-fed.branch [
            | then-fed+in_ok-to_asked+in_ok-push w ↦
                given_line given_before given_now w.in_ok-to_asked.field-0 (lines_of (input ++ before.0)) form whole
                w.if-fed.true
                (ap (λ asked. asked.items) w.asked-is ∙ w.in_ok-push.ensures.items)
                (w.in_ok-to_asked.ensures ∙ w.line.ensures.held) told.1
            | else-fed w ↦
                given_none given_before given_now (lines_of (input ++ before.0)) form whole w.if-fed.false
                (ap (λ asked. asked.items) w.asked-is) told.1
          ] in (
            read_on input before.0 bytes c.feed-fed.new.self (c.feed-fed.ensures.stands (input ++ before.0) told.0),
            lines ∙ sym (c.feed-fed.ensures.lines (input ++ before.0) told.0)
                ∙ ap lines_of (append_assoc input before.0 bytes),
          ),
    )
