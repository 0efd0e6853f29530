-- What was served is a legal trail whose lines end at an accepted `close`, which is the seen view of a session.
use Rattle.std.proofs.Common.{◌≡◌, map, ap, sym, ◌∙◌}
use Rattle.dt_legal.specs.Rows.{past_of, told_as}
use Rattle.dt_proto.specs.Reply.{reply_text}
use Rattle.dt_proto.specs.Told.{view_by}
use Rattle.dt_proto.specs.laws.Views.{one_alone}
use Rattle.dt_server.specs.Served.{woven}
use Rattle.dtraced.proofs.Views.{has_served_ends}
use Rattle.dtraced.proofs.laws.served_trails_are_views.Goals as goal

pub returns : goal.returns
returns c = record {
  views = λ contents name account how lines items text known right served.
      let ends = has_served_ends account contents how lines items text served in
      c.trail_is_view.ensures contents name account (past_of items) known right ends.0 ends.1;
  told = λ contents account lines items text steps seat n told served seen replies.
      let view = view_by contents (map told_as items) in
      let own = c.trail_is_told.ensures.alone contents.registry steps seat n account view told seen replies in
      let same : own.0 ≡ served.answers =
      one_alone c.one_reply.ensures account contents.registry view own.0 served.answers own.1 served.alone in
      (served.taken, served.each, served.own_lines, served.text_is ∙ ap (woven served.taken) (sym (own.2 ∙ ap (map reply_text) same)));
  told_closed = λ contents account lines items text steps seat n told closed seen replies.
      let view = view_by contents (map told_as items) in
      let own = c.trail_is_told.ensures.alone contents.registry steps seat n account view told seen replies in
      let w = c.closed_is_woven.ensures account contents lines items text closed in
      let same : own.0 ≡ w.3 = one_alone c.one_reply.ensures account contents.registry view own.0 w.3 own.1 w.4 in
      (w.0, w.1, w.2, w.5 ∙ ap (woven w.0) (sym (own.2 ∙ ap (map reply_text) same)));
}
