-- What a session and a processor that met have in common.
use Rattle.std.proofs.Common.{List, sym, subst}
use Rattle.std.specs.Prelude.{◌↔◌}
use Rattle.dt_hub.proofs.laws.meeting_is_complete.Goals as goal
use Rattle.dt_hub.specs.Meetings.{HaveMet}
use Rattle.dt_hub.specs.Processors.{Processing, counts_at}
use Rattle.dt_legal.specs.Rows.{IsLegalRow, past_of}
use Rattle.dt_life.specs.Answer.{Answer}
use Rattle.dt_machine.specs.Registry.{Contents}
use Rattle.dt_meeting.specs.laws.Answering as laws
use Rattle.dt_meeting.specs.laws.Skipping.{told_skips_none}
use Rattle.dt_proto.specs.Alone.{Alone}
use Rattle.dt_proto.specs.Told.{view_told}
use Rattle.dt_seat.specs.Sessions.{Sat}
use Rattle.dt_trail.specs.Items.{TrailItem}

replied : (contents : Contents) (old new : Sat) (before after : Processing) (answers : List Answer) → (met : HaveMet contents old new before after)
    → Alone new.account contents.registry (view_told contents (past_of met.row)) answers
    ↔ Alone new.account contents.registry (view_told contents (past_of new.knows)) answers
replied contents old new before after answers met =
    let legal = subst (IsLegalRow new.account contents) (sym met.shared.seen) met.session.legal in
    subst (λ (trail : List TrailItem). Alone new.account contents.registry (view_told contents (past_of met.row)) answers
    ↔ Alone new.account contents.registry (view_told contents (past_of trail)) answers) met.shared.seen
    (laws.answered_alike new.account contents met.row answers legal)

pub returns : goal.returns
returns c = record {
  replies = replied;
  complete = λ contents old new before after place count earlier item firing met on begins mine go knew within found belongs shown enabled.
      told_skips_none new.account contents after.cpu new.knows (counts_at new.seat after.log new.life) met.row place count earlier item firing met.shared
      met.session.legal on begins mine go knew within found belongs shown enabled;
}
