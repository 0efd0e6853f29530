-- A line that was refused for memory is as one that never came.
use Rattle.std.proofs.Common.{◌≡◌, ℕ, List, ◌++◌, ap, ◌∙◌, append_assoc, subst}
use Rattle.dt_cred.specs.declared.account.Account.{Account}
use Rattle.dt_hub.specs.Asking.{IsLineAnswered}
use Rattle.dt_hub.specs.declared.answered.LineAnswer.{LineAnswer}
use Rattle.dt_hub.specs.declared.answered.LineAnswer.TheVariants as answers
use Rattle.dt_machine.specs.Registry.{Contents}
use Rattle.dt_seat.specs.Seats.{IsRepliedTo}
use Rattle.dt_seat.specs.Sessions.{Sat}
use Rattle.dt_seat.specs.declared.after_line.AfterLine.{AfterLine}
use Rattle.dt_trail.specs.Items.{StartsWith, TrailItem, own}
use Rattle.dt_hub.proofs.laws.refused_is_forgotten.Goals as goal

begins_with : (row mid known : List TrailItem) → StartsWith row mid → StartsWith mid known → StartsWith row known
begins_with row mid known a b =
    (b.0 ++ a.0, a.1 ∙ ap (λ (l : List TrailItem). l ++ a.0) b.1 ∙ append_assoc known b.0 a.0)

-- a reply that is due after what a session knows is due after what it knew before, where it has no further line since
replied_before : (contents : Contents) (account other : Account) (known mid : List TrailItem) (item : TrailItem) (text : List ℕ) (ending : AfterLine)
    (after : List TrailItem) → other ≡ account → StartsWith mid known → own 0 mid ≡ own 0 known
    → IsRepliedTo contents other mid item text ending after → IsRepliedTo contents account known item text ending after
replied_before contents account other known mid item text ending after same longer lines h =
    let here : IsRepliedTo contents account mid item text ending after =
    subst (λ (a : Account). IsRepliedTo contents a mid item text ending after) same h in
    record {
      trail = here.trail;
      begins = begins_with here.trail mid known here.begins longer;
      lines = here.lines ∙ lines;
      legal = here.legal;
      due = here.due;
      after_is = here.after_is;
      ending_is = here.ending_is;
    }

forgotten : (contents : Contents) (before between after : Sat) (refused item : TrailItem) (answer : LineAnswer)
    → between.account ≡ before.account → IsLineAnswered contents before refused answers.Memory between
    → IsLineAnswered contents between item answer after → IsLineAnswered contents before item answer after
forgotten contents before between after refused item (answers.Reply text) same r h =
    replied_before contents before.account between.account before.knows between.knows item text.items _ after.knows same r.0 r.1 h
forgotten contents before between after refused item (answers.Closed text) same r h =
    replied_before contents before.account between.account before.knows between.knows item text.items _ after.knows same r.0 r.1 h
forgotten contents before between after refused item (answers.Quota text) same r h =
    replied_before contents before.account between.account before.knows between.knows item text.items _ after.knows same r.0 r.1 h
forgotten contents before between after refused item answers.Memory same r h =
    (begins_with after.knows between.knows before.knows h.0 r.0, h.1 ∙ r.1)

pub returns : goal.returns
returns c = forgotten
