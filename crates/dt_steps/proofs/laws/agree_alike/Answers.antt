-- Equal seen views are answered alike.
use Rattle.std.proofs.Common.{◌≡◌, sym, ◌∙◌}
use Rattle.dt_proto.specs.Views.{seen_view}
use Rattle.dt_proto.specs.laws.Accounts.{same_seen_view, same_alone}
use Rattle.dt_proto.specs.laws.Views.{alike}
use Rattle.dt_steps.proofs.laws.agree_alike.Goals as goal

pub returns : goal.returns
returns c = λ registry steps others seat n other_seat other_n a b is_a is_b uid privs views answers other_answers h k.
    let seen : seen_view b.account registry a.view ≡ seen_view b.account registry b.view =
    sym (same_seen_view a.account b.account uid privs registry a.view) ∙ views in
    alike c.one_reply.ensures b.account registry a.view b.view answers other_answers seen
    (same_alone a.account b.account uid privs registry a.view answers h) k
