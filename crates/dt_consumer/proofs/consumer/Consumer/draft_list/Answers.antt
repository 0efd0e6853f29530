-- The reply of a `list` is told, and changes nothing.
use Rattle.std.proofs.Common.{Ok, refl, subst}
use Rattle.dt_cred.specs.declared.account.Account.{Account}
use Rattle.dt_life.specs.Answer.{answer_of}
use Rattle.dt_life.specs.Ask.{list, description_of}
use Rattle.dt_life.specs.Reply.{RepliesInQuota}
use Rattle.dt_consumer.proofs.DraftLemmas.{counted_draft}
use Rattle.dt_consumer.proofs.consumer.Consumer.draft_list.Goals as goal

pub returns-clause-drafted : goal.returns-clause-drafted
returns-clause-drafted c = λ account life m.
    let registry = c.args.machine.now.registry in
    let ask = list (description_of c.args.text.now) in
    let reply = c.in_ok-reply_to_list.field-0 in
    counted_draft account registry life ask reply m.in_quota
    (subst (λ (a : Account). RepliesInQuota a registry life (Ok ask) (answer_of reply)) m.stands.keeps.same_account
    (c.in_ok-reply_to_list.ensures life)) refl refl
