-- The reply of a `list`, for the runner's own account.
use Rattle.std.proofs.Common.{Ok, subst}
use Rattle.dt_cred.specs.declared.account.Account.{Account}
use Rattle.dt_life.specs.Answer.{answer_of}
use Rattle.dt_life.specs.Ask.{list, description_of}
use Rattle.dt_life.specs.Reply.{RepliesInQuota}
use Rattle.dt_life.specs.laws.Options.{if_ok_map}
use Rattle.dt_alone.proofs.runner.Runner.list.Goals as goal

pub returns : goal.returns
returns c =
    if_ok_map _ _ c.reply_to_list.result
    (λ reply h. λ account life has.
    subst
    (λ (a : Account). RepliesInQuota a c.args.machine.now.registry life (Ok (list (description_of c.args.text.now)))
    (answer_of reply)) has.within.same_account (h life))
    c.reply_to_list.ensures
