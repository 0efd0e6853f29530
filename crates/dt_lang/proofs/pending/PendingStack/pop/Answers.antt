-- What is to be shown of `pop`.
use Rattle.dt_lang.specs.machine.ExpressionView.{pending_forms}
use Rattle.dt_lang.proofs.PendingLemmas.{pop_shown, none_left}
use Rattle.dt_lang.proofs.pending.PendingStack.pop.Goals as goal

pub returns : goal.returns
unfolding pending_forms
returns c =
    pop_shown c.args.self.now.pending.items c.pop.new.self.items c.pop.result c.pop.ensures.items
    (none_left c.args.self.now.pending c.pop.new.self c.pop.result c.pop.ensures.cases c.pop.ensures.rest)
