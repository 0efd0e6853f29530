-- What is to be shown of `items_go_on`.
use Rattle.dt_facts.specs.laws.Items.{items_begin, items_longer, items_known, items_of_others}
use Rattle.dt_facts.proofs.laws.items_go_on.Goals as goal

pub returns : goal.returns
returns c = record { begins = items_begin; longer = items_longer; known = items_known; others = items_of_others }
