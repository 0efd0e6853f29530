-- What is to be shown of `longer`.
use Rattle.std.proofs.Common.{◌≡◌, ap, sym, ◌∙◌}
use Rattle.dt_facts.specs.Facts.{HaveGrown}
use Rattle.dt_facts.specs.Handles.{BegunLists}
use Rattle.dt_facts.specs.Lives.{items_of_life}
use Rattle.dt_tests_facts.proofs.Longer.{items_of_longer}
use Rattle.dt_tests_facts.proofs.receipts.Receipt.longer.Goals as goal

pub invariant_of-result : goal.invariant_of-result
invariant_of-result c =
    let one = c.args.self.beginning.lists in
    let other = c.args.other.beginning.lists in
    let first : HaveGrown one c.learn.new.one.lists = c.learn.ensures.begins.0 in
    let second : HaveGrown other c.learn.new.one.lists = c.learn.ensures.begins.1 in
    let items : items_of_life 0 c.learn.new.one.lists.items ≡ c.longer.result.knows =
    ap (λ (b : BegunLists). items_of_life 0 b.lists.items) c.learn.ensures.longer
    ∙ items_of_longer 0 one.items other.items c.learn.new.one.lists.items first.1 second.1
    ∙ rw (c.args.self.same, c.args.other.same) (sym c.longer.ensures.longer) in
    record { same = items }
