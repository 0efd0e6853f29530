-- The store is given the key and the number that lie there.
use Rattle.std.proofs.Common.{◌≡◌, arith, to_z, of_z, w64, ◌∙◌}
use Rattle.std.proofs.lemmas.Int.{ints}
use Rattle.dt_life.specs.laws.Giving.{gave_one}
use Rattle.dt_consumer.proofs.uses.Use.give.Goals as goal

pub returns-clause-stands : goal.returns-clause-stands
returns-clause-stands c = λ past h.
    let same : to_z w64 (of_z w64 c.number_in.result) ≡ c.number_in.result = omega (arith, ints) in
    gave_one past c.in-Some.aggregation c.args.self.now.aggregation c.args.self.now.keys c.args.place
    c.args.values.now c.put_parts.new.parts.items _ c.add-kept.new.self c.in-Some.is c.put_parts.ensures
    (same ∙ c.number_in.ensures) (c.add-kept.ensures.stands past h)
