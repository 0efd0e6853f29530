-- A number that is no seat.
use Rattle.std.proofs.Common.{◌≡◌, ◌≢◌, ℕ, ◌^◌, ◌<◌, List, Option, Some, None, decimal, sym, ◌∙◌, arith}
use Rattle.std.specs.Option.{IfNone, SomeIff}
use Rattle.dt_chain.specs.declared.seat.TheConstants.{SEATS}
use Rattle.dt_world.proofs.Decimals.{one_number}
use Rattle.dt_world.proofs.words.seat_of.Goals as goal

no_seat : (o : Option ℕ) (number : ℕ) (digits : List ℕ) → SomeIff o (number < SEATS) number → number < 2 ^ 32
    → digits ≡ decimal number → IfNone o ((seat : ℕ) → seat < SEATS → digits ≢ decimal seat)
no_seat None number digits none fits is = λ seat within same.
    let equal = one_number number seat fits (omega arith) (sym is ∙ same) in
    none (omega (arith, equal, within))
no_seat (Some x) number digits is_seat fits is = tt

pub returns-clause-none : goal.returns-clause-none
returns-clause-none c =
    no_seat c.new.result c.in_ok-number_of.field-0 c.args.digits.now c.new.ensures c.in_ok-number_of.ensures.found.0
    c.in_ok-number_of.ensures.found.1
