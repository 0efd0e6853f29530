-- A number that is no seat.
use Rattle.std.proofs.Common.{◌≡◌, ℕ, ◌^◌, ◌<◌, List, Option, Some, None, decimal, sym, ◌∙◌, arith}
use Rattle.std.specs.Option.{IfNone, SomeIff}
use Rattle.dt_chain.specs.declared.seat.TheConstants.{SEATS}
use Rattle.dtraced.proofs.Decimals.{one_number}
use Rattle.dtraced.specs.Seat.{SpellsSeat}
use Rattle.dtraced.proofs.seat.seat_of.Goals as goal

no_seat : (o : Option ℕ) (number : ℕ) (text : List ℕ) → SomeIff o (number < SEATS) number → number < 2 ^ 32
    → text ≡ decimal number → IfNone o ((seat : ℕ) → SpellsSeat text seat → ⊥)
no_seat None number text none fits is = λ seat spells.
    let equal = one_number number seat fits (omega (arith, spells.within)) (sym is ∙ spells.spelled) in
    none (omega (arith, equal, spells.within))
no_seat (Some x) number text is_seat fits is = tt

pub returns-clause-none : goal.returns-clause-none
returns-clause-none c =
    no_seat c.new.result c.in_ok-number_of.field-0 c.args.text.now c.new.ensures c.in_ok-number_of.ensures.found.0
    (sym c.as_bytes.ensures.value ∙ c.in_ok-number_of.ensures.found.1)
