-- An offer is left.
use Rattle.std.proofs.Common.{◌≡◌, true, Option, ℕ, Some, None, is_some, refl}
use Rattle.dt_chain.specs.Seats.{life_at}
use Rattle.dt_machine.specs.declared.context.Context.{Context}
use Rattle.dt_steps.specs.Stands.{due_by}
use Rattle.dt_steps.proofs.due.DueOffers.is_done.Goals as goal

-- a firing that was looked for is due where a life is named
no_life : (context : Option Context) (life : Option ℕ) → is_some context ≡ true → due_by context life ≡ None → life ≡ None
no_life None life some none = cc
no_life (Some one) None some none = refl
no_life (Some one) (Some named) some none = cc

pub returns-else-is_none-clause-busy : goal.returns-else-is_none-clause-busy
returns-else-is_none-clause-busy c = λ busy none.
    let looked = c.args.self.now in
    let empty = c.is_empty.ensures.1 (λ seat.
    no_life looked.context (life_at looked.left seat) c.if-is_none.ensures (none seat)) in cc
