-- The bytes of a fill buffer.
use Rattle.std.proofs.Common.{ℕ, ◌||◌, List, sym, ◌∙◌, subst}
use Rattle.dt_buffer.proofs.Pasts.{fill_shown, ok_more}
use Rattle.dt_buffer.specs.IsAt.{StoreIsAt}
use Rattle.dt_buffer.specs.Shows.{Shows}
use Rattle.dt_buffer.specs.declared.principal.Store.{Store}
use Rattle.dt_buffer.proofs.principal.Principal.content.Goals as goal

pub returns-in-Fill : goal.returns-in-Fill
returns-in-Fill c = λ past s.
    let P : Store → Type 0 = λ x. StoreIsAt past x in
    let filled = c.in-Fill.store.ordinary_filled || c.in-Fill.store.end_filled in
    let B : List ℕ → Type 0 = λ bytes. Shows past bytes 0 filled in
    ok_more _ _ c.from_slice-in-Fill.result
    (λ v e. (
      0,
      filled,
      subst B (sym (e ∙ c.deref-in-Fill.ensures.value))
          (fill_shown past c.in-Fill.store (subst P c.in-Fill.is s)),
    ))
    c.from_slice-in-Fill.ensures.items
