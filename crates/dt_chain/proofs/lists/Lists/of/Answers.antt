-- A probe's list is what `get` finds.
use Rattle.std.proofs.Common.{◌≡◌, Some, None, false, ap, sym, ◌∙◌, refl}
use Rattle.std.specs.List.{slice_get}
use Rattle.std.specs.Option.{option_map_or}
use Rattle.std.proofs.lemmas.Option.{slice_get_read, slice_get_past}
use Rattle.dt_chain.specs.Seats.{has}
use Rattle.dt_chain.proofs.lists.Lists.of.Goals as goal

pub returns-in-Some : goal.returns-in-Some
returns-in-Some c = λ seat.
    let found = c.in-Some.ensures.lookup in
    let is : slice_get c.deref.result.now c.args.probe ≡ Some c.in-Some.seats.now =
    slice_get_read c.deref.result.now _ _ _ refl found.3.0 found.1 in
    ap (λ o. option_map_or (λ seats. has seats seat) o false)
    (sym is ∙ ap (λ items. slice_get items c.args.probe) c.deref.ensures.value)

pub returns-in-None : goal.returns-in-None
returns-in-None c = λ seat.
    let past = c.in-None.ensures.lookup in
    let is : slice_get c.deref.result.now c.args.probe ≡ None = slice_get_past c.deref.result.now _ past.3 in
    c.new.ensures seat ∙ ap (λ o. option_map_or (λ seats. has seats seat) o false)
    (sym is ∙ ap (λ items. slice_get items c.args.probe) c.deref.ensures.value)
