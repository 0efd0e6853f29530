-- What the proof of `first_foreign_in` is told at its goals.
use Rattle.std.proofs.Common.{◌≡◌, true, Option, Some, None, subst}
use Rattle.std.specs.Option.{MatchOption, is_some}
use Rattle.dt_machine.specs.Registry.{Belongs}
use Rattle.dt_machine.specs.Sections.{registry_of}
use Rattle.std.proofs.lemmas.Option.{slice_get-get_or}
use Rattle.dt_machine.proofs.Searching.{right_more, right_all}
use Rattle.dt_machine.proofs.belonging.first_foreign_in.Goals as goal

-- what holds of whatever is found
of_found : {X : Type 0} (o : Option X) (A P : Type 0) (B : X → Type 0) → is_some o ≡ true
    → ((x : X) → B x → P) → MatchOption o A B → P
of_found None A P B e f h = cc
of_found (Some x) A P B e f h = f x h

pub loop-place-preserved : goal.loop-place-preserved
loop-place-preserved c =
    right_more (λ _ firing. Belongs (registry_of c.args.sections.now) firing) c.args.script.now c.loop-place.place
    _ c.loop-place.invariant (slice_get-get_or c.args.script.now c.loop-place.place _ c.loop-place-test.true)
    (of_found c.context.result _ _ _ c.if-is_none.ensures
    (λ context found. subst (Belongs (registry_of c.args.sections.now)) found.1 found.0.belongs) c.context.ensures)

pub returns : goal.returns
returns c = right_all (λ _ firing. Belongs (registry_of c.args.sections.now) firing) c.args.script.now
    c.loop-place.place c.loop-place-test.false c.loop-place.invariant
