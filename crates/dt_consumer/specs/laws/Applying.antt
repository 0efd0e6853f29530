-- That a draft can be applied is a fact with one proof at most: so a ghost field can keep it.
use Rattle.std.proofs.Common.{◌≡◌, false, Option, Some, None, is_some, refl, sym, ap, ◌∙◌}
use Rattle.std.proofs.Math.Bool.{Bool-set}
use Rattle.std.proofs.Math.Path.{path_j'}
use Rattle.std.proofs.Props.{props}
use Rattle.std.proofs.lemmas.Bool.{false≢true}
use Rattle.dt_consumer.specs.Draft.{CanApply, ChangeFits}
use Rattle.dt_consumer.specs.declared.consumer.Consumer.{Consumer}
use Rattle.dt_consumer.specs.declared.draft.Change.{Change}
use Rattle.dt_consumer.specs.declared.draft.Change.TheVariants.{Counted, Set, Enable, Go, Stop, Snap, Trunc, Close}
use Rattle.dt_consumer.specs.declared.draft.Change.TheVariants.{Uncounted}
use Rattle.dt_consumer.specs.declared.draft.Draft.{Draft}

abbrev none_from : {T : Type 0} (o : Option T) → is_some o ≡ false → o ≡ None
none_from None empty = refl
none_from (Some x) empty = absurd (false≢true (sym empty))

none_same : {T : Type 0} (o : Option T) (p : o ≡ None) → none_from o (ap is_some p) ≡ p
none_same o p = path_j' (λ x q. none_from x (ap is_some q) ≡ q) refl p

none_prop : {T : Type 0} (o : Option T) → IsProp (o ≡ None)
none_prop o = λ p q.
    sym (none_same o p) ∙ ap (none_from o) (Bool-set _ _ (ap is_some p) (ap is_some q)) ∙ none_same o q

fits_prop : (consumer : Consumer) (change : Change) → IsProp (ChangeFits consumer change)
fits_prop consumer (Enable clauses ecbs shapes room) = hlevel (none_prop, props)
fits_prop consumer (Go tracing) = hlevel props
fits_prop consumer Counted = hlevel props
fits_prop consumer (Set options) = hlevel props
fits_prop consumer Stop = hlevel props
fits_prop consumer (Snap cpu) = hlevel props
fits_prop consumer (Trunc aggregation) = hlevel props
fits_prop consumer Close = hlevel props
fits_prop consumer Uncounted = hlevel props

pub can_apply_prop : (consumer : Consumer) (draft : Draft) → IsProp (CanApply consumer draft)
can_apply_prop consumer draft = hlevel (fits_prop, props)
