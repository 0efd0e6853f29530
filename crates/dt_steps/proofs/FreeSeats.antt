-- Free seats and idle processors.
use Rattle.std.proofs.Common.{◌≡◌, ℕ, zero, suc, List, [], ◌∷◌, ◌++◌, Option, Some, None, IfSome, refl, ap, subst}
use Rattle.std.specs.List.{slice_get}
use Rattle.dt_chain.specs.Seats.{life_at}
use Rattle.dt_machine.specs.Context.{IsContext}
use Rattle.dt_machine.specs.Registry.{Registry}
use Rattle.dt_steps.specs.Stands.{due_by, due_in}
use Rattle.dt_steps.specs.declared.due.DueOffers.{DueOffers}

-- one more element at the end
pub each_pushed : {A : Type 0} (P : A → Type 0) (xs : List A) (x : A) → ((i : ℕ) → IfSome (slice_get xs i) P) → P x
    → (i : ℕ) → IfSome (slice_get (xs ++ x ∷ []) i) P
each_pushed P [] x h last zero = last
each_pushed P [] x h last (suc i) = tt
each_pushed P (y ∷ ys) x h last zero = h zero
each_pushed P (y ∷ ys) x h last (suc i) = each_pushed P ys x (λ j. h (suc j)) last i

-- a processor that looked for nothing owes nothing
pub idle_due : (found : Option DueOffers) → IfSome found (λ looked. None ≡ looked.context) → (seat : ℕ)
    → None ≡ due_in found seat
idle_due None idle seat = refl
idle_due (Some looked) idle seat = ap (λ context. due_by context (life_at looked.left seat)) idle

pub idle_context : (registry : Registry) (found : Option DueOffers) → IfSome found (λ looked. None ≡ looked.context)
    → IfSome found (λ looked. IfSome looked.context (IsContext registry))
idle_context registry None idle = tt
idle_context registry (Some looked) idle = subst (λ context. IfSome context (IsContext registry)) idle tt
