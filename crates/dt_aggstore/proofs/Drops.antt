-- What one more event does to the drops.
use Rattle.std.proofs.Common.{◌≡◌, ℕ, ◌+◌, ◌↔◌, ℤ, Bool, true, false, cond, ◌&&◌, List, [], ◌∷◌, ◌++◌, length, refl}
use Rattle.std.proofs.Common.{ap, ◌∙◌, IsTrue, arith}
use Rattle.std.specs.Prelude.{not, zip, count_by, if◌then◌else◌}
use Rattle.std.proofs.lemmas.List.Sums.{sum_by-append}
use Rattle.dt_aggstore.specs.History.{Event, given, truncated, Past, new_past, after}
use Rattle.dt_aggstore.specs.Choice.{KeepsContribution}
use Rattle.dt_aggstore.specs.Chosen.{is_kept, choice_of, gives_value, drops}
use Rattle.dt_aggstore.specs.declared.key.Aggregation.{Aggregation}
use Rattle.dt_aggstore.specs.declared.key.KeyPart.{KeyPart}
use Rattle.dt_aggstore.proofs.Choices.{same_bits, kept_exactly, is_choice, choice_of-after, keeps}

zip-push : (events : List Event) (chosen : List Bool) (event : Event) (b : Bool) → length chosen ≡ length events
    → zip (events ++ event ∷ []) (chosen ++ b ∷ []) ≡ zip events chosen ++ (event, b) ∷ []
zip-push [] [] event b same = refl
zip-push [] (c ∷ chosen) event b same = absurd (omega arith)
zip-push (e ∷ events) [] event b same = absurd (omega arith)
zip-push (e ∷ events) (c ∷ chosen) event b same =
    ap (λ rest. (e, c) ∷ rest) (zip-push events chosen event b (omega arith))

abbrev is_dropped : Event × Bool → Bool
is_dropped place = gives_value place.0 && not place.1

drops-after : (past : Past) (event : Event) → drops (after past event)
    ≡ drops past + cond (is_dropped (event, is_kept past.size past.events (choice_of past) event)) 1 0
unfolding drops
drops-after past event =
    let chosen = choice_of past in
    let b = is_kept past.size past.events chosen event in
    ap (λ c. count_by is_dropped (zip (past.events ++ event ∷ []) c)) (choice_of-after past event)
    ∙ ap (count_by is_dropped) (zip-push past.events chosen event b (is_choice past).whole)
    ∙ sum_by-append (λ place. cond (is_dropped place) 1 0) (zip past.events chosen) ((event, b) ∷ [])
    ∙ omega arith

told : (dropped : ℕ) (b : Bool) → dropped + cond (true && not b) 1 0 ≡ (if b then dropped else dropped + 1)
told dropped true = omega arith
told dropped false = refl

-- a contribution that isn't kept is one drop more
pub drops-given : (past : Past) (aggregation : Aggregation) (key : List KeyPart) (value : ℤ) (b : Bool)
    → IsTrue b ↔ KeepsContribution past aggregation key value
    → drops (after past (given aggregation key value)) ≡ (if b then drops past else drops past + 1)
drops-given past aggregation key value b kept =
    let event = given aggregation key value in
    let chosen = choice_of past in
    let test = is_kept past.size past.events chosen event in
    let same : test ≡ b = same_bits test b (KeepsContribution past aggregation key value)
    (keeps past aggregation key value chosen test (is_choice past)
    (kept_exactly past.size past.events chosen event)) kept in
    drops-after past event ∙ ap (λ t. drops past + cond (true && not t) 1 0) same ∙ told (drops past) b

pub drops-truncated : (past : Past) (aggregation : Aggregation) → drops (after past (truncated aggregation))
    ≡ drops past
drops-truncated past aggregation = drops-after past (truncated aggregation) ∙ omega arith

pub drops-new_past : (size : ℕ) → drops (new_past size) ≡ 0
unfolding drops
drops-new_past size = refl
