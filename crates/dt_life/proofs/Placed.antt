-- ECBs that have their places among others.
use Rattle.std.proofs.Common.{◌≡◌, ℕ, ◌+◌, ◌<◌, ◌≤◌, List, [], ◌∷◌, ◌++◌, length, get_or, map, take, sym, ap, ◌∙◌}
use Rattle.std.proofs.Math.Bridge.{le_prop}
use Rattle.std.proofs.lemmas.List.{map-append, take_more}
use Rattle.dt_machine.specs.declared.limits.TheConstants.{PROBE_ID_MAX}
use Rattle.dt_ecb.specs.declared.parts.Ecb.{Ecb}
use Rattle.dt_life.specs.Placed as spec

-- the ECB that is made, with what shows that its probe is known
abbrev pub made : ℕ → (ecb : Ecb) → ecb.probe ≤ PROBE_ID_MAX → Ecb
made before ecb known =
    record { epid = ecb.epid; probe = ecb.probe; clause = before + ecb.clause; known = known }

-- one ECB more
pub placed_more : (before : ℕ) (ecbs : List Ecb) (i : ℕ) (ecb : Ecb) (known : ecb.probe ≤ PROBE_ID_MAX)
    (old new : List Ecb) → i < length ecbs → ecb ≡ get_or ecbs i ecb
    → old ≡ map (spec.placed_after before) (take i ecbs) → new ≡ old ++ made before ecb known ∷ []
    → new ≡ map (spec.placed_after before) (take (i + 1) ecbs)
placed_more before ecbs i ecb known old new inside is olds news =
    let placed = spec.placed_after before in
    news
    ∙ ap (λ xs. xs ++ made before ecb known ∷ []) olds
    ∙ ap (λ p. map placed (take i ecbs) ++ made before ecb p ∷ []) (le_prop known ecb.known)
    ∙ ap (λ (e : Ecb). map placed (take i ecbs) ++ placed e ∷ []) is
    ∙ sym (ap (map placed) (take_more ecbs i ecb inside) ∙ map-append placed (take i ecbs) (get_or ecbs i ecb ∷ []))
