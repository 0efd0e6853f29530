-- The probes that ECBs name, as the flags of an interest.
use Rattle.std.specs.Prelude.{ℕ, ◌+◌, ◌==◌, Bool, List, [], ◌∷◌, max, map}
use Rattle.std.specs.List.{list_any, range_with_len}
use Rattle.dt_ecb.specs.Ecbs.{EcbForm}

-- some ECB names the probe
abbrev pub is_wanted : List EcbForm → (probe : ℕ) → Bool
is_wanted ecbs probe = list_any (λ ecb. ecb.probe == probe) ecbs

-- the interest of ECBs: a flag for each identifier, up to the greatest that one of them names
abbrev pub beyond : List EcbForm → ℕ
beyond [] = 0
beyond (ecb ∷ ecbs) = max (ecb.probe + 1) (beyond ecbs)

unfoldable pub interest_of : List EcbForm → List Bool
interest_of ecbs = map (is_wanted ecbs) (range_with_len 0 (beyond ecbs))
