-- How ECBs are made: by the places of their clauses. Only proofs need these definitions.
use Rattle.std.specs.Prelude.{ℕ, ◌+◌, List, [], ◌∷◌, ◌++◌, map}
use Rattle.std.specs.List.{enumerate_from}
use Rattle.dt_cred.specs.declared.account.Account.{Account}
use Rattle.dt_machine.specs.Registry.{Registry}
use Rattle.dt_program.specs.Program.{ClauseForm}
use Rattle.dt_ecb.specs.Matching.{matched}
use Rattle.dt_ecb.specs.declared.parts.Ecb.{Ecb}

-- what an ECB keeps: its number, its probe and the place of its clause
abbrev pub kept_in : Ecb → ℕ × (ℕ × ℕ)
kept_in ecb = (ecb.epid, (ecb.probe, ecb.clause))

-- what the ECBs of probes and places keep, numbered from an EPID on
abbrev pub kept_from : ℕ → List (ℕ × ℕ) → List (ℕ × (ℕ × ℕ))
kept_from epid keys = enumerate_from epid keys

module _ (account : Account) (registry : Registry) where
  -- what a clause at a place takes effect on
  abbrev pub keys_at : ℕ → ClauseForm → List (ℕ × ℕ)
  keys_at place clause = map (λ probe. (probe.id, place)) (matched account registry clause)

  -- the same for clauses that stand from a place on
  abbrev pub keys_from : ℕ → List ClauseForm → List (ℕ × ℕ)
  keys_from place [] = []
  keys_from place (clause ∷ clauses) = keys_at place clause ++ keys_from (place + 1) clauses
