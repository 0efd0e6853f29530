-- Enabling control blocks. Guide, Buffers and Buffering (enabled probe IDs).
use Rattle.std.specs.Prelude.{ℕ, ◌==◌, List, map, filter}
use Rattle.std.specs.List.{flat_map, enumerate_from}
use Rattle.dt_cred.specs.declared.account.Account.{Account}
use Rattle.dt_machine.specs.Registry.{Registry}
use Rattle.dt_program.specs.Program.{ClauseForm}
use Rattle.dt_ecb.specs.Matching.{matched}

-- a probe that a clause takes effect on: its number in the consumer, the probe's, and the clause
pub record EcbForm : Type 0 where
  pub epid : ℕ
  pub probe : ℕ
  pub clause : ClauseForm

abbrev pub numbered : ℕ × (ℕ × ClauseForm) → EcbForm
numbered pair = record { epid = pair.0; probe = pair.1.0; clause = pair.1.1 }

module _ (account : Account) (registry : Registry) where
  -- what a clause takes effect on, by rising identifier
  abbrev pub pairs_of_clause : ClauseForm → List (ℕ × ClauseForm)
  pairs_of_clause clause = map (λ probe. (probe.id, clause)) (matched account registry clause)

  -- the same for clauses in order
  abbrev pub pairs_of : List ClauseForm → List (ℕ × ClauseForm)
  pairs_of clauses = flat_map pairs_of_clause clauses

  -- the ECBs of clauses, numbered from an EPID on
  abbrev pub added : ℕ → List ClauseForm → List EcbForm
  added epid clauses = map numbered (enumerate_from epid (pairs_of clauses))

  -- the ECBs of a consumer whose accepted programs have these clauses: EPIDs count from 1
  abbrev pub ecbs_of : List ClauseForm → List EcbForm
  ecbs_of clauses = added 1 clauses

-- the ECBs of a probe, in order of EPID
abbrev pub of_probe : ℕ → List EcbForm → List EcbForm
of_probe probe ecbs = filter (λ ecb. ecb.probe == probe) ecbs
