-- ECBs that are kept by the places of their clauses.
use Rattle.std.specs.Prelude.{◌≡◌, ℕ, ◌+◌, ◌<◌, List, All, length, map}
use Rattle.dt_lang.specs.Program.{ClauseForm}
use Rattle.dt_ecb.specs.Ecbs.{EcbForm}
use Rattle.dt_ecb.specs.Forms.{form_of_ecb}
use Rattle.dt_ecb.specs.declared.parts.Ecb.{Ecb}

-- The ECBs are these, each kept by the place of its clause.
pub record AreEcbs (clauses : List ClauseForm) (wanted : List EcbForm) (kept : List Ecb) : Type 0 where
  pub forms : map (form_of_ecb clauses) kept ≡ wanted
  pub placed : All (λ ecb. ecb.clause < length clauses) kept

-- an ECB of a program, whose clause stands after so many others
abbrev pub placed_after : ℕ → Ecb → Ecb
placed_after before ecb =
    record { epid = ecb.epid; probe = ecb.probe; clause = before + ecb.clause; known = ecb.known }
