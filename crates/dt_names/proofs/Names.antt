-- A name is text.
use Rattle.std.proofs.Common.{◌≡◌, ℕ, List, length, sym, subst, ⊎_elim, arith}
use Rattle.std.proofs.lemmas.Bool.{cases_lt}
use Rattle.std.proofs.lemmas.List.{get_or_past}
use Rattle.std.specs.Str.{IsUtf8, IsAscii}
use Rattle.std.proofs.lemmas.Str.{IsUtf8-from_ascii}
use Rattle.dt_names.specs.Name.{IsName}

pub name_text : (bytes name : List ℕ) → bytes ≡ name → IsName name → IsUtf8 bytes
name_text bytes name e h = subst IsUtf8 (sym e) (IsUtf8-from_ascii name ascii)
  where
    ascii : IsAscii name
    ascii i = ⊎_elim (λ inside. omega (arith, (h.plain i 0 inside).below_delete))
        (λ past. omega (arith, get_or_past name i 0 past)) (cases_lt i (length name))
