-- Lines that are read as JSON, and lines that are not.
use Rattle.std.proofs.Common.{◌≡◌, ℕ, List, Bool, true, false, Some, None, Err, if◌then◌else◌, IsUtf8, refl}
use Rattle.std.specs.Str.{is_utf8}
use Rattle.std.proofs.lemmas.Str.{IsUtf8-from_is_utf8, is_utf8-from_IsUtf8}
use Rattle.serde_json.specs.Data.{Data}
use Rattle.serde_json.specs.Read.{read}
use Rattle.dt_life.specs.declared.refusal.Refusal.TheVariants.{Json}
use Rattle.dt_proto.specs.Line.{requested, requested_by, requested_or_no_json}

pub requested-read : (line : List ℕ) (d : Data) → IsUtf8 line → read line ≡ Some d → requested line ≡ requested_by d
requested-read line d utf8 is = rw (is_utf8-from_IsUtf8 line utf8, is) refl

refused_at : (line : List ℕ) (utf8 : Bool) → is_utf8 line ≡ utf8 → (IsUtf8 line → read line ≡ None)
    → requested_or_no_json (if utf8 then read line else None) ≡ Err Json
refused_at line true is none = rw (none (IsUtf8-from_is_utf8 line is)) refl
refused_at line false is none = refl

pub requested-unread : (line : List ℕ) → (IsUtf8 line → read line ≡ None) → requested line ≡ Err Json
requested-unread line none = refused_at line (is_utf8 line) refl none
