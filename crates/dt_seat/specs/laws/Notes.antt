-- What a processor's note knows of a life, and whose life it is.
use Rattle.std.proofs.Common.{◌≡◌, ◌+◌, ◌==◌, ℕ, Bool, true, false, cond, List, [], Option, Some, None, ap, sym, ◌∙◌, refl, eq-eqb}
use Rattle.std.proofs.lemmas.List.Elements.{filter-append}
use mathlib.Core.List.{IsPrefix}
use Rattle.dt_cred.specs.declared.account.Account.{Account}
use Rattle.dt_facts.specs.Facts.{last_note}
use Rattle.dt_facts.specs.Lives.{IsRowOfLife}
use Rattle.dt_facts.specs.declared.fact.LastNote.{LastNote}
use Rattle.dt_facts.specs.declared.fact.LifeStep.{LifeStep}
use Rattle.dt_facts.specs.laws.Lives.{one_row, row_stays}
use Rattle.dt_seat.specs.Keeps.{Followed, IsOfAccount, known_by, known_in, known_of, noted_in, noted_of, told_in}
use Rattle.dt_seat.specs.declared.told_of.ToldOf.{ToldOf}
use Rattle.dt_trail.specs.Items.{StartsWith, TrailItem, own, whose}
use Rattle.dt_trail.specs.declared.law.Named.{Named}
use Rattle.dt_trail.specs.laws.Starts.{starts_self}

-- a note of this life knows just what it knows
pub noted_here : (life : ℕ) (row : Named Account) (took : Option LastNote) (knows : List TrailItem)
    → took ≡ Some (last_note life row) → noted_in life took knows ≡ knows
noted_here life row took knows e =
    ap (λ (t : Option LastNote). noted_in life t knows) e ∙ ap (λ (b : Bool). cond b knows []) (eq-eqb life life refl)

-- what is known of a life begins with what the note knows of it, and so with the note's own firings
noted_begins : (life : ℕ) (took : Option LastNote) (knows : List TrailItem) (told : Option ToldOf)
    → StartsWith (known_in life took knows told) (noted_in life took knows)
noted_begins life None knows told = (told_in life told, refl)
noted_begins life (Some last) knows told = by_test (last.life == life)
  where
    by_test : (b : Bool) → StartsWith (cond b knows (told_in life told)) (cond b knows [])
    by_test true = starts_self knows
    by_test false = (told_in life told, refl)

pub noted_within : (cpu life : ℕ) (f : Followed) → StartsWith (own (cpu + 1) (known_of life f)) (own (cpu + 1) (noted_of life f))
noted_within cpu life f =
    let whole = noted_begins life f.took (known_by f.note) f.told in
    (own (cpu + 1) whole.0, ap (own (cpu + 1)) whole.1 ∙ filter-append (λ x. whose x == cpu + 1) (noted_of life f) whole.0)

-- A processor that knows whose account a life is of, as it does once it was told or has met, finds firings kept and unseen for that account alone: the note's trail is of it.
pub one_account : (life : ℕ) (account : Account) (lives more : List LifeStep) (row : Named Account)
    → IsOfAccount life account lives → IsPrefix lives more → IsRowOfLife life row more → row.account ≡ account
one_account life account lives more row of begins is =
    ap (λ (r : Named Account). r.account) (one_row more life row of.0 is (row_stays lives more life of.0 begins of.1)) ∙ sym of.2
