-- A processor's own firings in what its note knows.
use Rattle.std.proofs.Common.{◌≡◌, ◌+◌, ◌==◌, ℕ, Bool, true, false, cond, List, [], ◌∷◌, ◌++◌, refl, sym, ap, ◌∙◌, arith, eq-eqb, ne_eqb, append-nil, Option, Some, None}
use Rattle.std.proofs.lemmas.List.Elements.{filter-append}
use Rattle.dt_cred.specs.declared.firing.Firing.{Firing}
use Rattle.dt_facts.specs.declared.fact.LastNote.{LastNote}
use Rattle.dt_seat.specs.Keeps.{IsEarlier, noted_in}
use Rattle.dt_seat.specs.Seats.{kept_items}
use Rattle.dt_seat.specs.Trailed.{row_offered}
use Rattle.dt_seat.specs.declared.held.Held.TheVariants.{Kept, Unseen}
use Rattle.dt_trail.specs.Items.{TrailItem, fired, own, whose}

-- a note of an earlier life knows nothing of this one
pub noted_earlier : (life : ℕ) (took : Option LastNote) (knows : List TrailItem) → IsEarlier life took → noted_in life took knows ≡ []
noted_earlier life None knows h = refl
noted_earlier life (Some last) knows h = ap (λ (b : Bool). cond b knows []) (ne_eqb last.life life (λ e. absurd (omega (arith, h, e))))

pub own_fired : (cpu place : ℕ) (row : List TrailItem) → own (cpu + 1) (row ++ fired cpu place ∷ []) ≡ own (cpu + 1) row ++ fired cpu place ∷ []
own_fired cpu place row =
    filter-append (λ x. whose x == cpu + 1) row (fired cpu place ∷ [])
    ∙ ap (λ (b : Bool). own (cpu + 1) row ++ cond b (fired cpu place ∷ []) []) (eq-eqb (cpu + 1) (cpu + 1) refl)

pub own_kept : (firing : Firing) (row before : List TrailItem) → own (firing.cpu + 1) row ≡ own (firing.cpu + 1) before
    → own (firing.cpu + 1) (row_offered row firing true) ≡ own (firing.cpu + 1) before ++ kept_items Kept firing
own_kept firing row before same =
    own_fired firing.cpu firing.place row ∙ ap (λ (l : List TrailItem). l ++ fired firing.cpu firing.place ∷ []) same

pub own_unseen : (firing : Firing) (known : ℕ) (row before : List TrailItem) → own (firing.cpu + 1) row ≡ own (firing.cpu + 1) before
    → own (firing.cpu + 1) (row_offered row firing false) ≡ own (firing.cpu + 1) before ++ kept_items (Unseen known) firing
own_unseen firing known row before same = same ∙ sym (append-nil (own (firing.cpu + 1) before))
