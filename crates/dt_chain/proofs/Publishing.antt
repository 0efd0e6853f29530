-- What is kept of a seat's publication, and who is listed, after a publication.
use Rattle.std.proofs.Common.{◌≡◌, ◌≢◌, ◌↔◌, ℕ, ◌<◌, Bool, true, false, IsTrue, cond, eqb, List, Option, Some, None}
use Rattle.std.proofs.Common.{length, ap, sym, ◌∙◌, refl, subst, ⊎_elim, set, get_or}
use Rattle.std.proofs.lemmas.Bool.{cases_eq, eq-eqb, ne_eqb}
use Rattle.std.proofs.lemmas.List.{get_or-set_same, get_or-set_other}
use Rattle.std.specs.Option.{option_map, IsSomeAnd}
use Rattle.dt_machine.specs.Interest as interest
use Rattle.dt_chain.specs.Kept.{slot_of}
use Rattle.dt_chain.specs.Writes.{Published}
use Rattle.dt_chain.specs.declared.entries.SeatSlot.{SeatSlot}
use Rattle.dt_chain.proofs.Listing.{along}

-- the slots keep what the publication says
pub kept_after : (slots : List (Option SeatSlot)) (at seat : ℕ) (publication : Published) (was : Option Published)
    → at < length slots
    → get_or slots seat None ≡ option_map slot_of was
    → get_or (set slots at (Some (slot_of publication))) seat None
    ≡ option_map slot_of (cond (eqb at seat) (Some publication) was)
kept_after slots at seat publication was within kept =
    ⊎_elim
    (λ (e : at ≡ seat).
    let P : ℕ → Type 0 = λ other.
    get_or (set slots at (Some (slot_of publication))) other None
    ≡ option_map slot_of (cond (eqb at other) (Some publication) was) in
    subst P e
    (get_or-set_same slots at (Some (slot_of publication)) None within
    ∙ sym (ap (λ b. option_map slot_of (cond b (Some publication) was)) (eq-eqb at at refl))))
    (λ (ne : at ≢ seat).
    get_or-set_other slots at seat (Some (slot_of publication)) None (λ e. ne (sym e))
    ∙ kept
    ∙ sym (ap (λ b. option_map slot_of (cond b (Some publication) was)) (ne_eqb at seat ne)))
    (cases_eq at seat)

-- the lists have the seats whose publications have the probe
pub listed_after : (before after : ℕ → Bool) (at seat probe : ℕ) (publication : Published) (was : Option Published)
    → (IsTrue (after at) ↔ interest.Names publication.probes probe)
    → ((other : ℕ) → other ≢ at → after other ≡ before other)
    → (IsTrue (before seat) ↔ IsSomeAnd was (λ e. interest.Names e.probes probe))
    → IsTrue (after seat) ↔ IsSomeAnd (cond (eqb at seat) (Some publication) was) (λ e. interest.Names e.probes probe)
listed_after before after at seat probe publication was own others listed =
    let P : Bool → ℕ → Type 0 = λ b other.
    IsTrue (after other) ↔ IsSomeAnd (cond b (Some publication) was) (λ e. interest.Names e.probes probe) in
    ⊎_elim
    (λ (e : at ≡ seat). let here : P true seat = subst (P true) e own in
    let Q : Bool → Type 0 = λ b. P b seat in subst Q (sym (eq-eqb at seat e)) here)
    (λ (ne : at ≢ seat). let there : P false seat = along _ _ _ (others seat (λ e. ne (sym e))) listed in
    let Q : Bool → Type 0 = λ b. P b seat in subst Q (sym (ne_eqb at seat ne)) there)
    (cases_eq at seat)
