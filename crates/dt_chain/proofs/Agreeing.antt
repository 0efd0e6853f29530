-- The lists and the interests of the seats say the same, after those of one seat were changed.
use Rattle.std.proofs.Common.{◌≡◌, ◌≢◌, ℕ, ◌<◌, Bool, true, false, cond, List, length, get_or, set, Some, ap, sym, ◌∙◌, ⊎_elim, subst}
use Rattle.std.proofs.lemmas.Bool.{cases_eq}
use Rattle.std.proofs.lemmas.Option.{slice_get-get_or}
use Rattle.std.specs.Option.{option_map_or}
use Rattle.dt_machine.specs.Interest.{has_probe}
use Rattle.dt_machine.specs.declared.interest.Interest.{Interest}
use Rattle.dt_chain.specs.Listed.{is_listed_for, is_interested}
use Rattle.dt_chain.specs.declared.seat_set.SeatSet.{SeatSet}
use Rattle.dt_chain.proofs.Listing.{flag_at-set_same, flag_at-set_other}

-- the interest that is read at a seat
pub interest_at : (interests : List Interest) (seat probe : ℕ) (interest : Interest) → seat < length interests
    → interest ≡ get_or interests seat interest → is_interested interests seat probe ≡ has_probe interest probe
interest_at interests seat probe interest within is =
    ap (λ o. option_map_or (λ one. has_probe one probe) o false)
    (slice_get-get_or interests seat interest within ∙ ap Some (sym is))

pub agree_after : (lists new : List SeatSet) (interests : List Interest) (at : ℕ) (interest : Interest)
    → at < length interests
    → ((probe : ℕ) → is_listed_for new probe at ≡ has_probe interest probe)
    → ((probe other : ℕ) → other ≢ at → is_listed_for new probe other ≡ is_listed_for lists probe other)
    → ((probe seat : ℕ) → is_listed_for lists probe seat ≡ is_interested interests seat probe)
    → (probe seat : ℕ) → is_listed_for new probe seat ≡ is_interested (set interests at interest) seat probe
agree_after lists new interests at interest within own others agree probe seat =
    ⊎_elim
    (λ (e : seat ≡ at).
    let P : ℕ → Type 0 = λ s. is_listed_for new probe s ≡ is_interested (set interests at interest) s probe in
    subst P (sym e) (own probe ∙ sym (flag_at-set_same (λ one. has_probe one probe) interests at interest within)))
    (λ (ne : seat ≢ at).
    others probe seat ne ∙ agree probe seat
    ∙ sym (flag_at-set_other (λ one. has_probe one probe) interests at seat interest ne))
    (cases_eq seat at)

-- what is taken out isn't there, and what wasn't there isn't either
pub taken_out : (named was : Bool) → was ≡ named → cond named false was ≡ false
taken_out true was e = cc
taken_out false was e = e

-- what is put in is there, and nothing else
pub put_in : (named was : Bool) → was ≡ false → cond named true was ≡ named
put_in true was e = cc
put_in false was e = e
