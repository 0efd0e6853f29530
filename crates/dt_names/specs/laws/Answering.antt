-- Each text is a description or has a first fault: it is read from the left until a byte shows one.
use Rattle.std.proofs.Common.{◌≡◌, ℕ, zero, suc, ◌+◌, ◌-◌, ◌<◌, ◌≤◌, ◌⊎◌, inl, inr, ⊎_elim, List, [], ◌∷◌, ◌++◌, length}
use Rattle.std.proofs.Common.{replicate, get_or, refl, arith}
use Rattle.std.proofs.lemmas.Bool.{cases_eq, cases_lt}
use Rattle.dt_names.specs.Name.{IsNameByte}
use Rattle.dt_names.specs.Desc.{Desc, Describes, IsFirstFault, fields}
use Rattle.dt_names.specs.declared.desc.NameFault.{NameFault}
use Rattle.dt_names.specs.declared.desc.NameFault.TheVariants.{BadByte, TooLong, TooManyFields}
use Rattle.dt_names.specs.laws.Clean.{Scanned, scanned_none, scanned_colon, scanned_byte, few_fields, clean_fields}

abbrev Answer : List ℕ → Type 0
Answer text = ((desc : Desc) × Describes text desc) ⊎ ((fault : NameFault) × IsFirstFault text fault)

-- a byte is a name byte or none
named : (b : ℕ) → IsNameByte b ⊎ (IsNameByte b → ⊥)
named b =
    ⊎_elim (λ low. inr (λ h. omega (arith, h.above_blanks))) (λ above.
    ⊎_elim (λ high. inr (λ h. omega (arith, h.below_delete))) (λ below.
    ⊎_elim (λ e. inr (λ h. h.no_colon e)) (λ no_colon.
    ⊎_elim (λ e. inr (λ h. h.no_comma e)) (λ no_comma.
    ⊎_elim (λ e. inr (λ h. h.no_slash e)) (λ no_slash.
    ⊎_elim (λ e. inr (λ h. h.no_open_brace e)) (λ no_open.
    ⊎_elim (λ e. inr (λ h. h.no_close_brace e)) (λ no_close.
    ⊎_elim (λ e. inr (λ h. h.no_quote e)) (λ no_quote.
    inl (record {
      above_blanks = above;
      below_delete = omega (arith, below);
      no_colon = no_colon;
      no_comma = no_comma;
      no_slash = no_slash;
      no_open_brace = no_open;
      no_close_brace = no_close;
      no_quote = no_quote;
    }))
    (cases_eq b 34)) (cases_eq b 125)) (cases_eq b 123)) (cases_eq b 47)) (cases_eq b 44)) (cases_eq b 58))
    (cases_lt 126 b)) (cases_lt b 33)

-- at most four fields are those of a description, after empty ones
aligned : (parts : List (List ℕ)) → length parts ≤ 4
    → (desc : Desc)
    × (replicate (4 - length parts) [] ++ parts ≡ desc.provider ∷ desc.module ∷ desc.function ∷ desc.name ∷ [])
aligned [] few = (record { provider = []; «module» = []; function = []; name = [] }, refl)
aligned (a ∷ []) few = (record { provider = []; «module» = []; function = []; name = a }, refl)
aligned (a ∷ b ∷ []) few = (record { provider = []; «module» = []; function = a; name = b }, refl)
aligned (a ∷ b ∷ c ∷ []) few = (record { provider = []; «module» = a; function = b; name = c }, refl)
aligned (a ∷ b ∷ c ∷ d ∷ []) few = (record { provider = a; «module» = b; function = c; name = d }, refl)
aligned (a ∷ b ∷ c ∷ d ∷ e ∷ more) few = absurd (omega (arith, few))

at_end : (text : List ℕ) (i colons run : ℕ) → Scanned text i colons run → length text ≤ i → Answer text
at_end text i colons run s ends =
    let few = few_fields text i colons run s ends in
    let found = aligned (fields text) few in
    inl (found.0, record { few = few; each = clean_fields text i colons run s ends; aligned = found.1 })

module _ (text : List ℕ) (i colons run : ℕ) (s : Scanned text i colons run) (inside : i < length text) where
  fourth_colon : get_or text i 0 ≡ 58 → 3 ≤ colons → IsFirstFault text TooManyFields
  fourth_colon e full = record {
    at = i;
    within = inside;
    shown = (e, omega (arith, s.counted, s.few));
    none_before = s.none_shown;
  }

  bad_byte : (get_or text i 0 ≡ 58 → ⊥) → (IsNameByte (get_or text i 0) → ⊥) → IsFirstFault text BadByte
  bad_byte no_colon bad = record { at = i; within = inside; shown = (bad, no_colon); none_before = s.none_shown }

  byte_64 : IsNameByte (get_or text i 0) → 63 ≤ run → IsFirstFault text TooLong
  byte_64 b full = record {
    at = i;
    within = inside;
    shown = (b, omega (arith, s.passed), λ k low high. s.unbroken k (omega (arith, s.short)) high);
    none_before = s.none_shown;
  }

-- the n bytes from place i on are still to be read
answer_from : (text : List ℕ) (n i colons run : ℕ) → Scanned text i colons run → n + i ≡ length text → Answer text
answer_from text zero i colons run s left = at_end text i colons run s (omega arith)
answer_from text (suc n) i colons run s left =
    let inside : i < length text = omega arith in
    let left_after : n + (i + 1) ≡ length text = omega arith in
    ⊎_elim
    (λ e. ⊎_elim
    (λ room. answer_from text n (i + 1) (colons + 1) 0 (scanned_colon text i colons run s inside e room) left_after)
    (λ full. inr (TooManyFields, fourth_colon text i colons run s inside e full))
    (cases_lt colons 3))
    (λ no_colon. ⊎_elim
    (λ b. ⊎_elim
    (λ room. answer_from text n (i + 1) colons (run + 1) (scanned_byte text i colons run s inside b room) left_after)
    (λ full. inr (TooLong, byte_64 text i colons run s inside b full))
    (cases_lt run 63))
    (λ bad. inr (BadByte, bad_byte text i colons run s inside no_colon bad))
    (named (get_or text i 0)))
    (cases_eq (get_or text i 0) 58)

pub some_answer : (text : List ℕ) → Answer text
some_answer text = answer_from text (length text) 0 0 0 (scanned_none text) (omega arith)
