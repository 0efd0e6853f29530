-- The seats of a word that are named so far, after one more was asked.
use Rattle.std.proofs.Common.{◌≡◌, ◌≢◌, ◌<◌, ◌*◌, ◌+◌, ◌/◌, ◌%◌, ◌&&◌, ◌||◌, ℕ, Bool, true, false, not, cond, eqb, List, length, Option, Some, None, refl, ap, sym, ◌∙◌, arith, ⊎_elim, eq-eqb, ne_eqb, get_or-set_same, get_or-set_other}
use Rattle.std.proofs.lemmas.Bool.{cases_eq}
use Rattle.std.specs.List.{slice_index, slice_set}
use Rattle.std.specs.Option.{option_map_or}
use Rattle.dt_cred.specs.Rights.{admits, permits, is_user}
use Rattle.dt_cred.specs.declared.account.Account.{Account}
use Rattle.dt_cred.specs.declared.account.Process.{Process}
use Rattle.dt_cred.specs.declared.class.Class.{Class}
use Rattle.dt_cred.specs.declared.class.Class.TheVariants.{Dtrace, Syscall, Profile, Pid, Other}
use Rattle.dt_cred.specs.declared.firing.Firing.{Firing}
use Rattle.dt_cred.specs.declared.probe.Probe.{Probe}
use Rattle.dt_machine.specs.BitWord.{has_bit}
use Rattle.dt_machine.specs.Registry.{Registry, probe_of, process_of}
use Rattle.dt_machine.specs.Tests.{is_shown}
use Rattle.dt_machine.specs.declared.bit_word.BitWord.{BitWord}

-- an account that holds dtrace_kernel is shown every firing
pub kernel_shown : (account : Account) (registry : Registry) (firing : Firing) → account.privs.dtrace_kernel ≡ true
    → is_shown account registry firing ≡ true
unfolding is_shown
kernel_shown account registry firing kernel = by_probe (probe_of registry firing.probe) (process_of registry firing.pid)
  where
    by_class : (class : Class) (process : Process) → admits account class firing.mode process ≡ true
    by_class Dtrace process = refl
    by_class Syscall process = ap (λ b. b || permits account process) kernel
    by_class Profile process = ap (λ b. b || (permits account process && is_user firing.mode)) kernel
    by_class (Pid pid) process = refl
    by_class Other process = refl

    by_process : (class : Class) (process : Option Process) → option_map_or (λ process. admits account class firing.mode process) process true ≡ true
    by_process class (Some process) = by_class class process
    by_process class None = refl

    by_probe : (probe : Option Probe) (process : Option Process)
        → option_map_or (λ probe. option_map_or (λ process. admits account probe.class firing.mode process) process true) probe true ≡ true
    by_probe (Some probe) process = by_process probe.class process
    by_probe None process = refl

-- the life that a seat is named with, by its bit
abbrev pub life_if : Bool → List ℕ → ℕ → Option ℕ
life_if named lives seat = cond named (Some (slice_index lives seat)) None

-- of the seats of the word those that aren't left any more are named with the lives that are shown, and the others aren't named
abbrev pub AreNamed : (word : ℕ) (shown : ℕ → Option ℕ) (seats left named : BitWord) (lives : List ℕ) → Type 0
AreNamed word shown seats left named lives = (seat : ℕ) → seat / 64 ≡ word
    → life_if (has_bit named (seat % 64)) lives seat ≡ cond (has_bit seats (seat % 64) && not (has_bit left (seat % 64))) (shown seat) None

module _ (word place : ℕ) (shown : ℕ → Option ℕ) (seats left new : BitWord) (low : place < 64) (was : has_bit left place ≡ true) (within : has_bit seats place ≡ true)
    (taken : (k : ℕ) → has_bit new k ≡ cond (eqb k place) false (has_bit left k)) where
  abbrev number : ℕ
  number = word * 64 + place

  -- a seat of the word is at the place, or is another
  at_place : (seat : ℕ) → seat / 64 ≡ word → seat % 64 ≡ place → seat ≡ number
  at_place seat here at = omega (arith, here, at)

  asked : has_bit seats place && not (has_bit new place) ≡ true
  asked = ap (λ b. b && not (has_bit new place)) within ∙ ap not (taken place ∙ ap (λ b. cond b false (has_bit left place)) (eq-eqb place place refl))

  unasked : has_bit seats place && not (has_bit left place) ≡ false
  unasked = ap (λ b. b && not (has_bit left place)) within ∙ ap not was

  else_same : (k : ℕ) → k ≢ place → has_bit new k ≡ has_bit left k
  else_same k ne = taken k ∙ ap (λ b. cond b false (has_bit left k)) (ne_eqb k place ne)

  module _ (named : BitWord) (lives : List ℕ) (before : AreNamed word shown seats left named lives) where
    -- the seat isn't shown it
    pub not_named : shown (word * 64 + place) ≡ None → AreNamed word shown seats new named lives
    not_named none seat here = ⊎_elim
        (λ (at : seat % 64 ≡ place).
        before seat here
        ∙ (ap (λ k. cond (has_bit seats k && not (has_bit left k)) (shown seat) None) at ∙ ap (λ b. cond b (shown seat) None) unasked)
        ∙ sym (ap (λ k. cond (has_bit seats k && not (has_bit new k)) (shown seat) None) at ∙ ap (λ b. cond b (shown seat) None) asked
        ∙ (ap shown (at_place seat here at) ∙ none)))
        (λ (ne : seat % 64 ≢ place).
        before seat here ∙ sym (ap (λ b. cond (has_bit seats (seat % 64) && not b) (shown seat) None) (else_same (seat % 64) ne)))
        (cases_eq (seat % 64) place)

    -- it is
    pub named_more : (life : ℕ) (more : BitWord) → shown (word * 64 + place) ≡ Some life → word * 64 + place < length lives
        → ((k : ℕ) → has_bit more k ≡ cond (eqb k place) true (has_bit named k))
        → AreNamed word shown seats new more (slice_set lives (word * 64 + place) life)
    named_more life more is inside put seat here = ⊎_elim
        (λ (at : seat % 64 ≡ place).
        let same : seat ≡ number = at_place seat here at in
        (ap (λ k. life_if (has_bit more k) (slice_set lives number life) seat) at
        ∙ ap (λ b. life_if b (slice_set lives number life) seat) (put place ∙ ap (λ b. cond b true (has_bit named place)) (eq-eqb place place refl))
        ∙ ap (λ s. Some (slice_index (slice_set lives number life) s)) same
        ∙ ap (λ (x : ℕ). Some x) (get_or-set_same lives number life _ inside))
        ∙ sym (ap (λ k. cond (has_bit seats k && not (has_bit new k)) (shown seat) None) at ∙ ap (λ b. cond b (shown seat) None) asked
        ∙ (ap shown same ∙ is)))
        (λ (ne : seat % 64 ≢ place).
        let apart : seat ≢ number = (λ e. ne (omega (arith, e, low))) in
        ap (λ b. life_if b (slice_set lives number life) seat) (put (seat % 64) ∙ ap (λ b. cond b true (has_bit named (seat % 64))) (ne_eqb (seat % 64) place ne))
        ∙ ap (λ (x : ℕ). cond (has_bit named (seat % 64)) (Some x) None) (get_or-set_other lives number seat life _ apart)
        ∙ before seat here ∙ sym (ap (λ b. cond (has_bit seats (seat % 64) && not b) (shown seat) None) (else_same (seat % 64) ne)))
        (cases_eq (seat % 64) place)
