-- The tests of what belongs and of what is shown are the relations that they stand for.
use Rattle.std.proofs.Common.{◌≡◌, ℕ, Bool, true, false, Option, Some, None, IsTrue, IsSome, IfSome, refl, sym}
use Rattle.std.proofs.lemmas.Bool.{ltb-true, leb-true, eqb-true, lt-ltb, le-leb, eq-eqb, and_parts, and_from}
use Rattle.std.specs.Option.{option_map_or}
use Rattle.dt_cred.specs.Rights.{admits}
use Rattle.dt_cred.specs.declared.account.Account.{Account}
use Rattle.dt_cred.specs.declared.account.Process.{Process}
use Rattle.dt_cred.specs.declared.class.Class.{Class}
use Rattle.dt_cred.specs.declared.class.Class.TheVariants.{Dtrace, Syscall, Profile, Pid, Other}
use Rattle.dt_cred.specs.declared.probe.Probe.{Probe}
use Rattle.dt_cred.specs.declared.rights.Mode.{Mode}
use Rattle.dt_machine.specs.Registry.{Registry, Belongs, probe_of, process_of}
use Rattle.dt_machine.specs.Shown.{IsShown}
use Rattle.dt_cred.specs.declared.firing.Firing.{Firing}
use Rattle.dt_machine.specs.Tests.{is_traced, belongs, is_shown}

traced_from : (class : Class) (pid : ℕ) → is_traced class pid ≡ true → (own : ℕ) → class ≡ Pid own → pid ≡ own
traced_from Dtrace pid h own e = cc
traced_from Syscall pid h own e = cc
traced_from Profile pid h own e = cc
traced_from (Pid other) pid h own e = let is : other ≡ pid = eqb-true other pid h in cc
traced_from Other pid h own e = cc

traced_to : (class : Class) (pid : ℕ) → ((own : ℕ) → class ≡ Pid own → pid ≡ own) → is_traced class pid ≡ true
traced_to Dtrace pid h = refl
traced_to Syscall pid h = refl
traced_to Profile pid h = refl
traced_to (Pid other) pid h = eq-eqb other pid (sym (h other refl))
traced_to Other pid h = refl

abbrev IsTraced : Option Probe → ℕ → Type 0
IsTraced probe pid = IsSome probe × IfSome probe (λ p. (own : ℕ) → p.class ≡ Pid own → pid ≡ own)

probe_from : (probe : Option Probe) (pid : ℕ) → option_map_or (λ p. is_traced p.class pid) probe false ≡ true
    → IsTraced probe pid
probe_from None pid h = cc
probe_from (Some p) pid h = (refl, traced_from p.class pid h)

probe_to : (probe : Option Probe) (pid : ℕ) → IsSome probe
    → IfSome probe (λ p. (own : ℕ) → p.class ≡ Pid own → pid ≡ own)
    → option_map_or (λ p. is_traced p.class pid) probe false ≡ true
probe_to None pid some h = cc
probe_to (Some p) pid some h = traced_to p.class pid h

module _ (registry : Registry) (firing : Firing) where
  pub belongs_from : belongs registry firing ≡ true → Belongs registry firing
  unfolding belongs
  belongs_from h =
      let a = and_parts _ _ h in
      let b = and_parts _ _ a.1 in
      let c = and_parts _ _ b.1 in
      let p = probe_from (probe_of registry firing.probe) firing.pid c.1 in
      record {
        cpu = ltb-true firing.cpu registry.cpus a.0;
        of_file = leb-true 3 firing.probe b.0;
        probe = p.0;
        process = c.0;
        traced = p.1;
      }

  pub belongs_to : Belongs registry firing → belongs registry firing ≡ true
  unfolding belongs
  belongs_to h =
      and_from _ _ (lt-ltb firing.cpu registry.cpus h.cpu)
      (and_from _ _ (le-leb 3 firing.probe h.of_file)
      (and_from _ _ h.process (probe_to (probe_of registry firing.probe) firing.pid h.probe h.traced)))

abbrev Shown : Account → Mode → Option Probe → Option Process → Type 0
Shown account mode probe process =
    (p : Probe) (q : Process) → probe ≡ Some p → process ≡ Some q → IsTrue (admits account p.class mode q)

abbrev shown : Account → Mode → Option Probe → Option Process → Bool
shown account mode probe process = option_map_or
    (λ p. option_map_or (λ q. admits account p.class mode q) process true) probe true

shown_at : (account : Account) (mode : Mode) (probe : Option Probe) (process : Option Process)
    → shown account mode probe process ≡ true → Shown account mode probe process
shown_at account mode None process h p q is at = cc
shown_at account mode (Some one) None h p q is at = cc
shown_at account mode (Some one) (Some other) h p q is at =
    let same : one ≡ p = cc in
    let too : other ≡ q = cc in
    rw (← same, ← too) h

shown_by : (account : Account) (mode : Mode) (probe : Option Probe) (process : Option Process)
    → Shown account mode probe process → shown account mode probe process ≡ true
shown_by account mode None process h = refl
shown_by account mode (Some p) None h = refl
shown_by account mode (Some p) (Some q) h = h p q refl refl

module _ (account : Account) (registry : Registry) (firing : Firing) where
  pub shown_from : is_shown account registry firing ≡ true → IsShown account registry firing
  unfolding is_shown
  shown_from h =
      shown_at account firing.mode (probe_of registry firing.probe) (process_of registry firing.pid) h

  pub shown_to : IsShown account registry firing → is_shown account registry firing ≡ true
  unfolding is_shown
  shown_to h = shown_by account firing.mode (probe_of registry firing.probe) (process_of registry firing.pid) h
