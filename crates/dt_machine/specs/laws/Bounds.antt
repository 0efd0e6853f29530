-- The parts of a machine that a text describes lie within their bounds.
use Rattle.std.proofs.Common.{◌≡◌, ℕ, ◌+◌, ◌-◌, ◌^◌, ◌<◌, ◌≤◌, Bool, true, false, cond, zero, suc, List, [], ◌∷◌}
use Rattle.std.proofs.Common.{Option, Some, None, IfSome, IsSome, ℤ, pos, map, take, slice_get, length}
use Rattle.std.proofs.Common.{replicate, codes, refl, sym, subst, arith}
use Rattle.std.proofs.lemmas.Bool.{eqb-true}
use Rattle.std.proofs.lemmas.List.{length-append, length-map, length-replicate}
use Rattle.std.proofs.lemmas.Option.{slice_get_within}
use Rattle.std.specs.Prelude.{find, unwrap_or, option_and_then}
use Rattle.std.specs.Str.{bytes_eq}
use Rattle.dt_cred.specs.declared.account.Account.{Account as AccountType}
use Rattle.dt_cred.specs.declared.account.Process.{Process as ProcessType}
use Rattle.dt_cred.specs.declared.probe.Probe.{Probe as ProbeType}
use Rattle.dt_cred.specs.declared.firing.Firing.{Firing as FiringType}
use Rattle.dt_machine.specs.declared.fault.FaultNumber.TheVariants.{Account, Process, Firing, Foreign}
use Rattle.dt_machine.specs.Bounds.{IsProcessInBounds, IsProbeInBounds, IsFiringInBounds, IsInBounds}
use Rattle.dt_machine.specs.Reading.{IsDescribed, accounts_in, processes_in, probes_in, scripts_in}
use Rattle.dt_machine.specs.Registry.{Registry, Contents, IsSound, Belongs, account_of, process_of, probe_of, firing_at}
use Rattle.dt_machine.specs.Rows.{ProcessRow, FiringRow, account, process, firing, scripts}
use Rattle.dt_machine.specs.Rows.{arguments, frames, number_in, IsGivenBelow, AreArguments, AreGivenFrames}
use Rattle.dt_machine.specs.Rows.{IsRightFiring}
use Rattle.dt_machine.specs.laws.Numbers.{IsRowIn, arguments_fit, frames_fit, row_at_in}
use Rattle.dt_machine.specs.laws.Scripts.{script_at, scripts_at}
use Rattle.dt_machine.specs.laws.Spelling.{spelled_at}
use Rattle.dt_machine.specs.laws.Soundness.{at_pid, described_sound, registry_one, one_or_other}
use Rattle.dt_cred.specs.Limits.{argument_count, frame_count}

-- what is found among things that are all so
found_so : {A B : Type 0} (test : B → Bool) (f : A → B) (P : B → Type 0) (rows : List A)
    → ((k : ℕ) (row : A) → slice_get rows k ≡ Some row → P (f row)) → IfSome (find test (map f rows)) P
found_so test f P [] each = tt
found_so test f P (row ∷ rows) each =
    one_or_other (test (f row)) (f row) (find test (map f rows)) P (each 0 row refl)
    (found_so test f P rows (λ k r there. each (suc k) r there))

below : (limit : ℕ) (number : Option ℕ) → IsGivenBelow limit number → number_in number < limit
below limit None h = absurd h
below limit (Some n) h = h

-- a process that is found has the number
passed : {A : Type 0} (b : Bool) (x y : A) (o : Option A) (test : A → Bool) → test x ≡ b
    → (o ≡ Some y → test y ≡ true) → cond b (Some x) o ≡ Some y → test y ≡ true
passed true x y o test is later e = let same : x ≡ y = cc in subst (λ z. test z ≡ true) same is
passed false x y o test is later e = later e

found_passes : {A : Type 0} (test : A → Bool) (xs : List A) (x : A) → find test xs ≡ Some x → test x ≡ true
found_passes test [] x e = cc
found_passes test (y ∷ ys) x e = passed (test y) y x (find test ys) test refl (found_passes test ys x) e

known_pid : (processes : List ProcessType) (pid limit : ℕ)
    → IfSome (find (at_pid pid) processes) (λ p. p.pid ≤ limit) → IsSome (find (at_pid pid) processes) → pid ≤ limit
known_pid processes pid limit few some = at (find (at_pid pid) processes) refl few some
  where
    at : (o : Option ProcessType) → find (at_pid pid) processes ≡ o → IfSome o (λ p. p.pid ≤ limit) → IsSome o
        → pid ≤ limit
    at None e few some = cc
    at (Some p) e few some = subst (λ n. n ≤ limit)
        (eqb-true p.pid pid (found_passes (at_pid pid) processes p e)) few

args_many : (given : List (Option ℤ)) → AreArguments given → length (arguments given) ≡ argument_count
args_many given are =
    let few = are.few in
    let whole = length-append (map (λ o. unwrap_or o (pos 0)) given) (replicate (argument_count - length given) (pos 0)) in
    let front = length-map given (λ (o : Option ℤ). unwrap_or o (pos 0)) in
    let zeros = length-replicate {A = ℤ} (argument_count - length given) (pos 0) in
    omega (arith, few, whole, front, zeros)

frames_many : (given : List (Option ℕ)) → AreGivenFrames given → length (frames given) ≡ frame_count
frames_many given are =
    let few = are.few in
    let whole = length-append (map number_in given) (replicate (frame_count - length given) 0) in
    let front = length-map given number_in in
    let zeros = length-replicate {A = ℕ} (frame_count - length given) 0 in
    omega (arith, few, whole, front, zeros)

-- a firing of a right row that belongs to a sound machine
firing_so : (registry : Registry) (other : Registry) (cpu place : ℕ) (before : List FiringRow) (row : FiringRow)
    → registry.cpus ≤ 64 → ((pid : ℕ) → IfSome (process_of registry pid) (λ p. p.pid ≤ 999999))
    → IsRightFiring other before row → IsRowIn row → Belongs registry (firing cpu place row)
    → IsFiringInBounds (firing cpu place row)
firing_so registry other cpu place before row few small right fits belongs = record {
  cpu = let in_machine = belongs.cpu in omega (arith, in_machine, few);
  pid = known_pid registry.processes (number_in row.pid) 999999 (small (number_in row.pid)) belongs.process;
  tid = below (2 ^ 32) row.tid right.tid;
  timestamp = record { sfits = below (2 ^ 63) row.timestamp right.timestamp };
  args = args_many row.args right.args;
  kstack = frames_many row.kstack right.kstack;
  ustack = frames_many row.ustack right.ustack;
  args_fit = arguments_fit row.args fits.args;
  kstack_fit = frames_fit row.kstack fits.kstack;
  ustack_fit = frames_fit row.ustack fits.ustack;
}

module _ (text : List ℕ) (contents : Contents) (is : IsDescribed text contents) where
  sound : IsSound contents
  sound = described_sound text contents is

  uids_so : (name : List ℕ) → IfSome (account_of contents.registry name) (λ found. found.uid < 2 ^ 32)
  uids_so name = subst
      (λ (found : List AccountType). IfSome (find (λ one. bytes_eq one.name name) found) (λ one. one.uid < 2 ^ 32))
      (sym is.registry.accounts)
      (found_so (λ (one : AccountType). bytes_eq one.name name) account (λ one. one.uid < 2 ^ 32)
      (accounts_in is.data_of)
      (λ k row there. below (2 ^ 32) row.uid (is.right Account k row there).uid))

  processes_so : (pid : ℕ) → IfSome (process_of contents.registry pid) IsProcessInBounds
  processes_so pid = subst
      (λ (found : List ProcessType). IfSome (find (at_pid pid) found) IsProcessInBounds) (sym is.registry.processes)
      (found_so (at_pid pid) process IsProcessInBounds (processes_in is.data_of) one)
    where
      one : (k : ℕ) (row : ProcessRow) → slice_get (processes_in is.data_of) k ≡ Some row
          → IsProcessInBounds (process row)
      one k row there =
          let right = is.right Process k row there in
          let small = below 1000000 row.pid right.pid in
          record { pid = omega (arith, small); uid = below (2 ^ 32) row.uid right.uid; execname = right.named.short }

  probes_so : (id : ℕ) → IfSome (probe_of contents.registry id) IsProbeInBounds
  probes_so zero = tt
  probes_so (suc before) = at (slice_get contents.registry.probes before) refl
    where
      at : (o : Option ProbeType) → slice_get contents.registry.probes before ≡ o → IfSome o IsProbeInBounds
      at None there = tt
      at (Some probe) there =
          let one = spelled_at 1 (codes "dtrace:::BEGIN" ∷ codes "dtrace:::END" ∷ probes_in is.data_of)
          contents.registry.probes before probe is.registry.probes there in
          let inside = slice_get_within contents.registry.probes before probe there in
          let few = sound.few_probes in
          let number = one.number in
          record {
            id = omega (arith, inside, few, number);
            provider = one.spelled.provider_named.short;
            «module» = one.spelled.module_named.short;
            function = one.spelled.function_named.short;
            name = one.spelled.name_named.short;
          }

  firings_so : (cpu place : ℕ) → IfSome (firing_at (scripts 0 (scripts_in is.data_of)) cpu place) IsFiringInBounds
  firings_so cpu place = outer (slice_get (scripts 0 (scripts_in is.data_of)) cpu) refl
    where
      inner : (found : List FiringType) → slice_get (scripts 0 (scripts_in is.data_of)) cpu ≡ Some found
          → (o : Option FiringType) → slice_get found place ≡ o → IfSome o IsFiringInBounds
      inner found there None at_place = tt
      inner found there (Some fired) at_place =
          let at = scripts_at 0 (scripts_in is.data_of) cpu found there in
          let G : List FiringType → Type 0 = λ s. slice_get s place ≡ Some fired in
          let f = script_at (0 + cpu) 0 at.rows place fired (subst G at.is at_place) in
          let all = is.right Firing in
          let foreign = is.right Foreign in
          let same = registry_one is.data_of foreign.0 contents.registry foreign.1 is.registry in
          let B : Registry → Type 0 = λ r. Belongs r fired in
          let belongs : Belongs contents.registry fired =
          subst B same (foreign.2 cpu found there place fired at_place) in
          subst IsFiringInBounds (sym f.is)
          (firing_so contents.registry all.0 (0 + cpu) (0 + place) (take place at.rows) f.row sound.few_cpus
          sound.small_pids (all.2 cpu at.rows at.there place f.row f.there)
          (row_at_in text is.data_of is.json.value cpu place at.rows f.row at.there f.there)
          (subst (Belongs contents.registry) f.is belongs))

      outer : (o : Option (List FiringType)) → slice_get (scripts 0 (scripts_in is.data_of)) cpu ≡ o
          → IfSome (option_and_then (λ script. slice_get script place) o) IsFiringInBounds
      outer None there = tt
      outer (Some found) there = inner found there (slice_get found place) refl

  -- what a text describes lies within its bounds
  pub described_in_bounds : IsInBounds contents
  described_in_bounds = record {
    uids = uids_so;
    processes = processes_so;
    probes = probes_so;
    firings = λ cpu place. subst
        (λ (all : List (List FiringType)). IfSome (firing_at all cpu place) IsFiringInBounds) (sym is.firings)
        (firings_so cpu place);
  }
