-- A machine that a text describes is sound.
use Rattle.std.proofs.Common.{◌+◌, ◌≡◌, ◌≢◌, ◌∙◌, ◌<◌, ◌≤◌, ◌==◌, ℕ, Bool, true, false, cond, zero, suc, [], ◌∷◌, List}
use Rattle.std.proofs.Common.{Option, Some, None, IfSome, IsSomeAnd, All, AllPairs, map, take, slice_get, get_or}
use Rattle.std.proofs.Common.{length, option_map, codes, refl, sym, ap, subst, arith}
use Rattle.std.specs.Prelude.{find}
use Rattle.std.proofs.lemmas.List.{length-map, get_or-take, length-take-le}
use Rattle.std.proofs.lemmas.List.Elements.{All-head, All-tail}
use Rattle.std.proofs.lemmas.Option.{slice_get-map, get_or_from_slice_get}
use Rattle.serde_json.specs.Data.{Data}
use Rattle.dt_cred.specs.declared.account.Account.{Account as AccountType}
use Rattle.dt_cred.specs.declared.account.Process.{Process as ProcessType}
use Rattle.dt_cred.specs.declared.probe.Probe.{Probe as ProbeType}
use Rattle.dt_cred.specs.declared.firing.Firing.{Firing as FiringType}
use Rattle.dt_machine.specs.declared.fault.FaultNumber.TheVariants.{Cpus, Account, Process, Probe, Script, Foreign}
use Rattle.dt_machine.specs.Reading.{AllRight, AllRightIn, Passes, Registers, IsDescribed, accounts_in, processes_in}
use Rattle.dt_machine.specs.Reading.{probes_in, scripts_in}
use Rattle.dt_machine.specs.Registry.{Registry, Contents, Belongs, IsSound, IsNumbered, probe_of}
use Rattle.dt_machine.specs.Rows.{AccountRow, ProcessRow, account, process, scripts, number_in, AreProbes}
use Rattle.dt_machine.specs.Rows.{IsGivenBelow, IsRightAccount, IsRightProcess}
use Rattle.dt_machine.specs.laws.Scripts.{within, few_rows, length-scripts, length-script_at, placed_at, same_some}
use Rattle.dt_machine.specs.laws.Spelling.{length-probes, spelled_at, first_probe, second_probe, probes_one}
use Rattle.dt_machine.specs.Limits.{cpus_max, accounts_max, processes_max, pid_max, probes_max}

abbrev pub at_pid : ℕ → ProcessType → Bool
at_pid pid p = p.pid == pid

-- an earlier row is among those before
before_at : {A : Type 0} (rows : List A) (i j : ℕ) (x : A) (P : A → Type 0) → i < j → slice_get rows i ≡ Some x
    → j ≤ length rows → All P (take j rows) → P x
before_at rows i j x P less there high each =
    let inside : i < length (take j rows) = omega (arith, length-take-le j rows high) in
    let is : get_or (take j rows) i x ≡ x = get_or-take j rows i x less ∙ get_or_from_slice_get rows i x x there in
    subst P is (each i x inside)

mapped_at : {A B : Type 0} (f : A → B) (rows : List A) (i : ℕ) (x : A) (d : B) → slice_get rows i ≡ Some x
    → get_or (map f rows) i d ≡ f x
mapped_at f rows i x d there = get_or_from_slice_get (map f rows) i (f x) d
    (slice_get-map f rows i ∙ ap (option_map f) there)

pub pairs : {A B : Type 0} (f : A → B) (R : B → B → Type 0) (IsRight : List A → A → Type 0) (rows : List A)
    → AllRight IsRight rows
    → ((i j : ℕ) (x y : A) → IsRight (take i rows) x → IsRight (take j rows) y → i < j → slice_get rows i ≡ Some x
    → j < length rows → R (f x) (f y)) → AllPairs R (map f rows)
pairs {A} {B} f R IsRight rows right apart i j d less inside =
    let high : j < length rows = omega (arith, length-map rows f) in
    let at_i = within rows i (omega arith) in
    let at_j = within rows j high in
    let P : B → Type 0 = λ b. R b (get_or (map f rows) j d) in
    let Q : B → Type 0 = λ b. R (f at_i.0) b in
    subst P (sym (mapped_at f rows i at_i.0 d at_i.1)) (subst Q (sym (mapped_at f rows j at_j.0 d at_j.1))
    (apart i j at_i.0 at_j.0 (right i at_i.0 at_i.1) (right j at_j.0 at_j.1) less at_i.1 high))

pub names_apart : (rows : List AccountRow) → AllRight IsRightAccount rows
    → AllPairs (λ (a b : AccountType). a.name ≢ b.name) (map account rows)
names_apart rows right =
    pairs account (λ (a b : AccountType). a.name ≢ b.name) IsRightAccount rows right
    (λ i j x y _ right_y less there high. before_at rows i j x (λ (e : AccountRow). e.name ≢ y.name) less there
    (omega arith) right_y.new)

pub below_some : (limit : ℕ) (number : Option ℕ) → IsGivenBelow limit number → number ≡ Some (number_in number)
below_some limit None h = absurd h
below_some limit (Some n) h = refl

pids_differ : (x y : ProcessRow) (before earlier : List ProcessRow) → IsRightProcess earlier x
    → IsRightProcess before y → x.pid ≢ y.pid → number_in x.pid ≢ number_in y.pid
pids_differ x y before earlier right_x right_y differ same =
    differ (below_some (pid_max + 1) x.pid right_x.pid ∙ ap Some same ∙ sym (below_some (pid_max + 1) y.pid right_y.pid))

pub pids_apart : (rows : List ProcessRow) → AllRight IsRightProcess rows
    → AllPairs (λ (a b : ProcessType). a.pid ≢ b.pid) (map process rows)
pids_apart rows right =
    pairs process (λ (a b : ProcessType). a.pid ≢ b.pid) IsRightProcess rows right
    (λ i j x y right_x right_y less there high. pids_differ x y (take j rows) (take i rows) right_x right_y
    (before_at rows i j x (λ (e : ProcessRow). e.pid ≢ y.pid) less there (omega arith) right_y.new))

-- the number of every process is of six digits at most
below_value : (number : Option ℕ) → IsGivenBelow (pid_max + 1) number → number_in number ≤ pid_max
below_value None h = absurd h
below_value (Some n) h = omega arith

small_rows : (rows : List ProcessRow) → AllRight IsRightProcess rows → All (λ row. number_in row.pid ≤ pid_max) rows
small_rows rows right k d inside =
    let at = within rows k inside in
    let is : get_or rows k d ≡ at.0 = get_or_from_slice_get rows k at.0 d at.1 in
    subst (λ (row : ProcessRow). number_in row.pid ≤ pid_max) (sym is) (below_value at.0.pid (right k at.0 at.1).pid)

pub one_or_other : {A : Type 0} (b : Bool) (x : A) (o : Option A) (P : A → Type 0) → P x → IfSome o P
    → IfSome (cond b (Some x) o) P
one_or_other true x o P here there = here
one_or_other false x o P here there = there

small_pid : (rows : List ProcessRow) (pid : ℕ) → All (λ row. number_in row.pid ≤ pid_max) rows
    → IfSome (find (at_pid pid) (map process rows)) (λ p. p.pid ≤ pid_max)
small_pid [] pid each = tt
small_pid (row ∷ rows) pid each =
    one_or_other (number_in row.pid == pid) (process row) (find (at_pid pid) (map process rows))
    (λ (p : ProcessType). p.pid ≤ pid_max)
    (All-head (λ r. number_in r.pid ≤ pid_max) row rows each)
    (small_pid rows pid (All-tail (λ r. number_in r.pid ≤ pid_max) row rows each))

numbered_at : (registry : Registry) (texts : List (List ℕ)) (id : ℕ) → AreProbes 1 texts registry.probes
    → IfSome (probe_of registry id) (IsNumbered id)
numbered_at registry texts zero are = tt
numbered_at registry texts (suc before) are = step (slice_get registry.probes before) refl
  where
    step : (o : Option ProbeType) → slice_get registry.probes before ≡ o → IfSome o (IsNumbered (suc before))
    step None there = tt
    step (Some probe) there =
        let at = spelled_at 1 texts registry.probes before probe are there in
        record { number = at.number ∙ omega arith; class = at.class }

-- a file gives one registry
pub registry_one : (d : Data) (r s : Registry) → Registers d r → Registers d s → r ≡ s
registry_one d r s a b =
    let cpus = same_some r.cpus s.cpus (sym a.cpus ∙ b.cpus) in
    let accounts = a.accounts ∙ sym b.accounts in
    let processes = a.processes ∙ sym b.processes in
    let probes = probes_one 1 (codes "dtrace:::BEGIN" ∷ codes "dtrace:::END" ∷ probes_in d) r.probes s.probes
    a.probes b.probes in
    λ i. record { cpus = cpus i; accounts = accounts i; processes = processes i; probes = probes i }

-- the tests that a machine has passed, with its registry
pub record HasPassed (d : Data) (registry : Registry) : Type 0 where
  pub registers : Registers d registry
  pub cpus : Passes Cpus d
  pub accounts : Passes Account d
  pub processes : Passes Process d
  pub probes : Passes Probe d
  pub scripts : Passes Script d

one_some : {A : Type 0} (o : Option A) (x : A) (P : A → Type 0) → o ≡ Some x → IsSomeAnd o P → P x
one_some None x P e h = absurd h
one_some (Some y) x P e h = let same : y ≡ x = cc in subst P same h

pub cpus_within : (d : Data) (registry : Registry) → HasPassed d registry → (1 ≤ registry.cpus) × (registry.cpus ≤ cpus_max)
cpus_within d registry h = one_some _ registry.cpus (λ cpus. (1 ≤ cpus) × (cpus ≤ cpus_max)) h.registers.cpus h.cpus

pub one_script_each : (d : Data) (registry : Registry) → HasPassed d registry → length (scripts_in d) ≡ registry.cpus
one_script_each d registry h = same_some _ _ (sym h.scripts.0 ∙ h.registers.cpus)

pub sound : (d : Data) (registry : Registry) → HasPassed d registry
    → AllRightIn (λ _ found. Belongs registry found) (scripts 0 (scripts_in d))
    → IsSound (record { registry = registry; scripts = scripts 0 (scripts_in d) })
sound d registry h belong =
    let r = h.registers in
    let cpus = cpus_within d registry h in
    let A : List AccountType → Type 0 = AllPairs (λ (a b : AccountType). a.name ≢ b.name) in
    let P : List ProcessType → Type 0 = AllPairs (λ (a b : ProcessType). a.pid ≢ b.pid) in
    let accounts = few_rows (accounts_in d) accounts_max (λ k row there. (h.accounts k row there).few) in
    let processes = few_rows (processes_in d) processes_max (λ k row there. (h.processes k row there).few) in
    let probes = few_rows (probes_in d) probes_max (λ k row there. (h.probes k row there).few) in
    let counted = length-probes 1 (codes "dtrace:::BEGIN" ∷ codes "dtrace:::END" ∷ probes_in d) registry.probes
    r.probes in
    record {
      some_cpu = cpus.0;
      few_cpus = cpus.1;
      few_accounts = omega (arith, ap length r.accounts, length-map (accounts_in d) account);
      names = subst A (sym r.accounts) (names_apart (accounts_in d) h.accounts);
      few_processes = omega (arith, ap length r.processes, length-map (processes_in d) process);
      pids = subst P (sym r.processes) (pids_apart (processes_in d) h.processes);
      small_pids = λ pid. subst (λ (ps : List ProcessType). IfSome (find (at_pid pid) ps)
          (λ process. process.pid ≤ pid_max)) (sym r.processes)
          (small_pid (processes_in d) pid (small_rows (processes_in d) h.processes));
      few_probes = omega arith;
      first = first_probe (codes "dtrace:::BEGIN") (codes "dtrace:::END") (probes_in d) registry.probes r.probes;
      second = second_probe (codes "dtrace:::BEGIN") (codes "dtrace:::END") (probes_in d) registry.probes r.probes;
      numbered = λ id. numbered_at registry (codes "dtrace:::BEGIN" ∷ codes "dtrace:::END" ∷ probes_in d) id r.probes;
      scripts = length-scripts 0 (scripts_in d) ∙ one_script_each d registry h;
      short = λ cpu. length-script_at (scripts_in d) cpu h.scripts.1;
      placed = λ cpu place. placed_at registry (scripts_in d) cpu place belong;
    }

-- a machine that a text describes is sound
pub described_sound : (text : List ℕ) (contents : Contents) → IsDescribed text contents → IsSound contents
described_sound text contents is =
    let d = is.data_of in
    let foreign = is.right Foreign in
    let same = registry_one d foreign.0 contents.registry foreign.1 is.registry in
    let B : Registry → Type 0 = λ r. AllRightIn (λ _ found. Belongs r found) (scripts 0 (scripts_in d)) in
    let h : HasPassed d contents.registry = record {
      registers = is.registry;
      cpus = is.right Cpus;
      accounts = is.right Account;
      processes = is.right Process;
      probes = is.right Probe;
      scripts = is.right Script;
    } in
    let S : List (List FiringType) → Type 0 =
    λ firings. IsSound (record { registry = contents.registry; scripts = firings }) in
    subst S (sym is.firings) (sound d contents.registry h (subst B same foreign.2))
