-- A text has one answer.
use Rattle.std.proofs.Common.{◌≡◌, ◌∙◌, ◌<◌, ◌⊎◌, inl, inr, ℕ, List, Option, Some, None, IsSomeAnd, slice_get, length, take, map}
use Rattle.std.proofs.Common.{sym, ap, subst, arith}
use Rattle.std.proofs.lemmas.Bool.{false≢true}
use Rattle.serde_json.specs.Data.{Data}
use Rattle.dt_machine.specs.declared.fault.FaultNumber.{FaultNumber}
use Rattle.dt_machine.specs.declared.fault.FaultNumber.TheVariants.{Json, Shape, Cpus, Account, Process, Probe, Script}
use Rattle.dt_machine.specs.declared.fault.FaultNumber.TheVariants.{Firing, Foreign, Memory}
use Rattle.dt_machine.specs.declared.fault.MachineFault.{MachineFault}
use Rattle.dt_machine.specs.Reading.{AllRight, AllRightIn, IsFirstWrong, IsFirstWrongIn, Passes, Finds, Registers, IsJson, IsFirstFinding, IsFaultOf, IsDescribed, IsScriptFault, rank_of, FaultTells, IsFoundOfScripts, processes_in, scripts_in}
use Rattle.dt_machine.specs.Registry.{Registry, Contents, Belongs}
use Rattle.dt_cred.specs.declared.account.Process.{Process as ProcessType}
use Rattle.dt_machine.specs.declared.found.Found.{Found}
use Rattle.dt_machine.specs.declared.found.FileKey.TheVariants as key
use Rattle.dt_machine.specs.declared.found.Part.TheVariants as part
use Rattle.dt_machine.specs.Given.{items, items_at, is_text, is_list_of}
use Rattle.dt_machine.specs.Shape.{is_account, is_process, is_firing}
use Rattle.dt_machine.specs.Found.{Else, of, IsFirstFound, IsFoundOfList, IsFoundOfShape, IsMisshapenAccount, IsMisshapenProcess}
use Rattle.dt_machine.specs.Found.{IsMisshapenProbe, IsMisshapenFiring, IsMisshapenScript, IsMisshapenFile}
use Rattle.std.proofs.Common.{Bool, true, codes}
use Rattle.dt_machine.specs.Found.{Fails, IsFoundAt, IsFoundIn, IsFoundOfAccount, IsFoundOfProcess, IsFoundOfProbe, IsFoundOfFiring}
use Rattle.dt_machine.specs.Rows.{AccountRow, ProcessRow, FiringRow, HasRoom, IsRightFiring, process, scripts}
use Rattle.dt_machine.proofs.Faults.{one_number}
use Rattle.dt_machine.specs.laws.Scripts.{same_some}
use Rattle.dt_machine.specs.laws.Soundness.{registry_one}

-- the three ways in which two numbers stand
order : (a b : ℕ) → (a < b) ⊎ ((a ≡ b) ⊎ (b < a))
order a b = grind arith

-- the first wrong row is one
clash_rows : {A : Type 0} (R : List A → A → Type 0) (rows : List A) (i j : ℕ) → i < j → IsFirstWrong R rows i
    → IsFirstWrong R rows j → ⊥
clash_rows R rows i j less a b = a.wrong (b.right_before i a.row less a.there)

first_one : {A : Type 0} (R : List A → A → Type 0) (rows : List A) (i j : ℕ) → IsFirstWrong R rows i
    → IsFirstWrong R rows j → i ≡ j
first_one R rows i j a b = elim (order i j) [
  | inl less ↦ absurd (clash_rows R rows i j less a b)
  | inr rest ↦ elim rest [ inl same ↦ same | inr more ↦ absurd (clash_rows R rows j i more b a) ]
]

none_wrong : {A : Type 0} (R : List A → A → Type 0) (rows : List A) (i : ℕ) → AllRight R rows
    → IsFirstWrong R rows i → ⊥
none_wrong R rows i right a = a.wrong (right i a.row a.there)

none_wrong_in : {A : Type 0} (R : List A → A → Type 0) (all : List (List A)) (cpu i : ℕ) → AllRightIn R all
    → IsFirstWrongIn R all cpu i → ⊥
none_wrong_in R all cpu i right a = none_wrong R a.script i (right cpu a.script a.there) a.first

clash_scripts : {A : Type 0} (R : List A → A → Type 0) (all : List (List A)) (c k i j : ℕ) → c < k
    → IsFirstWrongIn R all c i → IsFirstWrongIn R all k j → ⊥
clash_scripts R all c k i j less a b = none_wrong R a.script i (b.right_before c a.script less a.there) a.first

first_one_in : {A : Type 0} (R : List A → A → Type 0) (all : List (List A)) (c k i j : ℕ)
    → IsFirstWrongIn R all c i → IsFirstWrongIn R all k j → (c ≡ k) × (i ≡ j)
first_one_in {A} R all c k i j a b = elim (order c k) [
  | inl less ↦ absurd (clash_scripts R all c k i j less a b)
  | inr rest ↦ elim rest [
    | inl same ↦
        (let moved : slice_get all k ≡ Some a.script = ap (slice_get all) (sym same) ∙ a.there in
        let one = same_some a.script b.script (sym moved ∙ b.there) in
        let F : List A → Type 0 = λ script. IsFirstWrong R script i in
        (same, first_one R b.script i j (subst F one a.first) b.first))
    | inr more ↦ absurd (clash_scripts R all k c j i more b a)
  ]
]

both_places : (c k i j : ℕ) → (c ≡ 0) × (i ≡ 0) → (k ≡ 0) × (j ≡ 0) → (c ≡ k) × (i ≡ j)
both_places c k i j a b = (a.0 ∙ sym b.0, a.1 ∙ sym b.1)

script_one : (cpus : ℕ) (all : List (List FiringRow)) (c k i j : ℕ) → IsScriptFault cpus all c i
    → IsScriptFault cpus all k j → (c ≡ k) × (i ≡ j)
script_one cpus all c k i j (inl a) (inl b) = both_places c k i j a.1 b.1
script_one cpus all c k i j (inl a) (inr b) = absurd (a.0 b.0)
script_one cpus all c k i j (inr a) (inl b) = absurd (b.0 a.0)
script_one cpus all c k i j (inr a) (inr b) = first_one_in HasRoom all c k i j a.1 b.1

script_clear : (cpus : ℕ) (all : List (List FiringRow)) (c i : ℕ) → cpus ≡ length all → AllRightIn HasRoom all
    → IsScriptFault cpus all c i → ⊥
script_clear cpus all c i same right (inl a) = a.0 same
script_clear cpus all c i same right (inr a) = none_wrong_in HasRoom all c i right a.1

-- what the tests of a number find, they find at one place
place_one : (number : FaultNumber) (d : Data) (c k i j : ℕ) → Finds number d c i → Finds number d k j
    → (c ≡ k) × (i ≡ j)
place_one Json d c k i j a b = absurd a
place_one Shape d c k i j a b = both_places c k i j a.1 b.1
place_one Cpus d c k i j a b = both_places c k i j a.1 b.1
place_one Account d c k i j a b = (a.0 ∙ sym b.0, first_one _ _ i j a.1 b.1)
place_one Process d c k i j a b = (a.0 ∙ sym b.0, first_one _ _ i j a.1 b.1)
place_one Probe d c k i j a b = (a.0 ∙ sym b.0, first_one _ _ i j a.1 b.1)
place_one Script d c k i j a b =
    let same = same_some a.0 b.0 (sym a.1 ∙ b.1) in
    let S : ℕ → Type 0 = λ n. IsScriptFault n (scripts_in d) c i in
    script_one b.0 (scripts_in d) c k i j (subst S same a.2) b.2
place_one Firing d c k i j a b =
    let same = registry_one d a.0 b.0 a.1 b.1 in
    let F : Registry → Type 0 = λ r. IsFirstWrongIn (IsRightFiring r) (scripts_in d) c i in
    first_one_in (IsRightFiring b.0) (scripts_in d) c k i j (subst F same a.2) b.2
place_one Foreign d c k i j a b =
    let same = registry_one d a.0 b.0 a.1 b.1 in
    let F : Registry → Type 0 = λ r. IsFirstWrongIn (λ _ firing. Belongs r firing) (scripts 0 (scripts_in d)) c i in
    first_one_in (λ _ firing. Belongs b.0 firing) (scripts 0 (scripts_in d)) c k i j (subst F same a.2) b.2
place_one Memory d c k i j a b = absurd a

-- tests that find nothing don't find anything
pub passes_finds : (number : FaultNumber) (d : Data) (c i : ℕ) → Passes number d → Finds number d c i → ⊥
passes_finds Json d c i p f = f
passes_finds Shape d c i p f = false≢true (sym f.0 ∙ p)
passes_finds Cpus d c i p f = f.0 p
passes_finds Account d c i p f = none_wrong _ _ i p f.1
passes_finds Process d c i p f = none_wrong _ _ i p f.1
passes_finds Probe d c i p f = none_wrong _ _ i p f.1
passes_finds Script d c i p f = script_clear f.0 (scripts_in d) c i (same_some f.0 _ (sym f.1 ∙ p.0)) p.1 f.2
passes_finds Firing d c i p f =
    let same = registry_one d p.0 f.0 p.1 f.1 in
    let R : Registry → Type 0 = λ r. AllRightIn (IsRightFiring r) (scripts_in d) in
    none_wrong_in (IsRightFiring f.0) (scripts_in d) c i (subst R same p.2) f.2
passes_finds Foreign d c i p f =
    let same = registry_one d p.0 f.0 p.1 f.1 in
    let R : Registry → Type 0 = λ r. AllRightIn (λ _ firing. Belongs r firing) (scripts 0 (scripts_in d)) in
    none_wrong_in (λ _ firing. Belongs f.0 firing) (scripts 0 (scripts_in d)) c i (subst R same p.2) f.2
passes_finds Memory d c i p f = f

-- what is wrong first is one
else_one : {C : Type 0} (Test Here There Now Later : Type 0) → (Here → There → C) → (Now → Later → C)
    → Else Test Here Now → Else Test There Later → C
else_one Test Here There Now Later here later (inl f) (inl g) = here f.1 g.1
else_one Test Here There Now Later here later (inl f) (inr g) = absurd (f.0 g.0)
else_one Test Here There Now Later here later (inr f) (inl g) = absurd (g.0 f.0)
else_one Test Here There Now Later here later (inr f) (inr g) = later f.1 g.1

fails_one : (a b this : Found) (Test Now Later : Type 0) → (Now → Later → a ≡ b) → Fails a this Test Now
    → Fails b this Test Later → a ≡ b
fails_one a b this Test Now Later later (inl f) (inl g) = f.1 ∙ sym g.1
fails_one a b this Test Now Later later (inl f) (inr g) = absurd (f.0 g.0)
fails_one a b this Test Now Later later (inr f) (inl g) = absurd (g.0 f.0)
fails_one a b this Test Now Later later (inr f) (inr g) = later f.1 g.1

nothing_later : (a b : Found) → ⊥ → ⊥ → a ≡ b
nothing_later a b f g = absurd f

account_told : (at : ℕ) (before : List AccountRow) (row : AccountRow) (a b : Found) → IsFoundOfAccount at before row a
    → IsFoundOfAccount at before row b → a ≡ b
account_told at before row a b = fails_one a b _ _ _ _ (fails_one a b _ _ _ _ (fails_one a b _ _ _ _
    (fails_one a b _ _ _ _ (nothing_later a b))))

process_told : (at : ℕ) (before : List ProcessRow) (row : ProcessRow) (a b : Found) → IsFoundOfProcess at before row a
    → IsFoundOfProcess at before row b → a ≡ b
process_told at before row a b = fails_one a b _ _ _ _ (fails_one a b _ _ _ _ (fails_one a b _ _ _ _
    (fails_one a b _ _ _ _ (nothing_later a b))))

probe_told : (processes : List ProcessType) (at : ℕ) (before : List (List ℕ)) (text : List ℕ) (a b : Found)
    → IsFoundOfProbe processes at before text a → IsFoundOfProbe processes at before text b → a ≡ b
probe_told processes at before text a b = fails_one a b _ _ _ _ (fails_one a b _ _ _ _ (fails_one a b _ _ _ _
    (nothing_later a b)))

firing_told : (registry : Registry) (cpu at : ℕ) (row : FiringRow) (a b : Found) → IsFoundOfFiring registry cpu at row a
    → IsFoundOfFiring registry cpu at row b → a ≡ b
firing_told registry cpu at row a b = fails_one a b _ _ _ _ (fails_one a b _ _ _ _ (fails_one a b _ _ _ _
    (fails_one a b _ _ _ _ (fails_one a b _ _ _ _ (fails_one a b _ _ _ _ (fails_one a b _ _ _ _
    (fails_one a b _ _ _ _ (nothing_later a b))))))))

both_told : (P : Found → Type 0) → ((a b : Found) → P a → P b → a ≡ b) → (x y : Option Found) → IsSomeAnd x P
    → IsSomeAnd y P → x ≡ y
both_told P one None y f g = absurd f
both_told P one (Some a) None f g = absurd g
both_told P one (Some a) (Some b) f g = ap Some (one a b f g)

told_at : {A : Type 0} (P : ℕ → List A → A → Found → Type 0) (rows : List A) (at : ℕ) (x y : Option Found)
    → ((before : List A) (row : A) (a b : Found) → P at before row a → P at before row b → a ≡ b)
    → IsFoundAt P rows at x → IsFoundAt P rows at y → x ≡ y
told_at {A} P rows at x y one f g =
    let same = same_some f.row g.row (sym f.there ∙ g.there) in
    let F : A → Type 0 = λ row. IsSomeAnd x (P at (take at rows) row) in
    both_told (P at (take at rows) g.row) (one (take at rows) g.row) x y (subst F same f.tells) g.tells

told_in : (registry : Registry) (all : List (List FiringRow)) (cpu at : ℕ) (x y : Option Found)
    → IsFoundIn (λ cpu at _. IsFoundOfFiring registry cpu at) all cpu at x
    → IsFoundIn (λ cpu at _. IsFoundOfFiring registry cpu at) all cpu at y → x ≡ y
told_in registry all cpu at x y f g =
    let same = same_some f.script g.script (sym f.there ∙ g.there) in
    let F : List FiringRow → Type 0 = λ rows. IsFoundAt (λ at _. IsFoundOfFiring registry cpu at) rows at x in
    told_at (λ at _. IsFoundOfFiring registry cpu at) g.script at x y (λ _ row. firing_told registry cpu at row)
    (subst F same f.tells) g.tells

scripts_told : (cpus : ℕ) (all : List (List FiringRow)) (cpu : ℕ) (x y : Option Found)
    → IsFoundOfScripts cpus all cpu x → IsFoundOfScripts cpus all cpu y → x ≡ y
scripts_told cpus all cpu x y f g = both_told _ (λ a b. fails_one a b _ _ _ _ (λ p q. p ∙ sym q)) x y f g

first_of : (p : Data → Bool) (M : ℕ → Data → Found → Type 0) (rows : List Data) (a : Found)
    (f : IsFirstFound p M rows a) → IsFirstWrong (λ _ d. p d ≡ true) rows f.at
first_of p M rows a f = record {
  row = f.row;
  there = f.there;
  wrong = λ right. false≢true (sym f.wrong ∙ right);
  right_before = f.right_before;
}

list_told : (this : Found) (p : Data → Bool) (M : ℕ → Data → Found → Type 0)
    → ((at : ℕ) (d : Data) (a b : Found) → M at d a → M at d b → a ≡ b) → (l : Option (List Data)) (a b : Found)
    → IsFoundOfList this p M l a → IsFoundOfList this p M l b → a ≡ b
list_told this p M one None a b f g = f ∙ sym g
list_told this p M one (Some rows) a b f g =
    let same = first_one (λ _ d. p d ≡ true) rows f.at g.at (first_of p M rows a f) (first_of p M rows b g) in
    let moved : slice_get rows g.at ≡ Some f.row = ap (slice_get rows) (sym same) ∙ f.there in
    let row = same_some f.row g.row (sym moved ∙ g.there) in
    let F : ℕ → Type 0 = λ n. M n f.row a in
    let G : Data → Type 0 = λ r. M g.at r a in
    one g.at g.row a b (subst G row (subst F same f.tells)) g.tells

account_shape_told : (at : ℕ) (d : Data) (a b : Found) → IsMisshapenAccount at d a → IsMisshapenAccount at d b → a ≡ b
account_shape_told at d a b = fails_one a b _ _ _ _ (fails_one a b _ _ _ _ (fails_one a b _ _ _ _ (nothing_later a b)))

process_shape_told : (at : ℕ) (d : Data) (a b : Found) → IsMisshapenProcess at d a → IsMisshapenProcess at d b → a ≡ b
process_shape_told at d a b = fails_one a b _ _ _ _ (fails_one a b _ _ _ _ (fails_one a b _ _ _ _ (nothing_later a b)))

probe_shape_told : (at : ℕ) (d : Data) (a b : Found) → IsMisshapenProbe at d a → IsMisshapenProbe at d b → a ≡ b
probe_shape_told at d a b = fails_one a b _ _ _ _ (nothing_later a b)

firing_shape_told : (cpu at : ℕ) (d : Data) (a b : Found) → IsMisshapenFiring cpu at d a → IsMisshapenFiring cpu at d b
    → a ≡ b
firing_shape_told cpu at d a b = fails_one a b _ _ _ _ (fails_one a b _ _ _ _ (fails_one a b _ _ _ _
    (fails_one a b _ _ _ _ (fails_one a b _ _ _ _ (fails_one a b _ _ _ _ (fails_one a b _ _ _ _
    (fails_one a b _ _ _ _ (nothing_later a b))))))))

script_shape_told : (cpu : ℕ) (d : Data) (a b : Found) → IsMisshapenScript cpu d a → IsMisshapenScript cpu d b → a ≡ b
script_shape_told cpu d a b = list_told (of (part.Script cpu) key.Scripts) is_firing (IsMisshapenFiring cpu)
    (firing_shape_told cpu) (items d) a b

file_shape_told : (d : Data) (a b : Found) → IsMisshapenFile d a → IsMisshapenFile d b → a ≡ b
file_shape_told d a b = fails_one a b _ _ _ _
    (else_one _ _ _ _ _ (list_told (of part.File key.Accounts) is_account IsMisshapenAccount account_shape_told
    (items_at (codes "accounts") d) a b)
    (else_one _ _ _ _ _ (list_told (of part.File key.Processes) is_process IsMisshapenProcess process_shape_told
    (items_at (codes "processes") d) a b)
    (else_one _ _ _ _ _ (list_told (of part.File key.Probes) is_text IsMisshapenProbe probe_shape_told
    (items_at (codes "probes") d) a b)
    (else_one _ _ _ _ _ (list_told (of part.File key.Scripts) (is_list_of is_firing) IsMisshapenScript script_shape_told
    (items_at (codes "scripts") d) a b) (nothing_later a b)))))

shape_told : (d : Data) (x y : Option Found) → IsFoundOfShape d x → IsFoundOfShape d y → x ≡ y
shape_told d x y = else_one _ _ _ _ _ (λ f g. f ∙ sym g) (both_told (IsMisshapenFile d) (file_shape_told d) x y)

told_one : (number : FaultNumber) (d : Data) (cpu row : ℕ) (x y : Option Found) → FaultTells number d cpu row x
    → FaultTells number d cpu row y → x ≡ y
told_one Json d cpu row x y f g = f ∙ sym g
told_one Shape d cpu row x y f g = shape_told d x y f g
told_one Cpus d cpu row x y f g = f ∙ sym g
told_one Account d cpu row x y f g = told_at IsFoundOfAccount _ row x y (account_told row) f g
told_one Process d cpu row x y f g = told_at IsFoundOfProcess _ row x y (process_told row) f g
told_one Probe d cpu row x y f g =
    told_at (IsFoundOfProbe (map process (processes_in d))) _ row x y (probe_told (map process (processes_in d)) row) f g
told_one Script d cpu row x y f g =
    let same = same_some f.0 g.0 (sym f.1 ∙ g.1) in
    let S : ℕ → Type 0 = λ n. IsFoundOfScripts n (scripts_in d) cpu x in
    scripts_told g.0 (scripts_in d) cpu x y (subst S same f.2) g.2
told_one Firing d cpu row x y f g =
    let same = registry_one d f.0 g.0 f.1 g.1 in
    let F : Registry → Type 0 = λ r. IsFoundIn (λ cpu at _. IsFoundOfFiring r cpu at) (scripts_in d) cpu row x in
    told_in g.0 (scripts_in d) cpu row x y (subst F same f.2) g.2
told_one Foreign d cpu row x y f g = f ∙ sym g
told_one Memory d cpu row x y f g = f ∙ sym g

same_fault : (a b : MachineFault) → a.number ≡ b.number → a.cpu ≡ b.cpu → a.row ≡ b.row → a.found ≡ b.found → a ≡ b
same_fault a b p q r s = λ i. record { number = p i; cpu = q i; row = r i; found = s i }

fault_one : (d : Data) (a b : MachineFault) → IsFirstFinding d a → IsFirstFinding d b → a ≡ b
fault_one d a b f g = elim (order (rank_of a.number) (rank_of b.number)) [
  | inl less ↦ absurd (passes_finds a.number d a.cpu a.row (g.none_before a.number less) f.found)
  | inr rest ↦ elim rest [
    | inl same ↦
        (let number = one_number a.number b.number same in
        let F : FaultNumber → Type 0 = λ n. Finds n d a.cpu a.row in
        let place = place_one b.number d a.cpu b.cpu a.row b.row (subst F number f.found) g.found in
        let N : FaultNumber → Type 0 = λ n. FaultTells n d a.cpu a.row a.found in
        let C : ℕ → Type 0 = λ cpu. FaultTells b.number d cpu a.row a.found in
        let R : ℕ → Type 0 = λ row. FaultTells b.number d b.cpu row a.found in
        let told = subst R place.1 (subst C place.0 (subst N number f.tells)) in
        same_fault a b number place.0 place.1 (told_one b.number d b.cpu b.row a.found b.found told g.tells))
    | inr more ↦ absurd (passes_finds b.number d b.cpu b.row (f.none_before b.number more) g.found)
  ]
]

data_one : (text : List ℕ) (d e : Data) → IsJson text d → IsJson text e → d ≡ e
data_one text d e a b = same_some d e (sym a.value ∙ b.value)

pub one_fault : (text : List ℕ) (a b : MachineFault) → IsFaultOf text a → IsFaultOf text b → a ≡ b
one_fault text a b (inl f) (inl g) = f.1 ∙ sym g.1
one_fault text a b (inl f) (inr g) = absurd (f.0 g.0 g.1)
one_fault text a b (inr f) (inl g) = absurd (g.0 f.0 f.1)
one_fault text a b (inr f) (inr g) =
    let same = data_one text f.0 g.0 f.1 g.1 in
    let F : Data → Type 0 = λ d. IsFirstFinding d a in
    fault_one g.0 a b (subst F same f.2) g.2

pub never_both : (text : List ℕ) (a : Contents) (b : MachineFault) → IsDescribed text a → IsFaultOf text b → ⊥
never_both text a b f (inl g) = g.0 f.data_of f.json
never_both text a b f (inr g) =
    let same = data_one text g.0 f.data_of g.1 f.json in
    let F : Data → Type 0 = λ d. IsFirstFinding d b in
    passes_finds b.number f.data_of b.cpu b.row (f.right b.number) (subst F same g.2).found

pub one_machine : (text : List ℕ) (a b : Contents) → IsDescribed text a → IsDescribed text b → a ≡ b
one_machine text a b f g =
    let same = data_one text f.data_of g.data_of f.json g.json in
    let R : Data → Type 0 = λ d. Registers d a.registry in
    let registry = registry_one g.data_of a.registry b.registry (subst R same f.registry) g.registry in
    let firings = f.firings ∙ ap (λ d. scripts 0 (scripts_in d)) same ∙ sym g.firings in
    λ i. record { registry = registry i; scripts = firings i }
