-- The ECBs that are made by the places of their clauses, one probe and one clause further.
use Rattle.std.proofs.Common.{◌≡◌, ℕ, suc, ◌+◌, ◌<◌, ◌≤◌, Bool, true, false, cond, List, [], ◌∷◌, ◌++◌, length, get_or}
use Rattle.std.proofs.Common.{take, map, filter, Some, sym, ap, subst, ◌∙◌, zero-add, arith}
use Rattle.std.specs.List.{AllByRecursion, slice_get}
use Rattle.std.specs.Option.{IfSome}
use Rattle.std.proofs.lemmas.List.{append_assoc, append-nil, length-append, length-map, length-take-le, take_more}
use Rattle.std.proofs.lemmas.List.{map-append}
use Rattle.std.proofs.lemmas.List.Elements.{filter_more}
use Rattle.std.proofs.lemmas.List.FromFn.{length-enumerate_from}
use Rattle.std.proofs.lemmas.Option.{slice_get-get_or}
use Rattle.dt_cred.specs.declared.account.Account.{Account}
use Rattle.dt_cred.specs.declared.probe.Probe.{Probe}
use Rattle.dt_machine.specs.Registry.{Registry, Contents, IsSound, IsNumbered}
use Rattle.dt_machine.specs.declared.limits.TheConstants.{PROBE_ID_MAX}
use Rattle.dt_program.specs.declared.clause.Clause.{Clause}
use Rattle.dt_program.specs.Program.{ClauseForm, form_of_clause}
use Rattle.dt_ecb.specs.Matching.{matched}
use Rattle.dt_ecb.specs.Places.{kept_in, kept_from, keys_at, keys_from}
use Rattle.dt_ecb.specs.declared.parts.Ecb.{Ecb}
use Rattle.dt_ecb.proofs.EcbLaws.{enumerate_from-append}

pub kept-append : (n : ℕ) (front back : List (ℕ × ℕ))
    → kept_from n (front ++ back) ≡ kept_from n front ++ kept_from (n + length front) back
kept-append n front back = enumerate_from-append n front back

pub length-kept : (n : ℕ) (keys : List (ℕ × ℕ)) → length (kept_from n keys) ≡ length keys
length-kept n keys = length-enumerate_from n keys

abbrev pub key_at : ℕ → Probe → ℕ × ℕ
key_at place probe = (probe.id, place)

-- what the ECBs of the probes that pass keep
abbrev pub kept_of : ℕ → ℕ → (Probe → Bool) → List Probe → List (ℕ × (ℕ × ℕ))
kept_of n place test probes = kept_from n (map (key_at place) (filter test probes))

module _ (n place : ℕ) (test : Probe → Bool) (probes : List Probe) (i : ℕ) (probe : Probe)
    (inside : i < length probes) (is : probe ≡ get_or probes i probe) where
  abbrev before : List Probe
  before = filter test (take i probes)

  more_by : (b : Bool) → test (get_or probes i probe) ≡ b
      → kept_of n place test (take (i + 1) probes)
      ≡ kept_from n (map (key_at place) (before ++ cond b (get_or probes i probe ∷ []) []))
  more_by b e =
      ap (λ ps. kept_from n (map (key_at place) ps)) (filter_more test probes i probe inside)
      ∙ ap (λ c. kept_from n (map (key_at place) (before ++ cond c (get_or probes i probe ∷ []) []))) e

  -- a probe that passes
  pub kept_more : test probe ≡ true
      → kept_of n place test (take (i + 1) probes)
      ≡ kept_of n place test (take i probes)
      ++ ((n + length (kept_of n place test (take i probes)), key_at place probe) ∷ [])
  kept_more passes =
      let long : length (map (key_at place) before) ≡ length (kept_of n place test (take i probes)) =
      sym (length-kept n (map (key_at place) before)) in
      more_by true (ap test (sym is) ∙ passes)
      ∙ ap (λ p. kept_from n (map (key_at place) (before ++ p ∷ []))) (sym is)
      ∙ ap (kept_from n) (map-append (key_at place) before (probe ∷ []))
      ∙ kept-append n (map (key_at place) before) ((probe.id, place) ∷ [])
      ∙ ap (λ m. kept_of n place test (take i probes) ++ kept_from (n + m) ((probe.id, place) ∷ [])) long

  -- a probe that doesn't
  pub kept_less : test probe ≡ false
      → kept_of n place test (take (i + 1) probes) ≡ kept_of n place test (take i probes)
  kept_less fails =
      more_by false (ap test (sym is) ∙ fails)
      ∙ ap (λ ps. kept_from n (map (key_at place) ps)) (append-nil before)

module _ (account : Account) (registry : Registry) where
  abbrev keys : ℕ → List ClauseForm → List (ℕ × ℕ)
  keys = keys_from account registry

  pub keys_from-append : (place : ℕ) (front back : List ClauseForm)
      → keys place (front ++ back) ≡ keys place front ++ keys (place + length front) back
  keys_from-append place [] back = ap (λ p. keys p back) (omega arith)
  keys_from-append place (clause ∷ front) back =
      ap
      (λ rest. keys_at account registry place clause ++ rest)
      (keys_from-append (place + 1) front back
      ∙ ap (λ p. keys (place + 1) front ++ keys p back) (shift place (length front)))
      ∙ sym (append_assoc
      (keys_at account registry place clause)
      (keys (place + 1) front)
      (keys (place + suc (length front)) back))
    where
      shift : (p n : ℕ) → p + 1 + n ≡ p + suc n
      shift p n = omega arith

  keys_more : (i : ℕ) (clauses : List Clause) (clause : Clause)
      → i < length clauses → clause ≡ get_or clauses i clause
      → keys 0 (map form_of_clause (take (i + 1) clauses))
      ≡ keys 0 (map form_of_clause (take i clauses)) ++ keys_at account registry i (form_of_clause clause)
  keys_more i clauses clause inside is =
      let forms = map form_of_clause (take i clauses) in
      let next = form_of_clause (get_or clauses i clause) in
      let long : length forms ≡ i =
      length-map (take i clauses) form_of_clause ∙ length-take-le i clauses (omega arith) in
      ap (λ xs. keys 0 (map form_of_clause xs)) (take_more clauses i clause inside)
      ∙ ap (keys 0) (map-append form_of_clause (take i clauses) (get_or clauses i clause ∷ []))
      ∙ keys_from-append 0 forms (next ∷ [])
      ∙ ap (λ n. keys 0 forms ++ keys n (next ∷ [])) (zero-add (length forms) ∙ long)
      ∙ ap (λ ks. keys 0 forms ++ ks) (append-nil (keys_at account registry i next))
      ∙ ap (λ c. keys 0 forms ++ keys_at account registry i (form_of_clause c)) (sym is)

  -- the ECBs of one clause more
  pub clause_more : (n i : ℕ) (clauses : List Clause) (clause : Clause) (old new : List Ecb)
      → i < length clauses → clause ≡ get_or clauses i clause
      → map kept_in old ≡ kept_from n (keys 0 (map form_of_clause (take i clauses)))
      → map kept_in new ≡ map kept_in old
      ++ kept_from (n + length old) (keys_at account registry i (form_of_clause clause))
      → map kept_in new ≡ kept_from n (keys 0 (map form_of_clause (take (i + 1) clauses)))
  clause_more n i clauses clause old new inside is olds news =
      let front = keys 0 (map form_of_clause (take i clauses)) in
      let back = keys_at account registry i (form_of_clause clause) in
      let long : length old ≡ length front =
      sym (length-map old kept_in) ∙ ap length olds ∙ length-kept n front in
      news
      ∙ ap (λ xs. xs ++ kept_from (n + length old) back) olds
      ∙ ap (λ m. kept_from n front ++ kept_from (n + m) back) long
      ∙ sym (kept-append n front back)
      ∙ ap (kept_from n) (sym (keys_more i clauses clause inside is))

-- a clause adds an ECB for each probe that it takes effect on
pub count_added : (account : Account) (registry : Registry) (n place : ℕ) (clause : ClauseForm) (old new : List Ecb)
    → map kept_in new ≡ map kept_in old ++ kept_from n (keys_at account registry place clause)
    → length new ≡ length old + length (matched account registry clause)
count_added account registry n place clause old new news =
    omega (
      arith,
      ap length news,
      length-append (map kept_in old) (kept_from n (keys_at account registry place clause)),
      length-map new kept_in,
      length-map old kept_in,
      length-kept n (keys_at account registry place clause),
      length-map (matched account registry clause) (key_at place),
    )

-- the clauses of ECBs are among as many
abbrev AllBelow : ℕ → List (ℕ × ℕ) → Type 0
AllBelow bound = AllByRecursion (λ (key : ℕ × ℕ). key.1 < bound)

all_there : (place bound : ℕ) (probes : List Probe) → place < bound → AllBelow bound (map (key_at place) probes)
all_there place bound [] h = tt
all_there place bound (probe ∷ probes) h = (h, all_there place bound probes h)

all_both : (bound : ℕ) (xs ys : List (ℕ × ℕ)) → AllBelow bound xs → AllBelow bound ys → AllBelow bound (xs ++ ys)
all_both bound [] ys h k = k
all_both bound (x ∷ xs) ys h k = (h.0, all_both bound xs ys h.1 k)

placed_keys : (account : Account) (registry : Registry) (place bound : ℕ) (clauses : List ClauseForm)
    → place + length clauses ≤ bound → AllBelow bound (keys_from account registry place clauses)
placed_keys account registry place bound [] h = tt
placed_keys account registry place bound (clause ∷ clauses) h =
    all_both bound (keys_at account registry place clause) (keys_from account registry (place + 1) clauses)
    (all_there place bound (matched account registry clause) (omega arith))
    (placed_keys account registry (place + 1) bound clauses (omega arith))

kept_placed : (n bound : ℕ) (keys : List (ℕ × ℕ)) → AllBelow bound keys
    → AllByRecursion (λ (kept : ℕ × (ℕ × ℕ)). kept.1.1 < bound) (kept_from n keys)
kept_placed n bound [] h = tt
kept_placed n bound (key ∷ keys) h = (h.0, kept_placed (n + 1) bound keys h.1)

placed_by_kept : (bound : ℕ) (ecbs : List Ecb)
    → AllByRecursion (λ (kept : ℕ × (ℕ × ℕ)). kept.1.1 < bound) (map kept_in ecbs)
    → AllByRecursion (λ (ecb : Ecb). ecb.clause < bound) ecbs
placed_by_kept bound [] h = tt
placed_by_kept bound (ecb ∷ ecbs) h = (h.0, placed_by_kept bound ecbs h.1)

pub all_placed : (account : Account) (registry : Registry) (n bound : ℕ) (clauses : List ClauseForm) (ecbs : List Ecb)
    → length clauses ≤ bound → map kept_in ecbs ≡ kept_from n (keys_from account registry 0 clauses)
    → AllByRecursion (λ (ecb : Ecb). ecb.clause < bound) ecbs
all_placed account registry n bound clauses ecbs h made =
    let P : List (ℕ × (ℕ × ℕ)) → Type 0 = AllByRecursion (λ (kept : ℕ × (ℕ × ℕ)). kept.1.1 < bound) in
    placed_by_kept bound ecbs
    (subst P (sym made)
    (kept_placed n bound (keys_from account registry 0 clauses)
    (placed_keys account registry 0 bound clauses (omega arith))))

-- the identifier of a machine's probe is one that a machine can have
pub small_id : (contents : Contents) → IsSound contents → (probes : List Probe) → probes ≡ contents.registry.probes
    → (i : ℕ) (probe : Probe) → i < length probes → probe ≡ get_or probes i probe → probe.id ≤ PROBE_ID_MAX
small_id contents sound probes all i probe inside is =
    let there : slice_get contents.registry.probes i ≡ Some probe =
    ap (λ xs. slice_get xs i) (sym all) ∙ slice_get-get_or probes i probe inside ∙ ap Some (sym is) in
    let numbered : IsNumbered (suc i) probe =
    subst (λ o. IfSome o (IsNumbered (suc i))) there (sound.numbered (suc i)) in
    omega (arith, numbered.number, sound.few_probes, inside, ap length all)

-- an ECB was pushed
pub kept_push : (xs ys : List Ecb) (ecb : Ecb) → ys ≡ xs ++ ecb ∷ [] → map kept_in ys ≡ map kept_in xs
    ++ kept_in ecb ∷ []
kept_push xs ys ecb grown = ap (map kept_in) grown ∙ map-append kept_in xs (ecb ∷ [])

pub count_grown : (xs ys : List Ecb) (kept : ℕ × (ℕ × ℕ)) → map kept_in ys ≡ map kept_in xs ++ kept ∷ []
    → length ys ≡ length xs + 1
count_grown xs ys kept grown =
    omega (
      arith,
      ap length grown,
      length-append (map kept_in xs) (kept ∷ []),
      length-map xs kept_in,
      length-map ys kept_in,
    )

-- one turn of the walk over the probes
module _ (first place : ℕ) (test : Probe → Bool) (probes : List Probe) (i : ℕ) (probe : Probe)
    (inside : i < length probes) (is : probe ≡ get_or probes i probe) (old ecbs new : List Ecb)
    (done : map kept_in ecbs ≡ map kept_in old ++ kept_of (first + length old) place test (take i probes)) where
  abbrev more : List (ℕ × (ℕ × ℕ))
  more = kept_of (first + length old) place test (take i probes)

  pub pushed : test probe ≡ true
      → map kept_in new ≡ map kept_in ecbs ++ ((first + length ecbs, key_at place probe) ∷ [])
      → map kept_in new ≡ map kept_in old ++ kept_of (first + length old) place test (take (i + 1) probes)
  pushed passes grown =
      let number : first + length ecbs ≡ first + length old + length more =
      omega (
        arith,
        ap length done,
        length-append (map kept_in old) more,
        length-map ecbs kept_in,
        length-map old kept_in,
      ) in
      grown
      ∙ ap (λ xs. xs ++ ((first + length ecbs, key_at place probe) ∷ [])) done
      ∙ ap (λ n. (map kept_in old ++ more) ++ ((n, key_at place probe) ∷ [])) number
      ∙ append_assoc (map kept_in old) more ((first + length old + length more, key_at place probe) ∷ [])
      ∙ ap
      (λ xs. map kept_in old ++ xs)
      (sym (kept_more (first + length old) place test probes i probe inside is passes))

  pub not_pushed : test probe ≡ false → new ≡ ecbs
      → map kept_in new ≡ map kept_in old ++ kept_of (first + length old) place test (take (i + 1) probes)
  not_pushed fails same =
      ap (map kept_in) same ∙ done
      ∙ ap
      (λ xs. map kept_in old ++ xs)
      (sym (kept_less (first + length old) place test probes i probe inside is fails))
