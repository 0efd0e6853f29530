-- A past gives one answer, and a part has one content.
use Rattle.std.proofs.Common.{◌≡◌, ◌≢◌, ℕ, zero, suc, ◌-◌, ◌<◌, ◌≤◌, ◌⊎◌, Bool, true, false, List, [], ◌∷◌, ◌++◌, length}
use Rattle.std.proofs.Common.{refl, sym, ap, ◌∙◌, subst, inl, inr, ⊎_elim, if◌then◌else◌, arith}
use Rattle.std.proofs.lemmas.Bool.{cases_Bool, cases_eq, cases_order, eq-eqb, false≢true, ne_eqb}
use Rattle.dt_buffer.specs.Choice.{IsFittingChoice, chosen_bytes, chosen_of}
use Rattle.dt_speculation.specs.Answers.{AllInUse, DrawAnswers, IsLeastFree}
use Rattle.dt_speculation.specs.History.{SpecEvent, SpecPast, put_under}
use Rattle.dt_speculation.specs.Records.{HasPart, put_to, records_of}
use Rattle.dt_speculation.specs.Uses.{is_in_use}
use Rattle.dt_speculation.specs.laws.Steps.{put_other, put_own, records_unused}

wider : (n : ℕ) (events : List SpecEvent) (id : ℕ) → IsLeastFree n events id → IsLeastFree (suc n) events id
wider n events id l = record { from = l.from; to = omega (arith, l.to); free_now = l.free_now; least = l.least }

all_wider : (n : ℕ) (events : List SpecEvent) → AllInUse n events → is_in_use (suc n) events ≡ true → AllInUse (suc n) events
all_wider n events all last m from to = ⊎_elim
    (λ (e : m ≡ suc n). subst (λ k. is_in_use k events ≡ true) (sym e) last)
    (λ (ne : m ≡ suc n → ⊥). all m from (below m n to ne))
    (cases_eq m (suc n))
  where
    below : (m n : ℕ) → m ≤ suc n → m ≢ suc n → m ≤ n
    below m n h ne = omega arith

pub some_answer : (nspec : ℕ) (events : List SpecEvent) → (answer : ℕ) × DrawAnswers nspec events answer
some_answer zero events = (0, inr (refl, (λ n from to. absurd (omega arith))))
some_answer (suc n) events =
    let found = some_answer n events in
    ⊎_elim
    (λ (least : IsLeastFree n events found.0).
    let P : (answer : ℕ) × DrawAnswers (suc n) events answer = (found.0, inl (wider n events found.0 least)) in P)
    (λ (none : (found.0 ≡ 0) × AllInUse n events). ⊎_elim
    (λ (used : is_in_use (suc n) events ≡ true).
    let P : (answer : ℕ) × DrawAnswers (suc n) events answer = (0, inr (refl, all_wider n events none.1 used)) in P)
    (λ (unused : is_in_use (suc n) events ≡ false).
    let P : (answer : ℕ) × DrawAnswers (suc n) events answer = (
      suc n,
      inl (record {
        from = omega arith;
        to = omega arith;
        free_now = unused;
        least = λ m from below. none.1 m from (omega arith);
      }),
    ) in P)
    (cases_Bool (is_in_use (suc n) events)))
    found.1

-- the least is one
not_below : (nspec : ℕ) (events : List SpecEvent) (a b : ℕ) → IsLeastFree nspec events a → IsLeastFree nspec events b
    → a < b → ⊥
not_below nspec events a b x y h = false≢true (sym x.free_now ∙ y.least a x.from h)

not_all : (nspec : ℕ) (events : List SpecEvent) (a : ℕ) → IsLeastFree nspec events a → AllInUse nspec events → ⊥
not_all nspec events a x all = false≢true (sym x.free_now ∙ all a x.from x.to)

one_least : (nspec : ℕ) (events : List SpecEvent) (a b : ℕ) → IsLeastFree nspec events a → IsLeastFree nspec events b → a ≡ b
one_least nspec events a b x y = ⊎_elim
    (λ (e : a ≡ b). e)
    (λ (ne : (a < b) ⊎ (b < a)). ⊎_elim
    (λ (h : a < b). absurd (not_below nspec events a b x y h))
    (λ (h : b < a). absurd (not_below nspec events b a y x h))
    ne)
    (cases_order a b)

pub one_draw : (nspec : ℕ) (events : List SpecEvent) (a b : ℕ) → DrawAnswers nspec events a → DrawAnswers nspec events b → a ≡ b
one_draw nspec events a b x y = ⊎_elim
    (λ (la : IsLeastFree nspec events a). ⊎_elim
    (λ (lb : IsLeastFree nspec events b). one_least nspec events a b la lb)
    (λ (none : (b ≡ 0) × AllInUse nspec events). absurd (not_all nspec events a la none.1))
    y)
    (λ (all : (a ≡ 0) × AllInUse nspec events). ⊎_elim
    (λ (lb : IsLeastFree nspec events b). absurd (not_all nspec events b lb all.1))
    (λ (none : (b ≡ 0) × AllInUse nspec events). all.0 ∙ sym none.0)
    y)
    x

-- what a draw gives wasn't in use
pub drawn_before : (nspec : ℕ) (events : List SpecEvent) (id : ℕ) → 1 ≤ id → DrawAnswers nspec events id
    → is_in_use id events ≡ false
drawn_before nspec events id h answers = ⊎_elim
    (λ (least : IsLeastFree nspec events id). least.free_now)
    (λ (none : (id ≡ 0) × AllInUse nspec events). absurd (omega (arith, none.0)))
    answers

-- a part has one content, since records have one choice
pub some_part : ((size : ℕ) (attempts : List (List ℕ)) → (chosen : List Bool) × IsFittingChoice size attempts chosen)
    → (past : SpecPast) (id cpu : ℕ) → (bytes : List ℕ) × HasPart past id cpu bytes
some_part some past id cpu =
    let records = records_of id cpu past.events in
    let c = some past.specsize records in (
      chosen_bytes records c.0,
      (
        length records - length (chosen_of records c.0),
        record { chosen = c.0; choice = c.1; kept = refl; dropped = refl },
      ),
    )

pub one_content : ((size : ℕ) (attempts : List (List ℕ)) (a b : List Bool) → IsFittingChoice size attempts a
    → IsFittingChoice size attempts b → a ≡ b)
    → (past : SpecPast) (id cpu : ℕ) (bytes other : List ℕ) → HasPart past id cpu bytes → HasPart past id cpu other → bytes ≡ other
one_content one past id cpu bytes other x y =
    let records = records_of id cpu past.events in
    x.1.kept ∙ ap (chosen_bytes records) (one past.specsize records x.1.chosen y.1.chosen x.1.choice y.1.choice) ∙ sym y.1.kept

pub none_kept : (past : SpecPast) (id cpu : ℕ) (bytes : List ℕ) → is_in_use id past.events ≡ false → HasPart past id cpu bytes
    → bytes ≡ []
none_kept past id cpu bytes unused x =
    x.1.kept ∙ ap (λ rs. chosen_bytes rs x.1.chosen) (records_unused id cpu past.events unused)

-- a put under an identifier that is in use
in_it : (u : Bool) (f g : ℕ → List (List ℕ)) (cpu : ℕ) → u ≡ true → (if u then f else g) cpu ≡ f cpu
in_it true f g cpu e = refl
in_it false f g cpu e = absurd (false≢true e)

out_of_it : (u : Bool) (f g : ℕ → List (List ℕ)) (cpu : ℕ) → f cpu ≡ g cpu → (if u then f else g) cpu ≡ g cpu
out_of_it true f g cpu e = e
out_of_it false f g cpu e = refl

not_it : (u : Bool) (f g : ℕ → List (List ℕ)) (cpu : ℕ) → u ≡ false → (if u then f else g) cpu ≡ g cpu
not_it true f g cpu e = absurd (false≢true (sym e))
not_it false f g cpu e = refl

module _ (events : List SpecEvent) where
  pub added : (id cpu : ℕ) (bytes : List ℕ) → is_in_use id events ≡ true
      → records_of id cpu (events ++ put_under id cpu bytes ∷ []) ≡ records_of id cpu events ++ bytes ∷ []
  added id cpu bytes used =
      put_own id events cpu cpu bytes
      ∙ in_it (is_in_use id events) (put_to cpu bytes (λ c. records_of id c events)) (λ c. records_of id c events) cpu used
      ∙ ap (λ b. if b then (records_of id cpu events ++ bytes ∷ []) else records_of id cpu events) (eq-eqb cpu cpu refl)

  same_id : (at : ℕ) (bytes : List ℕ) (id cpu : ℕ) → cpu ≢ at
      → records_of id cpu (events ++ put_under id at bytes ∷ []) ≡ records_of id cpu events
  same_id at bytes id cpu ne =
      put_own id events at cpu bytes
      ∙ out_of_it (is_in_use id events) (put_to at bytes (λ c. records_of id c events)) (λ c. records_of id c events) cpu
      (ap (λ b. if b then (records_of id cpu events ++ bytes ∷ []) else records_of id cpu events) (ne_eqb at cpu (λ e. ne (sym e))))

  pub added_elsewhere : (other at : ℕ) (bytes : List ℕ) (id cpu : ℕ) → (id ≢ other) ⊎ (cpu ≢ at)
      → records_of id cpu (events ++ put_under other at bytes ∷ []) ≡ records_of id cpu events
  added_elsewhere other at bytes id cpu differs = ⊎_elim
      (λ (e : other ≡ id). ⊎_elim
      (λ (ne : id ≢ other). absurd (ne (sym e)))
      (λ (ne : cpu ≢ at).
      subst (λ n. records_of id cpu (events ++ put_under n at bytes ∷ []) ≡ records_of id cpu events) (sym e)
      (same_id at bytes id cpu ne))
      differs)
      (λ (ne : other ≡ id → ⊥). put_other id events other at cpu bytes ne)
      (cases_eq other id)

  pub added_unused : (other at : ℕ) (bytes : List ℕ) (id cpu : ℕ) → is_in_use other events ≡ false
      → records_of id cpu (events ++ put_under other at bytes ∷ []) ≡ records_of id cpu events
  added_unused other at bytes id cpu unused = ⊎_elim
      (λ (e : other ≡ id).
      subst (λ n. records_of id cpu (events ++ put_under n at bytes ∷ []) ≡ records_of id cpu events) (sym e)
      (put_own id events at cpu bytes
      ∙ not_it (is_in_use id events) (put_to at bytes (λ c. records_of id c events)) (λ c. records_of id c events) cpu
      (subst (λ n. is_in_use n events ≡ false) e unused)))
      (λ (ne : other ≡ id → ⊥). put_other id events other at cpu bytes ne)
      (cases_eq other id)
