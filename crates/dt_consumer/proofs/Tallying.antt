-- Processors, as more comes to them.
use Rattle.std.proofs.Common.{◌≡◌, ◌≢◌, ℕ, zero, suc, ◌+◌, ◌<◌, ◌≤◌, Bool, true, false, cond, List, [], ◌∷◌, ◌++◌, length, get_or, Option, Some, None, map}
use Rattle.std.proofs.Common.{append_assoc, refl, sym, ap, ap₂, ◌∙◌, subst, ⊎_elim, arith}
use Rattle.std.specs.Bool.{nat_lt}
use Rattle.std.specs.Prelude.{count_by}
use Rattle.std.proofs.lemmas.List.Sums.{sum_by-cons}
use Rattle.std.specs.List.{slice_get, slice_set, All}
use Rattle.std.specs.Option.{IfSome}
use Rattle.std.proofs.lemmas.Bool.{cases_eq, cases_lt, eq-eqb, le-ltb, lt-ltb, ne_eqb}
use Rattle.std.proofs.lemmas.List.{append-nil}
use Rattle.std.proofs.lemmas.List.Elements.{All-head, All-tail}
use Rattle.std.proofs.lemmas.Option.{slice_get-get_or}
use Rattle.dt_buffer.specs.History.{attempt, of_end}
use Rattle.dt_buffer.specs.History as buffer
use Rattle.dt_buffer.specs.Shows.{EndLast}
use Rattle.dt_record.specs.Taking.{TakenForm}
use Rattle.dt_speculation.specs.History.{SpecEvent, SpecPast, put_under}
use Rattle.dt_speculation.specs.Parts.{is_dropped}
use Rattle.dt_speculation.specs.declared.answer.SpecPut.{SpecPut}
use Rattle.dt_speculation.specs.declared.answer.SpecPut.TheVariants.{Dropped}
use Rattle.dt_consumer.specs.Counts.{AtMost}
use Rattle.dt_consumer.specs.Tallies.{Tally, IsTallied, AreTallied, changed_at, with_left, with_records}
use Rattle.dt_life.specs.Takings.{puts_in}
use Rattle.dt_consumer.specs.declared.processor.Processor.{Processor}
use Rattle.dt_life.specs.laws.Buffers.{in_end_last, still_last}
use Rattle.dt_life.specs.laws.Lists.{found_at, nothing_past, replaced}
use Rattle.dt_life.specs.laws.Options.{if_some_map}

-- the same tally, written in another way
pub retally : (old new : Tally) (p : Processor) → old ≡ new → IsTallied old p → IsTallied new p
retally old new p e h = subst (λ t. IsTallied t p) e h

-- the same tallies, written in another way
pub retallied : (old new : ℕ → Tally) (all : List Processor) → ((cpu : ℕ) → old cpu ≡ new cpu) → AreTallied old all
    → AreTallied new all
retallied old new all same h = λ cpu.
    if_some_map _ _ (slice_get all cpu) (λ p. subst (λ t. IsTallied t p) (same cpu)) (h cpu)

-- one processor changed
pub tallied_set : (old new : ℕ → Tally) (all : List Processor) (cpu : ℕ) (p q : Processor) → cpu < length all
    → p ≡ get_or all cpu p → (IsTallied (old cpu) p → IsTallied (new cpu) q)
    → ((j : ℕ) → j ≢ cpu → old j ≡ new j) → AreTallied old all → AreTallied new (slice_set all cpu q)
tallied_set old new all cpu p q inside at step others h =
    replaced (λ j. IsTallied (new j)) all cpu q
    (step (found_at (IsTallied (old cpu)) all cpu p inside at (h cpu)))
    (λ j ne. if_some_map _ _ (slice_get all j) (λ x. subst (λ t. IsTallied t x) (others j ne)) (h j))

module _ (tallies : ℕ → Tally) (cpu : ℕ) (tally : Tally) where
  pub changed_here : changed_at tallies cpu tally cpu ≡ tally
  changed_here = ap (λ b. cond b tally (tallies cpu)) (eq-eqb cpu cpu refl)

  pub changed_there : (j : ℕ) → j ≢ cpu → tallies j ≡ changed_at tallies cpu tally j
  changed_there j ne = ap (λ b. cond b tally (tallies j)) (sym (ne_eqb cpu j (λ e. ne (sym e))))

  pub tallied_changed : (all : List Processor) (p q : Processor) → cpu < length all → p ≡ get_or all cpu p
      → (IsTallied (tallies cpu) p → IsTallied tally q) → AreTallied tallies all
      → AreTallied (changed_at tallies cpu tally) (slice_set all cpu q)
  tallied_changed all p q inside at step h =
      tallied_set tallies (changed_at tallies cpu tally) all cpu p q inside at
      (λ k. subst (λ t. IsTallied t q) (sym changed_here) (step k)) changed_there h

  same_everywhere : tallies cpu ≡ tally → (j : ℕ) → tallies j ≡ changed_at tallies cpu tally j
  same_everywhere e j = ⊎_elim
      (λ (is : j ≡ cpu). subst (λ k. tallies k ≡ changed_at tallies cpu tally k) (sym is) (e ∙ sym changed_here))
      (changed_there j) (cases_eq j cpu)

  pub tallied_same : (all : List Processor) → tallies cpu ≡ tally → AreTallied tallies all
      → AreTallied (changed_at tallies cpu tally) all
  tallied_same all e h = retallied tallies (changed_at tallies cpu tally) all (same_everywhere e) h

-- a tally with these in place of its attempts and of its dropped records
abbrev pub tally_with : Tally → List buffer.BufferEvent → ℕ → Tally
tally_with tally events specdrops = record {
  came = record { policy = tally.came.policy; size = tally.came.size; reserve = tally.came.reserve; events = events };
  errors = tally.errors;
  dyndrops = tally.dyndrops;
  specdrops = specdrops;
}

pub no_records : (in_end : Bool) (tally : Tally) → with_records in_end [] tally ≡ tally
no_records in_end tally = ap (λ events. tally_with tally events tally.specdrops) (append-nil tally.came.events)

-- where no record was left, nothing is put
abbrev pub left_of : Bool → ℕ → SpecPast → Option (List ℕ) → Option ℕ → Tally → Tally
left_of in_end cpu past bytes spec tally =
    with_left in_end cpu past (record { record_bytes = bytes; spec = spec; values = []; ends = []; exit = None }) tally

none_left : (in_end : Bool) (cpu : ℕ) (past : SpecPast) (spec : Option ℕ) (tally : Tally)
    → tally ≡ left_of in_end cpu past None spec tally
none_left in_end cpu past None tally =
    ap₂ (λ events n. tally_with tally events n) (sym (append-nil tally.came.events)) (omega arith)
none_left in_end cpu past (Some id) tally =
    ap₂ (λ events n. tally_with tally events n) (sym (append-nil tally.came.events)) (omega arith)

pub left_nothing : (in_end : Bool) (cpu : ℕ) (past : SpecPast) (form : TakenForm) (tally : Tally)
    → form.record_bytes ≡ None → tally ≡ with_left in_end cpu past form tally
left_nothing in_end cpu past form tally e =
    none_left in_end cpu past form.spec tally
    ∙ ap (λ bytes. left_of in_end cpu past bytes form.spec tally) (sym e)

-- a record that is put into the buffer
pub put_plain : (in_end : Bool) (cpu : ℕ) (past : SpecPast) (form : TakenForm) (bytes : List ℕ) (tally : Tally)
    → form.record_bytes ≡ Some bytes → form.spec ≡ None
    → tally_with tally (tally.came.events ++ attempt bytes in_end ∷ []) tally.specdrops
    ≡ with_left in_end cpu past form tally
put_plain in_end cpu past form bytes tally e f =
    ap (tally_with tally (tally.came.events ++ attempt bytes in_end ∷ [])) (omega arith)
    ∙ ap₂ (λ o spec. left_of in_end cpu past o spec tally) (sym e) (sym f)

-- a record that is put under an identifier
pub put_directed : (in_end : Bool) (cpu : ℕ) (past : SpecPast) (form : TakenForm) (bytes : List ℕ) (id : ℕ) (b : Bool)
    (tally : Tally) → form.record_bytes ≡ Some bytes → form.spec ≡ Some id
    → is_dropped cpu past (put_under id cpu bytes) ≡ b
    → tally_with tally tally.came.events (tally.specdrops + cond b 1 0) ≡ with_left in_end cpu past form tally
put_directed in_end cpu past form bytes id b tally e f g =
    ap₂ (λ events n. tally_with tally events n) (sym (append-nil tally.came.events)) (counted g)
    ∙ ap₂ (λ o spec. left_of in_end cpu past o spec tally) (sym e) (sym f)
  where
    counted : is_dropped cpu past (put_under id cpu bytes) ≡ b
        → tally.specdrops + cond b 1 0
        ≡ tally.specdrops + count_by (is_dropped cpu past) (put_under id cpu bytes ∷ [])
    counted g =
        ap (λ x. tally.specdrops + cond x 1 0) (sym g)
        ∙ ap (λ n. tally.specdrops + n)
        (omega (arith, sum_by-cons (λ (event : SpecEvent). cond (is_dropped cpu past event) 1 0) (put_under id cpu bytes) []))

pub puts_directed : (cpu : ℕ) (form : TakenForm) (bytes : List ℕ) (id : ℕ) → form.record_bytes ≡ Some bytes
    → form.spec ≡ Some id → put_under id cpu bytes ∷ [] ≡ puts_in cpu form
puts_directed cpu form bytes id e f =
    ap₂ (λ o spec. puts_in cpu (record { record_bytes = o; spec = spec; values = []; ends = []; exit = None })) (sym e) (sym f)

-- what isn't answered so isn't dropped
pub undropped : (answer : SpecPut) (b : Bool) → (answer ≡ Dropped → ⊥) → (b ≡ true → answer ≡ Dropped) → b ≡ false
undropped answer true ne from = absurd (ne (from refl))
undropped answer false ne from = refl

-- nothing of END comes before what isn't of END
ordinary_records : (records : List (List ℕ)) → of_end (map (λ bytes. attempt bytes false) records) ≡ []
ordinary_records [] = refl
ordinary_records (bytes ∷ records) = ordinary_records records

pub last_on : (in_end : Bool) (records : List (List ℕ)) (tally : Tally) → EndLast tally.came in_end
    → EndLast (with_records in_end records tally).came in_end
last_on true records tally last = in_end_last (with_records true records tally).came
last_on false records tally last =
    still_last tally.came (map (λ bytes. attempt bytes false) records) (ordinary_records records) last

pub records_both : (in_end : Bool) (xs ys : List (List ℕ)) (tally : Tally)
    → with_records in_end ys (with_records in_end xs tally) ≡ with_records in_end (xs ++ ys) tally
records_both in_end xs ys tally = ap (λ events. tally_with tally events tally.specdrops) (joined xs tally.came.events)
  where
    mapped : (records : List (List ℕ)) → map (λ bytes. attempt bytes in_end) (records ++ ys)
        ≡ map (λ bytes. attempt bytes in_end) records ++ map (λ bytes. attempt bytes in_end) ys
    mapped [] = refl
    mapped (bytes ∷ records) = ap (λ rest. attempt bytes in_end ∷ rest) (mapped records)

    joined : (records : List (List ℕ)) (events : List buffer.BufferEvent)
        → (events ++ map (λ bytes. attempt bytes in_end) records) ++ map (λ bytes. attempt bytes in_end) ys
        ≡ events ++ map (λ bytes. attempt bytes in_end) (records ++ ys)
    joined records events =
        append_assoc events (map (λ bytes. attempt bytes in_end) records) (map (λ bytes. attempt bytes in_end) ys)
        ∙ ap (λ rest. events ++ rest) (sym (mapped records))

-- a value of each place: after what came to the first so many, and before it at the others
abbrev pub up_to : {V : Type 0} → (ℕ → V) → (ℕ → V) → ℕ → ℕ → V
up_to before after places place = cond (nat_lt place places) (after place) (before place)

-- what holds of each with the value of its place
abbrev pub Each : {V X : Type 0} → (V → X → Type 0) → (ℕ → V) → List X → Type 0
Each R values all = (place : ℕ) → IfSome (slice_get all place) (R (values place))

module _ {V X : Type 0} (R : V → X → Type 0) (before after : ℕ → V) where
  pub each_first : (all : List X) → Each R before all → Each R (up_to before after 0) all
  each_first all h = λ place.
      if_some_map _ _ (slice_get all place)
      (λ x. subst (λ b. R (cond b (after place) (before place)) x) (sym (le-ltb place 0 (omega arith)))) (h place)

  same_side : (j cpu : ℕ) → j ≢ cpu → nat_lt j cpu ≡ nat_lt j (cpu + 1)
  same_side j cpu ne = ⊎_elim
      (λ below. lt-ltb j cpu below ∙ sym (lt-ltb j (cpu + 1) (omega (arith, below))))
      (λ beyond. le-ltb j cpu beyond ∙ sym (le-ltb j (cpu + 1) (above beyond)))
      (cases_lt j cpu)
    where
      above : cpu ≤ j → cpu + 1 ≤ j
      above h = ⊎_elim (λ (e : j ≡ cpu). absurd (ne e)) (λ (n : j ≢ cpu). omega (arith, h, n)) (cases_eq j cpu)

  others_stay : (all : List X) (cpu : ℕ) → Each R (up_to before after cpu) all → (j : ℕ) → j ≢ cpu
      → IfSome (slice_get all j) (R (up_to before after (cpu + 1) j))
  others_stay all cpu h j ne =
      if_some_map _ _ (slice_get all j)
      (λ x. subst (λ b. R (cond b (after j) (before j)) x) (same_side j cpu ne)) (h j)

  here_before : (cpu : ℕ) (x : X) → R (up_to before after cpu cpu) x → R (before cpu) x
  here_before cpu x = subst (λ b. R (cond b (after cpu) (before cpu)) x) (le-ltb cpu cpu (omega arith))

  here_after : (cpu : ℕ) (x : X) → R (after cpu) x → R (up_to before after (cpu + 1) cpu) x
  here_after cpu x = subst (λ b. R (cond b (after cpu) (before cpu)) x) (sym (lt-ltb cpu (cpu + 1) (omega arith)))

  pub each_here : (all : List X) (cpu : ℕ) (x : X) → cpu < length all → x ≡ get_or all cpu x
      → Each R (up_to before after cpu) all → R (before cpu) x
  each_here all cpu x inside at h = here_before cpu x (found_at (R (up_to before after cpu cpu)) all cpu x inside at (h cpu))

  -- it came to one more
  pub each_more : (all : List X) (cpu : ℕ) (x y : X) → cpu < length all → x ≡ get_or all cpu x
      → (R (before cpu) x → R (after cpu) y) → Each R (up_to before after cpu) all
      → Each R (up_to before after (cpu + 1)) (slice_set all cpu y)
  each_more all cpu x y inside at step h =
      replaced (λ j. R (up_to before after (cpu + 1) j)) all cpu y
      (here_after cpu y (step (here_before cpu x (found_at (R (up_to before after cpu cpu)) all cpu x inside at (h cpu)))))
      (others_stay all cpu h)

  -- nothing came to one more
  pub each_same : (all : List X) (cpu : ℕ) → ((x : X) → R (before cpu) x → R (after cpu) x)
      → Each R (up_to before after cpu) all → Each R (up_to before after (cpu + 1)) all
  each_same all cpu step h = λ j. ⊎_elim
      (λ (is : j ≡ cpu). subst (λ k. IfSome (slice_get all k) (R (up_to before after (cpu + 1) k))) (sym is)
      (if_some_map _ _ (slice_get all cpu) (λ x k. here_after cpu x (step x (here_before cpu x k))) (h cpu)))
      (others_stay all cpu h j) (cases_eq j cpu)

  -- it came to all
  pub each_last : (all : List X) (cpu : ℕ) → length all ≤ cpu → Each R (up_to before after cpu) all → Each R after all
  each_last all cpu beyond h = λ j. ⊎_elim
      (λ (below : j < cpu). if_some_map _ _ (slice_get all j)
      (λ x. subst (λ b. R (cond b (after j) (before j)) x) (lt-ltb j cpu below)) (h j))
      (λ past. nothing_past _ all j (omega (arith, past, beyond))) (cases_lt j cpu)

-- what holds of all, at each place
pub all_each : {X : Type 0} (P : X → Type 0) (all : List X) → All P all → (place : ℕ) → IfSome (slice_get all place) P
all_each P [] h place = tt
all_each P (x ∷ xs) h zero = All-head P x xs h
all_each P (x ∷ xs) h (suc place) = all_each P xs (All-tail P x xs h) place

pub each_all : {X : Type 0} (P : X → Type 0) (all : List X) → ((place : ℕ) → IfSome (slice_get all place) P) → All P all
each_all P all h = λ k d inside. subst (λ o. IfSome o P) (slice_get-get_or all k d inside) (h k)

-- more is allowed of each
pub at_most_more : (n m : ℕ) (all : List Processor) → n ≤ m → All (AtMost n) all → All (AtMost m) all
at_most_more n m all few h = λ k d inside. let at = h k d inside in
    (omega (arith, at.0), omega (arith, at.1), omega (arith, at.2), omega (arith, at.3))

-- one processor changed, and counts so many more at most
pub at_most_set : (n m : ℕ) (all : List Processor) (cpu : ℕ) (p q : Processor) → n ≤ m → cpu < length all
    → p ≡ get_or all cpu p → (AtMost n p → AtMost m q) → All (AtMost n) all → All (AtMost m) (slice_set all cpu q)
at_most_set n m all cpu p q few inside at step h =
    each_all (AtMost m) (slice_set all cpu q)
    (replaced (λ j. AtMost m) all cpu q
    (step (subst (AtMost n) (sym at) (h cpu p inside)))
    (λ j ne. all_each (AtMost m) all (at_most_more n m all few h) j))
