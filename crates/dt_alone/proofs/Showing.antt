-- What a buffer shows, one record further.
use Rattle.std.proofs.Common.{◌≡◌, ℕ, zero, suc, ◌+◌, ◌-◌, ◌<◌, ◌≤◌, ◌==◌, ◌⊎◌, ◌||◌, inl, inr, Bool, true, false, cond}
use Rattle.std.proofs.Common.{List, [], ◌∷◌, ◌++◌, Option, Some, None, length, filter, take, drop, get_or, IsTrue, Bor}
use Rattle.std.proofs.Common.{refl, sym, ap, ◌∙◌, subst, ⊎_elim, arith}
use Rattle.std.specs.Bool.{nat_le, nat_lt}
use Rattle.std.proofs.Math.Bool.{beq}
use Rattle.std.specs.Global.{Vec}
use Rattle.std.specs.List.{concat}
use Rattle.std.specs.Option.{option_map, option_to_list}
use Rattle.std.proofs.lemmas.Bool.{cases_lt, cases_Bool, false≢true}
use Rattle.std.proofs.lemmas.Grind.{flat_map-append}
use Rattle.std.proofs.lemmas.List.{append-nil, length-append, length-drop, length_push, take-append-le, take_all}
use Rattle.std.proofs.lemmas.List.{take_more, drop-append-le, take-append-drop}
use Rattle.dt_buffer.specs.Beginning.{IsLongestBeginning, ShowsFill, size_of}
use Rattle.dt_buffer.specs.Choice.{ShowsSwitch, chosen_of}
use Rattle.dt_buffer.specs.Ending.{IsLongestEnd, ShowsRing, fitting, too_long}
use Rattle.dt_buffer.specs.History.{BufferEvent, attempt, attempts, swap, of_end, ordinary}
use Rattle.dt_buffer.specs.laws.Beginnings.{begins_all, begins_same, past_room, size_push}
use Rattle.dt_buffer.specs.laws.Histories.{attempts-append, of_end-append, ordinary-append}
use Rattle.dt_buffer.specs.laws.Choices.{choice_more, concat-push}
use Rattle.dt_alone.specs.Happened.{all_to, comes_to, fitting_on}
use Rattle.dt_alone.specs.Shown.{IsBeginningOf, events_of, of_kind}
use Rattle.dt_alone.specs.declared.happened.Happened.{Happened}
use Rattle.dt_alone.specs.declared.happened.Happened.TheVariants.{Committed, DrawFailed, Failed, Left, RecordDropped, Snapped, Truncated, VariableDropped}
use Rattle.dt_alone.specs.declared.shown.FittingRecords.{FittingRecords}
use Rattle.dt_alone.specs.declared.shown.Came.{Came}
use Rattle.dt_alone.specs.declared.shown.Came.TheVariants as came

-- records with one more, none of END's
pub kind_put : (b : Bool) (events : List BufferEvent) (bytes : List ℕ)
    → of_kind b (events ++ attempt bytes b ∷ []) ≡ of_kind b events ++ bytes ∷ []
kind_put true events bytes = of_end-append events (attempt bytes true ∷ [])
kind_put false events bytes = ordinary-append events (attempt bytes false ∷ [])

pub kind_other : (b other : Bool) (events : List BufferEvent) (bytes : List ℕ) → (b ≡ other → ⊥)
    → of_kind b (events ++ attempt bytes other ∷ []) ≡ of_kind b events
kind_other true true events bytes ne = absurd (ne refl)
kind_other true false events bytes ne = of_end-append events (attempt bytes false ∷ []) ∙ append-nil (of_end events)
kind_other false true events bytes ne =
    ordinary-append events (attempt bytes true ∷ []) ∙ append-nil (ordinary events)
kind_other false false events bytes ne = absurd (ne refl)

pub kind_snapped : (b : Bool) (events : List BufferEvent) → of_kind b (events ++ swap ∷ []) ≡ of_kind b events
kind_snapped true events = of_end-append events (swap ∷ []) ∙ append-nil (of_end events)
kind_snapped false events = ordinary-append events (swap ∷ []) ∙ append-nil (ordinary events)

-- what came by one thing more
pub all_more : (cpu : ℕ) (hs : List Happened) (i : ℕ) (x : Happened) → i < length hs → x ≡ get_or hs i x
    → (events : List BufferEvent) → events ≡ comes_to cpu x
    → all_to cpu (take (i + 1) hs) ≡ all_to cpu (take i hs) ++ events
all_more cpu hs i x inside at events e =
    ap (all_to cpu) (take_more hs i x inside ∙ ap (λ y. take i hs ++ y ∷ []) (sym at))
    ∙ flat_map-append (comes_to cpu) (take i hs) (x ∷ [])
    ∙ ap (λ es. all_to cpu (take i hs) ++ es) (append-nil (comes_to cpu x) ∙ sym e)

-- where no record came, it was a reading or nothing
pub no_attempts : (c : Came) → ((bytes : Bor (List ℕ)) (in_end : Bool) → c ≡ came.Put bytes in_end → ⊥)
    → (xs : List BufferEvent) → (attempts (xs ++ events_of c) ≡ attempts xs)
    × ((b : Bool) → of_kind b (xs ++ events_of c) ≡ of_kind b xs)
no_attempts came.Nothing none xs = (ap attempts (append-nil xs), (λ b. ap (of_kind b) (append-nil xs)))
no_attempts (came.Put bytes in_end) none xs = absurd (none bytes in_end refl)
no_attempts came.Snapped none xs = (attempts-append xs (swap ∷ []) ∙ append-nil (attempts xs), (λ b. kind_snapped b xs))

pub same_switch : (size : ℕ) (a a' : List (List ℕ)) (b b' : List ℕ) (d d' : ℕ) → a ≡ a' → b ≡ b' → d ≡ d'
    → ShowsSwitch size a b d → ShowsSwitch size a' b' d'
same_switch size a a' b b' d d' e f g s =
    subst (λ x. ShowsSwitch size x b' d') e
    (subst (λ y. ShowsSwitch size a y d') f (subst (λ z. ShowsSwitch size a b z) g s))

-- a beginning, and one record more
module _ (room : ℕ) (records : List (List ℕ)) (b : FittingRecords) (is : IsBeginningOf room records b)
    (more : List ℕ) where
  whole_count : b.is_cut ≡ false → is.count ≡ length records
  whole_count e =
      let none : is.count < length records → ⊥ =
      λ below. false≢true (sym e ∙ is.cut.1 below) in
      ⊎_elim (λ below. absurd (none below)) (λ beyond. omega (arith, beyond, is.longest.within))
      (cases_lt is.count (length records))

  whole_kept : b.is_cut ≡ false → b.bytes.items ≡ concat records
  whole_kept e =
      is.kept ∙ ap (λ n. concat (take n records)) (whole_count e)
      ∙ ap concat (take_all (length records) records (omega arith))

  pub begins_kept : (next : FittingRecords) → b.is_cut ≡ false → length b.bytes.items + length more ≤ room
      → next.is_cut ≡ false → next.bytes.items ≡ b.bytes.items ++ more
      → IsBeginningOf room (records ++ more ∷ []) next
  begins_kept next open' fits stays grown = record {
    count = length (records ++ more ∷ []);
    longest =
        begins_all room (records ++ more ∷ [])
        (omega (arith, size_push records more, ap length (whole_kept open'), fits));
    kept =
        grown ∙ ap (λ xs. xs ++ more) (whole_kept open') ∙ sym (concat-push records more)
        ∙ ap concat (sym (take_all (length (records ++ more ∷ [])) (records ++ more ∷ []) (omega arith)));
    cut = ((λ t. absurd (false≢true (sym stays ∙ t))), (λ below. absurd (omega (arith, below))));
  }

  too_much : ((b.is_cut ≡ true) ⊎ (room < length b.bytes.items + length more))
      → room < size_of records + length more
  too_much = ⊎_elim
      (λ cut. omega (arith, past_room room records more is.count is.longest (is.cut.0 cut)))
      (λ over. ⊎_elim
      (λ cut. omega (arith, past_room room records more is.count is.longest (is.cut.0 cut)))
      (λ open'. omega (arith, over, ap length (whole_kept open')))
      (cases_Bool b.is_cut))

  pub begins_cut : (next : FittingRecords) → ((b.is_cut ≡ true) ⊎ (room < length b.bytes.items + length more))
      → next.is_cut ≡ true → next.bytes.items ≡ b.bytes.items → IsBeginningOf room (records ++ more ∷ []) next
  begins_cut next over stops same = record {
    count = is.count;
    longest = begins_same room records more is.count is.longest (too_much over);
    kept =
        same ∙ is.kept ∙ ap concat (sym (take-append-le is.count records (more ∷ []) is.longest.within));
    cut = ((λ t. omega (arith, is.longest.within, length_push records more)), (λ below. stops));
  }

-- nothing came yet
pub begins_nothing : (room : ℕ) (b : FittingRecords) → b.is_cut ≡ false → b.bytes.items ≡ [] → IsBeginningOf room [] b
begins_nothing room b open' none = record {
  count = 0;
  longest = record { within = omega arith; fits = omega arith; longest = λ n few _. few };
  kept = none;
  cut = ((λ t. absurd (false≢true (sym open' ∙ t))), (λ below. absurd (omega (arith, below))));
}

-- the two beginnings are what fill shows
either_true : (a b : Bool) → IsTrue (a || b) → IsTrue a ⊎ IsTrue b
either_true true b t = inl refl
either_true false b t = inr t

true_either : (a b : Bool) → IsTrue a ⊎ IsTrue b → IsTrue (a || b)
true_either true b e = refl
true_either false b e = ⊎_elim (λ t. absurd (false≢true t)) (λ t. t) e

pub shows_fill : (size reserve : ℕ) (ordinary of_end : List (List ℕ)) (a b : FittingRecords)
    → IsBeginningOf (size - reserve) ordinary a → IsBeginningOf (size - length a.bytes.items) of_end b
    → ShowsFill size reserve ordinary of_end (a.bytes.items ++ b.bytes.items) (a.is_cut || b.is_cut)
shows_fill size reserve ordinary of_end a b x y = record {
  first = x.count;
  last = y.count;
  ordinary_kept = x.longest;
  end_kept = subst (λ n. IsLongestBeginning (size - n) of_end y.count) (ap length x.kept) y.longest;
  kept = ap (λ xs. xs ++ b.bytes.items) x.kept ∙ ap (λ xs. concat (take x.count ordinary) ++ xs) y.kept;
  is_filled = (
    (λ t. ⊎_elim (λ s. inl (x.cut.0 s)) (λ s. inr (y.cut.0 s)) (either_true a.is_cut b.is_cut t)),
    (λ e. true_either a.is_cut b.is_cut (⊎_elim (λ s. inl (x.cut.1 s)) (λ s. inr (y.cut.1 s)) e)),
  );
}

-- under switch, one record more
module _ (size : ℕ) (attempts : List (List ℕ)) (bytes : List ℕ) (drops : ℕ)
    (s : ShowsSwitch size attempts bytes drops) (more : List ℕ) where
  chosen_few : (xs : List (List ℕ)) (cs : List Bool) → length (chosen_of xs cs) ≤ length xs
  chosen_few [] cs = omega arith
  chosen_few (x ∷ xs) [] = omega arith
  chosen_few (x ∷ xs) (true ∷ cs) = omega (arith, chosen_few xs cs)
  chosen_few (x ∷ xs) (false ∷ cs) = omega (arith, chosen_few xs cs)

  chosen_push : (xs : List (List ℕ)) (cs : List Bool) (x : List ℕ) (b : Bool) → length cs ≡ length xs
      → chosen_of (xs ++ x ∷ []) (cs ++ b ∷ []) ≡ chosen_of xs cs ++ cond b (x ∷ []) []
  chosen_push [] [] x true e = refl
  chosen_push [] [] x false e = refl
  chosen_push [] (c ∷ cs) x b e = absurd (omega (arith, e))
  chosen_push (y ∷ xs) [] x b e = absurd (omega (arith, e))
  chosen_push (y ∷ xs) (true ∷ cs) x b e = ap (λ ys. y ∷ ys) (chosen_push xs cs x b (omega (arith, e)))
  chosen_push (y ∷ xs) (false ∷ cs) x b e = chosen_push xs cs x b (omega (arith, e))

  pub switch_kept : length bytes + length more ≤ size → ShowsSwitch size (attempts ++ more ∷ []) (bytes ++ more) drops
  switch_kept fits = record {
    chosen = s.chosen ++ true ∷ [];
    choice = choice_more size attempts s.chosen more true s.choice
        ((λ t. omega (arith, fits, ap length s.kept)), (λ h. refl));
    kept = ap (λ xs. xs ++ more) s.kept
        ∙ sym (ap concat (chosen_push attempts s.chosen more true s.choice.whole)
        ∙ concat-push (chosen_of attempts s.chosen) more);
    dropped = omega (
      arith,
      s.dropped,
      length_push attempts more,
      ap length (chosen_push attempts s.chosen more true s.choice.whole),
      length_push (chosen_of attempts s.chosen) more,
    );
  }

  pub switch_dropped : size < length bytes + length more → ShowsSwitch size (attempts ++ more ∷ []) bytes (drops + 1)
  switch_dropped over = record {
    chosen = s.chosen ++ false ∷ [];
    choice = choice_more size attempts s.chosen more false s.choice
        ((λ t. absurd (false≢true t)), (λ h. absurd (omega (arith, over, h, ap length s.kept))));
    kept = s.kept
        ∙ sym (ap concat (chosen_push attempts s.chosen more false s.choice.whole
        ∙ append-nil (chosen_of attempts s.chosen)));
    dropped = omega (
      arith,
      s.dropped,
      length_push attempts more,
      ap length (chosen_push attempts s.chosen more false s.choice.whole),
      ap length (append-nil (chosen_of attempts s.chosen)),
      chosen_few attempts s.chosen,
    );
  }

pub switch_nothing : (size : ℕ) → ShowsSwitch size [] [] 0
switch_nothing size = record {
  chosen = [];
  choice = record { whole = refl; exactly = λ i h. absurd (omega (arith, h)) };
  kept = refl;
  dropped = omega arith;
}

-- the records that aren't too long, of two lists
filter-append : {X : Type 0} (p : X → Bool) (xs ys : List X) → filter p (xs ++ ys) ≡ filter p xs ++ filter p ys
filter-append p [] ys = refl
filter-append p (x ∷ xs) ys = one (p x) (filter-append p xs ys)
  where
    one : (b : Bool) → filter p (xs ++ ys) ≡ filter p xs ++ filter p ys
        → cond b (x ∷ filter p (xs ++ ys)) (filter p (xs ++ ys))
        ≡ cond b (x ∷ filter p xs) (filter p xs) ++ filter p ys
    one true e = ap (λ zs. x ∷ zs) e
    one false e = e

pub fitting-append : (size cpu : ℕ) (xs ys : List Happened)
    → fitting_on size cpu (xs ++ ys) ≡ fitting_on size cpu xs ++ fitting_on size cpu ys
fitting-append size cpu xs ys =
    ap (λ es. fitting size (attempts es)) (flat_map-append (comes_to cpu) xs ys)
    ∙ ap (fitting size) (attempts-append (all_to cpu xs) (all_to cpu ys))
    ∙ filter-append (λ bytes. nat_le (length bytes) size) (attempts (all_to cpu xs)) (attempts (all_to cpu ys))

size-append : (xs ys : List (List ℕ)) → size_of (xs ++ ys) ≡ size_of xs + size_of ys
size-append [] ys = omega arith
size-append (x ∷ xs) ys = omega (
  arith,
  length-append x (concat (xs ++ ys)),
  length-append x (concat xs),
  size-append xs ys,
)

drop_past : {X : Type 0} (xs ys : List X) → drop (length xs) (xs ++ ys) ≡ ys
drop_past [] ys = refl
drop_past (x ∷ xs) ys = drop_past xs ys

-- an end that fits, and that is the first to
pub ends_there : (size : ℕ) (before later : List (List ℕ)) → size_of later ≤ size
    → ((n : ℕ) → n < length before → size < size_of (drop n before ++ later))
    → IsLongestEnd size (before ++ later) (length before)
ends_there size before later fits over = record {
  within = omega (arith, length-append before later);
  fits = omega (arith, fits, ap size_of (drop_past before later));
  longest = λ n h. ⊎_elim
      (λ below. absurd (omega (
        arith,
        h,
        over n below,
        ap size_of (drop-append-le n before later (omega (arith, below))),
      )))
      (λ beyond. beyond)
      (cases_lt n (length before));
}

filter_few : {X : Type 0} (p : X → Bool) (xs : List X) → length (filter p xs) ≤ length xs
filter_few p [] = omega arith
filter_few p (x ∷ xs) = one (p x) (filter_few p xs)
  where
    one : (b : Bool) → length (filter p xs) ≤ length xs
        → length (cond b (x ∷ filter p xs) (filter p xs)) ≤ length (x ∷ xs)
    one true e = omega (arith, e)
    one false e = omega (arith, e)

attempts_few : (events : List BufferEvent) → length (attempts events) ≤ length events
attempts_few [] = omega arith
attempts_few (attempt bytes in_end ∷ events) = omega (arith, attempts_few events)
attempts_few (swap ∷ events) = omega (arith, attempts_few events)

comes_few : (cpu : ℕ) (h : Happened) → length (comes_to cpu h) ≤ 1
comes_few cpu (Failed there) = omega arith
comes_few cpu (Left there in_end left) = one (there == cpu) left.bytes
  where
    one : (b : Bool) (o : Option (Vec ℕ)) → length (cond b (option_to_list
        (option_map (λ (bytes : Vec ℕ). attempt bytes.items in_end) o)) []) ≤ 1
    one true None = omega arith
    one true (Some bytes) = omega arith
    one false o = omega arith
comes_few cpu (Committed there in_end part) = one (there == cpu)
  where
    one : (b : Bool) → length (cond b (attempt part.items in_end ∷ []) []) ≤ 1
    one true = omega arith
    one false = omega arith
comes_few cpu (VariableDropped there) = omega arith
comes_few cpu (RecordDropped there) = omega arith
comes_few cpu DrawFailed = omega arith
comes_few cpu (Snapped there) = one (there == cpu)
  where
    one : (b : Bool) → length (cond b (swap ∷ []) []) ≤ 1
    one true = omega arith
    one false = omega arith
comes_few cpu (Truncated aggregation) = omega arith

fitting_few : (size cpu : ℕ) (h : Happened) → length (fitting_on size cpu (h ∷ [])) ≤ 1
fitting_few size cpu h = omega (
  arith,
  filter_few (λ (bytes : List ℕ). nat_le (length bytes) size) (attempts (all_to cpu (h ∷ []))),
  attempts_few (all_to cpu (h ∷ [])),
  ap length (append-nil (comes_to cpu h)),
  comes_few cpu h,
)

-- a list is what stands before a place, the element there, and what stands after it
cut_at : (hs : List Happened) (k : ℕ) → k < length hs
    → (h : Happened) × (take (suc k) hs ≡ take k hs ++ h ∷ []) × (drop k hs ≡ h ∷ drop (suc k) hs)
cut_at [] k inside = absurd (omega arith)
cut_at (h ∷ hs) zero inside = (h, refl, refl)
cut_at (h ∷ hs) (suc k) inside =
    let later = cut_at hs k (omega arith) in
    (later.0, ap (λ xs. h ∷ xs) later.1, later.2)

over_before : (size cpu : ℕ) (hs : List Happened) (start : ℕ) → start ≤ length hs
    → (start ≡ 0) ⊎ (size < size_of (fitting_on size cpu (drop (start - 1) hs)))
    → (n : ℕ) → n < length (fitting_on size cpu (take start hs))
    → size < size_of (drop n (fitting_on size cpu (take start hs)) ++ fitting_on size cpu (drop start hs))
over_before size cpu hs zero within least n below = absurd (omega (arith, below))
over_before size cpu hs (suc k) within least n below =
    let c = cut_at hs k (omega arith) in
    let xs = fitting_on size cpu (take k hs) in
    let y = fitting_on size cpu (c.0 ∷ []) in
    let later = fitting_on size cpu (drop (suc k) hs) in
    let before : fitting_on size cpu (take (suc k) hs)
    ≡ fitting_on size cpu (take k hs) ++ fitting_on size cpu (c.0 ∷ []) =
    ap (fitting_on size cpu) c.1 ∙ fitting-append size cpu (take k hs) (c.0 ∷ []) in
    let rest : fitting_on size cpu (drop k hs)
    ≡ fitting_on size cpu (c.0 ∷ []) ++ fitting_on size cpu (drop (suc k) hs) =
    ap (fitting_on size cpu) c.2 ∙ fitting-append size cpu (c.0 ∷ []) (drop (suc k) hs) in
    let over : size < size_of (fitting_on size cpu (drop k hs)) =
    ⊎_elim (λ (e : suc k ≡ 0). absurd (omega (arith, e)))
    (λ o. subst (λ j. size < size_of (fitting_on size cpu (drop j hs))) (less k) o) least in
    let few : n ≤ length xs = omega (
      arith,
      below,
      ap length before,
      length-append xs y,
      fitting_few size cpu c.0,
    ) in
    omega (
      arith,
      over,
      ap size_of rest,
      size-append y later,
      ap (λ zs. size_of (drop n zs ++ fitting_on size cpu (drop (suc k) hs))) before,
      ap (λ zs. size_of (zs ++ fitting_on size cpu (drop (suc k) hs))) (drop-append-le n xs y few),
      size-append (drop n xs ++ y) later,
      size-append (drop n xs) y,
    )
  where
    less : (k : ℕ) → suc k - 1 ≡ k
    less k = omega arith

-- what ring shows
pub shows_ring : (size cpu : ℕ) (hs : List Happened) (start drops : ℕ) (bytes : List ℕ) → start ≤ length hs
    → size_of (fitting_on size cpu (drop start hs)) ≤ size
    → (start ≡ 0) ⊎ (size < size_of (fitting_on size cpu (drop (start - 1) hs)))
    → bytes ≡ concat (fitting_on size cpu (drop start hs)) → drops ≡ length (too_long size (attempts (all_to cpu hs)))
    → ShowsRing size (attempts (all_to cpu hs)) bytes drops
shows_ring size cpu hs start drops bytes within fits least are counts =
    let before = fitting_on size cpu (take start hs) in
    let later = fitting_on size cpu (drop start hs) in
    let all : fitting_on size cpu (take start hs) ++ fitting_on size cpu (drop start hs) ≡ fitting_on size cpu hs =
    sym (fitting-append size cpu (take start hs) (drop start hs))
    ∙ ap (fitting_on size cpu) (take-append-drop start hs) in
    record {
      passed = length before;
      newest = subst (λ rs. IsLongestEnd size rs (length (fitting_on size cpu (take start hs)))) all
          (ends_there size before later fits (over_before size cpu hs start within least));
      kept = are ∙ ap concat (sym (drop_past before later))
          ∙ ap (λ rs. concat (drop (length (fitting_on size cpu (take start hs))) rs)) all;
      dropped = counts;
    }

-- the records that are too long, and those that aren't, with one more
pub too_long_more : (size : ℕ) (events : List BufferEvent) (bytes : List ℕ) (in_end : Bool)
    → too_long size (attempts (events ++ attempt bytes in_end ∷ []))
    ≡ too_long size (attempts events) ++ cond (nat_lt size (length bytes)) (bytes ∷ []) []
too_long_more size events bytes in_end =
    ap (too_long size) (attempts-append events (attempt bytes in_end ∷ []))
    ∙ filter-append (λ (bs : List ℕ). nat_lt size (length bs)) (attempts events) (bytes ∷ [])

pub fitting_more : (size : ℕ) (events : List BufferEvent) (bytes : List ℕ) (in_end : Bool)
    → fitting size (attempts (events ++ attempt bytes in_end ∷ []))
    ≡ fitting size (attempts events) ++ cond (nat_le (length bytes) size) (bytes ∷ []) []
fitting_more size events bytes in_end =
    ap (fitting size) (attempts-append events (attempt bytes in_end ∷ []))
    ∙ filter-append (λ (bs : List ℕ). nat_le (length bs) size) (attempts events) (bytes ∷ [])

pub take_rest : (hs : List Happened) (start : ℕ) → take (length hs - start) (drop start hs) ≡ drop start hs
take_rest hs start = take_all (length hs - start) (drop start hs) (omega (arith, length-drop start hs))

-- the same beginning, written in another way
pub same_beginning : (room : ℕ) (records : List (List ℕ)) (b next : FittingRecords) → IsBeginningOf room records b
    → next.is_cut ≡ b.is_cut → next.bytes.items ≡ b.bytes.items → IsBeginningOf room records next
same_beginning room records b next is cut same = record {
  count = is.count;
  longest = is.longest;
  kept = same ∙ is.kept;
  cut = ((λ t. is.cut.0 (sym cut ∙ t)), (λ below. cut ∙ is.cut.1 below));
}

-- truth values that are told to be the same, and not to be
pub same_bool : (a b : Bool) → beq a b ≡ true → a ≡ b
same_bool true true e = refl
same_bool true false e = cc
same_bool false true e = cc
same_bool false false e = refl

pub other_bool : (a b : Bool) → beq a b ≡ false → b ≡ a → ⊥
other_bool true true e f = cc
other_bool true false e f = cc
other_bool false true e f = cc
other_bool false false e f = cc
