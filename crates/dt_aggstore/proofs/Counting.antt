-- The contributions that count, and the entries held, after one more event.
use Rattle.std.proofs.Common.{◌≡◌, ◌≢◌, ⊎_elim, ℤ, Bool, true, false, cond, ◌||◌, List, [], ◌∷◌, ◌++◌, length, refl}
use Rattle.std.proofs.Common.{sym, ap, ◌∙◌, subst, arith}
use Rattle.std.specs.Prelude.{map, filter, not}
use Rattle.std.specs.List.{list_any}
use Rattle.std.proofs.lemmas.Bool.{false≢true}
use Rattle.std.proofs.lemmas.List.{append-nil, map-append}
use Rattle.std.proofs.lemmas.List.Elements.{filter-append}
use Rattle.dt_aggstore.specs.Keys.{Entry, same_aggregation, same_entry, without}
use Rattle.dt_aggstore.specs.History.{Event, given, truncated}
use Rattle.dt_aggstore.specs.Held.{Contribution, entry_of, truncates, counted, distinct, values_of}
use Rattle.dt_aggstore.specs.declared.key.Aggregation.{Aggregation}
use Rattle.dt_aggstore.specs.declared.key.KeyPart.{KeyPart}
use Rattle.dt_aggstore.proofs.Same.{entry_is, own_entry}
use Rattle.dt_aggstore.proofs.Filters.{yes_or_no, filter_yes, filter_no, filter_under, filter_none, map-filter}
use Rattle.dt_aggstore.proofs.Distinct.{has, distinct-filter}

abbrev pub contribution : Aggregation → List KeyPart → ℤ → Contribution
contribution aggregation key value = record { entry = entry_of aggregation key; value = value }

abbrev one_if : Bool → Contribution → List Contribution
one_if true c = c ∷ []
one_if false c = []

-- what follows a given value truncates nothing more
given_more : (aggregation other : Aggregation) (key : List KeyPart) (value : ℤ) (events : List Event)
    → list_any (truncates aggregation) (events ++ given other key value ∷ [])
    ≡ list_any (truncates aggregation) events
given_more aggregation other key value [] = refl
given_more aggregation other key value (e ∷ events) =
    ap (λ b. truncates aggregation e || b) (given_more aggregation other key value events)

truncated_more : (aggregation other : Aggregation) (events : List Event)
    → list_any (truncates aggregation) (events ++ truncated other ∷ [])
    ≡ (list_any (truncates aggregation) events || same_aggregation other aggregation)
truncated_more aggregation other [] = by (same_aggregation other aggregation)
  where
    by : (b : Bool) → (b || false) ≡ (false || b)
    by true = refl
    by false = refl
truncated_more aggregation other (given a k v ∷ events) = truncated_more aggregation other events
truncated_more aggregation other (truncated a ∷ events) =
    ap (λ b. same_aggregation a aggregation || b) (truncated_more aggregation other events)
    ∙ by (same_aggregation a aggregation) (list_any (truncates aggregation) events)
    (same_aggregation other aggregation)
  where
    by : (a b c : Bool) → (a || (b || c)) ≡ ((a || b) || c)
    by true b c = refl
    by false b c = refl

cond-append : (b : Bool) (c : Contribution) (xs ys : List Contribution)
    → cond b (xs ++ ys) (c ∷ (xs ++ ys)) ≡ cond b xs (c ∷ xs) ++ ys
cond-append true c xs ys = refl
cond-append false c xs ys = refl

pub counted-given : (events : List Event) (chosen : List Bool) (aggregation : Aggregation) (key : List KeyPart)
    (value : ℤ)
    (b : Bool) → length chosen ≡ length events
    → counted (events ++ given aggregation key value ∷ []) (chosen ++ b ∷ [])
    ≡ counted events chosen ++ one_if b (contribution aggregation key value)
counted-given [] [] aggregation key value true e = refl
counted-given [] [] aggregation key value false e = refl
counted-given [] (c ∷ chosen) aggregation key value b e = absurd (omega arith)
counted-given (event ∷ events) [] aggregation key value b e = absurd (omega arith)
counted-given (given a k v ∷ events) (true ∷ chosen) aggregation key value b e =
    let rest = counted-given events chosen aggregation key value b (omega arith) in
    ap (λ t. cond t (counted (events ++ given aggregation key value ∷ []) (chosen ++ b ∷ []))
    (contribution a k v ∷ counted (events ++ given aggregation key value ∷ []) (chosen ++ b ∷ [])))
    (given_more a aggregation key value events)
    ∙ ap (λ xs. cond (list_any (truncates a) events) xs (contribution a k v ∷ xs)) rest
    ∙ cond-append (list_any (truncates a) events) (contribution a k v) (counted events chosen)
    (one_if b (contribution aggregation key value))
counted-given (given a k v ∷ events) (false ∷ chosen) aggregation key value b e =
    counted-given events chosen aggregation key value b (omega arith)
counted-given (truncated a ∷ events) (c ∷ chosen) aggregation key value b e =
    counted-given events chosen aggregation key value b (omega arith)

-- the contributions to other aggregations
abbrev pub others : Aggregation → List Contribution → List Contribution
others aggregation contributions = filter (λ c. not (same_aggregation aggregation c.entry.aggregation)) contributions

others-cond : (aggregation : Aggregation) (c : Contribution) (t s : Bool) (xs : List Contribution)
    → same_aggregation aggregation c.entry.aggregation ≡ s
    → cond (t || s) (others aggregation xs) (c ∷ others aggregation xs) ≡ others aggregation (cond t xs (c ∷ xs))
others-cond aggregation c true s xs e = refl
others-cond aggregation c false true xs e = sym (filter_no _ c xs (ap not e))
others-cond aggregation c false false xs e = sym (filter_yes _ c xs (ap not e))

pub counted-truncated : (events : List Event) (chosen : List Bool) (aggregation : Aggregation) (b : Bool)
    → length chosen ≡ length events
    → counted (events ++ truncated aggregation ∷ []) (chosen ++ b ∷ []) ≡ others aggregation (counted events chosen)
counted-truncated [] [] aggregation b e = refl
counted-truncated [] (c ∷ chosen) aggregation b e = absurd (omega arith)
counted-truncated (event ∷ events) [] aggregation b e = absurd (omega arith)
counted-truncated (given a k v ∷ events) (true ∷ chosen) aggregation b e =
    let rest = counted-truncated events chosen aggregation b (omega arith) in
    ap (λ t. cond t (counted (events ++ truncated aggregation ∷ []) (chosen ++ b ∷ []))
    (contribution a k v ∷ counted (events ++ truncated aggregation ∷ []) (chosen ++ b ∷ [])))
    (truncated_more a aggregation events)
    ∙ ap (λ xs. cond (list_any (truncates a) events || same_aggregation aggregation a) xs (contribution a k v ∷ xs))
    rest
    ∙ others-cond aggregation (contribution a k v) (list_any (truncates a) events) (same_aggregation aggregation a)
    (counted events chosen) refl
counted-truncated (given a k v ∷ events) (false ∷ chosen) aggregation b e =
    counted-truncated events chosen aggregation b (omega arith)
counted-truncated (truncated a ∷ events) (c ∷ chosen) aggregation b e =
    counted-truncated events chosen aggregation b (omega arith)

abbrev pub names : List Contribution → List Entry
names contributions = map (λ c. c.entry) contributions

-- ---- one value more

pub names-push : (contributions : List Contribution) (c : Contribution)
    → names (contributions ++ c ∷ []) ≡ names contributions ++ c.entry ∷ []
names-push contributions c = map-append (λ c. c.entry) contributions (c ∷ [])

pub values-push_same : (entry : Entry) (contributions : List Contribution) (c : Contribution)
    → same_entry entry c.entry ≡ true → values_of entry (contributions ++ c ∷ [])
    ≡ values_of entry contributions ++ c.value ∷ []
values-push_same entry contributions c e =
    let test = λ (x : Contribution). same_entry entry x.entry in
    ap (map (λ c. c.value)) (filter-append test contributions (c ∷ [])
    ∙ ap (λ xs. filter test contributions ++ xs) (filter_yes test c [] e))
    ∙ map-append (λ c. c.value) (filter test contributions) (c ∷ [])

pub values-push_other : (entry : Entry) (contributions : List Contribution) (c : Contribution)
    → same_entry entry c.entry ≡ false → values_of entry (contributions ++ c ∷ []) ≡ values_of entry contributions
values-push_other entry contributions c e =
    let test = λ (x : Contribution). same_entry entry x.entry in
    ap (map (λ c. c.value)) (filter-append test contributions (c ∷ [])
    ∙ ap (λ xs. filter test contributions ++ xs) (filter_no test c [] e)
    ∙ append-nil (filter test contributions))

-- ---- a truncation

pub held-others : (aggregation : Aggregation) (contributions : List Contribution)
    → distinct (names (others aggregation contributions)) ≡ without aggregation (distinct (names contributions))
held-others aggregation contributions =
    let test = λ (e : Entry). not (same_aggregation aggregation e.aggregation) in
    ap distinct (map-filter (λ c. c.entry) test contributions) ∙ distinct-filter test (names contributions)

pub values-others : (aggregation : Aggregation) (contributions : List Contribution) (entry : Entry)
    → same_aggregation aggregation entry.aggregation ≡ false
    → values_of entry (others aggregation contributions) ≡ values_of entry contributions
values-others aggregation contributions entry e =
    ap (map (λ c. c.value)) (filter_under (λ c. same_entry entry c.entry)
    (λ c. not (same_aggregation aggregation c.entry.aggregation))
    (λ c same. ap not (subst (λ x. same_aggregation aggregation x.aggregation ≡ false)
    (entry_is entry c.entry same) e))
    contributions)

pub values-truncated : (aggregation : Aggregation) (contributions : List Contribution) (entry : Entry)
    → same_aggregation aggregation entry.aggregation ≡ true → values_of entry (others aggregation contributions) ≡ []
values-truncated aggregation contributions entry e =
    ap (map (λ c. c.value)) (filter_none (λ c. same_entry entry c.entry)
    (λ c. not (same_aggregation aggregation c.entry.aggregation))
    (λ c same. ap not (subst (λ x. same_aggregation aggregation x.aggregation ≡ true)
    (entry_is entry c.entry same) e))
    contributions)

-- ---- bags and entries

-- what isn't held has no values
pub values_none : (contributions : List Contribution) (entry : Entry) → has entry (names contributions) ≡ false
    → values_of entry contributions ≡ []
values_none [] entry e = refl
values_none (c ∷ contributions) entry e = ⊎_elim
    (λ yes. absurd (false≢true (sym e
    ∙ ap (λ x. same_entry x entry || has entry (names contributions)) (sym (entry_is entry c.entry yes))
    ∙ ap (λ b. b || has entry (names contributions)) (own_entry entry))))
    (λ no. ap (map (λ c. c.value)) (filter_no (λ c. same_entry entry c.entry) c contributions no)
    ∙ values_none contributions entry (⊎_elim
    (λ yes. absurd (false≢true (sym e ∙ ap (λ b. b || has entry (names contributions)) yes)))
    (λ apart. sym (ap (λ b. b || has entry (names contributions)) apart) ∙ e)
    (yes_or_no (same_entry c.entry entry))))
    (yes_or_no (same_entry entry c.entry))

-- what is held has some
pub values_some : (contributions : List Contribution) (entry : Entry) → has entry (names contributions) ≡ true
    → values_of entry contributions ≢ []
values_some [] entry e = λ _. false≢true e
values_some (c ∷ contributions) entry e = ⊎_elim
    (λ yes none.
    let more = sym (ap (map (λ c. c.value)) (filter_yes (λ c. same_entry entry c.entry) c contributions yes))
    ∙ none in
    let two : c.value ∷ values_of entry contributions ≡ [] = more in
    cc two)
    (λ no none. values_some contributions entry
    (⊎_elim
    (λ yes. absurd (false≢true (sym no ∙ ap (same_entry entry) (entry_is c.entry entry yes) ∙ own_entry entry)))
    (λ apart. sym (ap (λ b. b || has entry (names contributions)) apart) ∙ e)
    (yes_or_no (same_entry c.entry entry)))
    (sym (ap (map (λ c. c.value)) (filter_no (λ c. same_entry entry c.entry) c contributions no)) ∙ none))
    (yes_or_no (same_entry entry c.entry))
