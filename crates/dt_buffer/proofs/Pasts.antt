-- A buffer at the end of a past: what it shows, and one event more.
use Rattle.std.proofs.Common.{◌≡◌, ℕ, ◌+◌, ◌≤◌, ◌⊎◌, ◌↔◌, ◌||◌, Bool, true, false, List, [], ◌∷◌, ◌++◌, length, refl}
use Rattle.std.proofs.Common.{sym, ◌∙◌, subst, inl, inr, IsTrue, if◌then◌else◌, Result, Ok, Err, IfOk}
use Rattle.std.proofs.lemmas.Bool.{false≢true}
use Rattle.std.proofs.lemmas.List.{append-nil}
use Rattle.dt_buffer.proofs.Choices.{keeps_switch}
use Rattle.dt_buffer.proofs.Filling.{fill_shows}
use Rattle.dt_buffer.specs.laws.Histories.{attempts-append, of_end-append, ordinary-append, since-put, since-swap}
use Rattle.dt_buffer.proofs.Overwriting.{keeps_ring}
use Rattle.dt_buffer.specs.Beginning.{KeepsOrdinary, KeepsOfEnd}
use Rattle.dt_buffer.specs.History.{BufferPast, attempt, swap, buffer_after, attempts, ordinary, of_end, since_swap}
use Rattle.dt_buffer.specs.IsAt.{StoreIsAt}
use Rattle.dt_buffer.specs.Shows.{Shows, ShownBy, KeptBy, PutAnswers, EndLast, unkept}
use Rattle.dt_buffer.specs.Stores.{SwitchIsAt, FillIsAt, RingIsAt}
use Rattle.dt_buffer.specs.declared.fill.FillStore.{FillStore}
use Rattle.dt_buffer.specs.declared.policy.Policy.{Policy}
use Rattle.dt_buffer.specs.declared.policy.Policy.TheVariants.{Switch as SwitchPolicy, Fill as FillPolicy}
use Rattle.dt_buffer.specs.declared.policy.Policy.TheVariants.{Ring as RingPolicy}
use Rattle.dt_buffer.specs.declared.policy.Put.{Put}
use Rattle.dt_buffer.specs.declared.policy.Put.TheVariants.{Kept, Dropped, Filled}
use Rattle.dt_buffer.specs.declared.principal.Store.{Store}
use Rattle.dt_buffer.specs.declared.principal.Store.TheVariants.{Switch, Fill, Ring}
use Rattle.dt_buffer.specs.declared.ring.RingStore.{RingStore}
use Rattle.dt_buffer.specs.declared.switch.SwitchStore.{SwitchStore}

-- what a store shows
module _ (past : BufferPast) where
  pub switch_shown : (store : SwitchStore) → StoreIsAt past (Switch store)
      → Shows past store.kept.items store.drops false
  switch_shown store s =
      let P : Policy → Type 0 = λ p. ShownBy past p store.kept.items store.drops false in
      subst P (sym s.0) (s.1.shows, refl)

  pub fill_shown : (store : FillStore) → StoreIsAt past (Fill store)
      → Shows past store.kept.items 0 (store.ordinary_filled || store.end_filled)
  fill_shown store s =
      let P : Policy → Type 0 =
      λ p. ShownBy past p store.kept.items 0 (store.ordinary_filled || store.end_filled) in
      subst P (sym s.0) (
        fill_shows past.size past.reserve (ordinary past.events) (of_end past.events) store.kept.items
            store.ordinary_filled store.end_filled s.1.holds,
        refl,
      )

  pub ring_shown : (store : RingStore) → StoreIsAt past (Ring store) → Shows past store.bytes.items store.drops false
  ring_shown store s =
      let P : Policy → Type 0 = λ p. ShownBy past p store.bytes.items store.drops false in
      subst P (sym s.0) (s.1.shows, refl)

-- what is said of a record
told : (b : Bool) (other : Put) → (other ≡ Kept → ⊥) → ((if b then Kept else other) ≡ Kept) ↔ IsTrue b
told true other differs = ((λ _. refl), (λ _. refl))
told false other differs = ((λ e. absurd (differs e)), (λ t. absurd (false≢true t)))

said : (b : Bool) (other : Put) → ((if b then Kept else other) ≡ Kept) ⊎ ((if b then Kept else other) ≡ other)
said true other = inl refl
said false other = inr refl

module _ (past : BufferPast) (bytes : List ℕ) (in_end : Bool) (b : Bool) where
  answer : (policy : Policy) → past.policy ≡ policy → (unkept past policy ≡ Kept → ⊥)
      → IsTrue b ↔ KeptBy past policy bytes in_end
      → PutAnswers past bytes in_end (if b then Kept else unkept past policy)
  answer policy same differs keeps =
      let put = if b then Kept else unkept past policy in
      let K : Policy → Type 0 = λ p. KeptBy past p bytes in_end in
      let O : Policy → Type 0 = λ p. (put ≡ Kept) ⊎ (put ≡ unkept past p) in
      let t = told b (unkept past policy) differs in
      record {
        kept = ((λ e. subst K (sym same) (keeps.0 (t.0 e))), (λ k. t.1 (keeps.1 (subst K same k))));
        otherwise = subst O (sym same) (said b (unkept past policy));
      }

  module _ (old new : SwitchStore) (s : StoreIsAt past (Switch old))
      (steps : SwitchIsAt past.size (since_swap past.events) old
      → SwitchIsAt past.size (since_swap past.events ++ bytes ∷ []) new) where
    pub put_switch : StoreIsAt (buffer_after past (attempt bytes in_end)) (Switch new)
    put_switch =
        let P : List (List ℕ) → Type 0 = λ xs. SwitchIsAt past.size xs new in
        (s.0, subst P (sym (since-put past.events bytes in_end)) (steps s.1))

    pub answer_switch : IsTrue b ↔ (length old.kept.items + length bytes ≤ old.size)
        → PutAnswers past bytes in_end (if b then Kept else Dropped)
    answer_switch fits =
        let P : ℕ → Type 0 = λ n. IsTrue b ↔ (length old.kept.items + length bytes ≤ n) in
        answer SwitchPolicy s.0 (λ e. cc)
        (keeps_switch past.size (since_swap past.events) old.kept.items old.drops bytes s.1.shows b
        (subst P s.1.same_size fits))

  module _ (old new : RingStore) (s : StoreIsAt past (Ring old))
      (steps : RingIsAt past.size (attempts past.events) old
      → RingIsAt past.size (attempts past.events ++ bytes ∷ []) new) where
    pub put_ring : StoreIsAt (buffer_after past (attempt bytes in_end)) (Ring new)
    put_ring =
        let P : List (List ℕ) → Type 0 = λ xs. RingIsAt past.size xs new in
        (s.0, subst P (sym (attempts-append past.events (attempt bytes in_end ∷ []))) (steps s.1))

    pub answer_ring : IsTrue b ↔ (length bytes ≤ old.bytes.capacity)
        → PutAnswers past bytes in_end (if b then Kept else Dropped)
    answer_ring fits =
        let P : ℕ → Type 0 = λ n. IsTrue b ↔ (length bytes ≤ n) in
        let short = subst P s.1.room fits in
        answer RingPolicy s.0 (λ e. cc) (
          (λ t. keeps_ring past.size (attempts past.events) bytes (short.0 t)),
          (λ k. short.1 k.short),
        )

-- an ordinary record under fill, where none of END came before it
module _ (past : BufferPast) (bytes : List ℕ) (b : Bool) (old new : FillStore) (s : StoreIsAt past (Fill old))
    (last : EndLast past false)
    (steps : FillIsAt past.size past.reserve (ordinary past.events) [] old
    → FillIsAt past.size past.reserve (ordinary past.events ++ bytes ∷ []) [] new
    × (IsTrue b ↔ KeepsOrdinary past.size past.reserve (ordinary past.events) bytes)) where
  none : of_end past.events ≡ []
  none = last s.0 refl

  stepped : FillIsAt past.size past.reserve (ordinary past.events ++ bytes ∷ []) [] new
      × (IsTrue b ↔ KeepsOrdinary past.size past.reserve (ordinary past.events) bytes)
  stepped =
      let P : List (List ℕ) → Type 0 = λ xs. FillIsAt past.size past.reserve (ordinary past.events) xs old in
      steps (subst P none s.1)

  pub put_ordinary_past : StoreIsAt (buffer_after past (attempt bytes false)) (Fill new)
  put_ordinary_past =
      let O : List (List ℕ) → Type 0 =
      λ xs. FillIsAt past.size past.reserve xs (of_end (past.events ++ attempt bytes false ∷ [])) new in
      let E : List (List ℕ) → Type 0 =
      λ xs. FillIsAt past.size past.reserve (ordinary past.events ++ bytes ∷ []) xs new in
      let ends : [] ≡ of_end (past.events ++ attempt bytes false ∷ []) =
      sym (of_end-append past.events (attempt bytes false ∷ []) ∙ append-nil (of_end past.events) ∙ none) in
      (s.0, subst O (sym (ordinary-append past.events (attempt bytes false ∷ []))) (subst E ends stepped.0))

  pub answer_ordinary : PutAnswers past bytes false (if b then Kept else Filled)
  answer_ordinary = answer past bytes false b FillPolicy s.0 (λ e. cc) stepped.1

-- a record of END under fill
module _ (past : BufferPast) (bytes : List ℕ) (b : Bool) (old new : FillStore) (s : StoreIsAt past (Fill old))
    (steps : FillIsAt past.size past.reserve (ordinary past.events) (of_end past.events) old
    → FillIsAt past.size past.reserve (ordinary past.events) (of_end past.events ++ bytes ∷ []) new
    × (IsTrue b ↔ KeepsOfEnd past.size past.reserve (ordinary past.events) (of_end past.events) bytes)) where
  pub put_end_past : StoreIsAt (buffer_after past (attempt bytes true)) (Fill new)
  put_end_past =
      let O : List (List ℕ) → Type 0 =
      λ xs. FillIsAt past.size past.reserve xs (of_end (past.events ++ attempt bytes true ∷ [])) new in
      let E : List (List ℕ) → Type 0 = λ xs. FillIsAt past.size past.reserve (ordinary past.events) xs new in
      let same : ordinary past.events ≡ ordinary (past.events ++ attempt bytes true ∷ []) =
      sym (ordinary-append past.events (attempt bytes true ∷ []) ∙ append-nil (ordinary past.events)) in (
        s.0,
        subst O same (subst E (sym (of_end-append past.events (attempt bytes true ∷ []))) (steps s.1).0),
      )

  pub answer_end : PutAnswers past bytes true (if b then Kept else Filled)
  answer_end = answer past bytes true b FillPolicy s.0 (λ e. cc) (steps s.1).1

-- a swap
module _ (past : BufferPast) where
  pub swap_switch : (old new : SwitchStore) → StoreIsAt past (Switch old) → SwitchIsAt past.size [] new
      → StoreIsAt (buffer_after past swap) (Switch new)
  swap_switch old new s empty =
      let P : List (List ℕ) → Type 0 = λ xs. SwitchIsAt past.size xs new in
      (s.0, subst P (sym (since-swap past.events)) empty)

  pub swap_other : (store : Store) → ((held : SwitchStore) → store ≡ Switch held → ⊥) → StoreIsAt past store
      → StoreIsAt (buffer_after past swap) store
  swap_other (Switch store) other s = absurd (other store refl)
  swap_other (Fill store) other s =
      let P : List (List ℕ) → List (List ℕ) → Type 0 = λ xs ys. FillIsAt past.size past.reserve xs ys store in
      let O = sym (ordinary-append past.events (swap ∷ []) ∙ append-nil (ordinary past.events)) in
      let E = sym (of_end-append past.events (swap ∷ []) ∙ append-nil (of_end past.events)) in (
        s.0,
        subst (λ (xs : List (List ℕ)). P xs (of_end (past.events ++ swap ∷ []))) O
            (subst (λ (ys : List (List ℕ)). P (ordinary past.events) ys) E s.1),
      )
  swap_other (Ring store) other s =
      let P : List (List ℕ) → Type 0 = λ xs. RingIsAt past.size xs store in (
        s.0,
        subst P (sym (attempts-append past.events (swap ∷ []) ∙ append-nil (attempts past.events))) s.1,
      )

-- no store but that of fill is ever filled
pub unfilled : (past : BufferPast) (store : Store) → ((held : FillStore) → store ≡ Fill held → ⊥)
    → StoreIsAt past store
    → (bytes : List ℕ) × (drops : ℕ) × Shows past bytes drops false
unfilled past (Switch store) other s = (store.kept.items, store.drops, switch_shown past store s)
unfilled past (Fill store) other s = absurd (other store refl)
unfilled past (Ring store) other s = (store.bytes.items, store.drops, ring_shown past store s)

pub ok_more : {T E : Type 0} (P Q : T → Type 0) (r : Result T E) → ((x : T) → P x → Q x) → IfOk r P → IfOk r Q
ok_more P Q (Ok x) f h = f x h
ok_more P Q (Err e) f h = h
