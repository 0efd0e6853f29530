-- One more record of a fill store, kept or not.
use Rattle.std.proofs.Common.{◌≡◌, ℕ, ◌+◌, ◌-◌, ◌<◌, ◌≤◌, ◌⊎◌, ◌↔◌, ◌||◌, Bool, true, false, List, [], ◌∷◌, ◌++◌}
use Rattle.std.proofs.Common.{length, take, refl, sym, ap, ◌∙◌, subst, inl, inr, ⊎_elim, IsTrue, arith}
use Rattle.std.specs.List.{concat}
use Rattle.std.proofs.lemmas.Bool.{cases_lt, false≢true}
use Rattle.std.proofs.lemmas.List.{append_assoc, append-nil, length-append, length_push, take-append-le, take_all}
use Rattle.dt_buffer.specs.laws.Beginnings.{begins_all, begins_none, begins_same, one_begins, size_push}
use Rattle.dt_buffer.specs.laws.Choices.{concat-push, take-whole}
use Rattle.dt_buffer.specs.Beginning.{IsLongestBeginning, ShowsFill, KeepsOrdinary, KeepsOfEnd, size_of}
use Rattle.dt_buffer.specs.Stores.{FillHolds, FillIsAt}
use Rattle.dt_buffer.specs.declared.fill.FillStore.{FillStore}

either : (a b : Bool) (P Q : Type 0) → IsTrue a ↔ P → IsTrue b ↔ Q → IsTrue (a || b) ↔ (P ⊎ Q)
either true b P Q f g = ((λ _. inl (f.0 refl)), (λ _. refl))
either false b P Q f g = (
  (λ t. inr (g.0 t)),
  (λ e. ⊎_elim (λ (p : P). absurd (false≢true (f.1 p))) (λ (q : Q). g.1 q) e),
)

pub fill_none : (size reserve : ℕ) → FillHolds size reserve [] [] [] false false
fill_none size reserve = record {
  first = 0;
  last = 0;
  ordinary_kept = begins_none (size - reserve);
  end_kept = begins_none (size - 0);
  kept = refl;
  ordinary_filled = ((λ t. absurd (false≢true t)), (λ few. absurd (omega arith)));
  end_filled = ((λ t. absurd (false≢true t)), (λ few. absurd (omega arith)));
}

module _ (size reserve : ℕ) (ordinary of_end : List (List ℕ)) (bytes : List ℕ) (o e : Bool)
    (h : FillHolds size reserve ordinary of_end bytes o e) where
  pub fill_shows : ShowsFill size reserve ordinary of_end bytes (o || e)
  fill_shows = record {
    first = h.first;
    last = h.last;
    ordinary_kept = h.ordinary_kept;
    end_kept = h.end_kept;
    kept = h.kept;
    is_filled = either o e (h.first < length ordinary) (h.last < length of_end) h.ordinary_filled h.end_filled;
  }

  -- a kind of which all were kept
  pub all_ordinary : o ≡ false → h.first ≡ length ordinary
  all_ordinary whole = ⊎_elim
      (λ (few : h.first < length ordinary). absurd (false≢true (sym whole ∙ h.ordinary_filled.1 few)))
      (λ (all : length ordinary ≤ h.first). omega (arith, h.ordinary_kept.within))
      (cases_lt h.first (length ordinary))

  pub all_of_end : e ≡ false → h.last ≡ length of_end
  all_of_end whole = ⊎_elim
      (λ (few : h.last < length of_end). absurd (false≢true (sym whole ∙ h.end_filled.1 few)))
      (λ (all : length of_end ≤ h.last). omega (arith, h.end_kept.within))
      (cases_lt h.last (length of_end))

  pub long : length bytes ≡ size_of (take h.first ordinary) + size_of (take h.last of_end)
  long = ap length h.kept ∙ length-append (concat (take h.first ordinary)) (concat (take h.last of_end))

module _ (size reserve : ℕ) (ordinary : List (List ℕ)) (bytes : List ℕ) (o e : Bool) (attempt : List ℕ)
    (h : FillHolds size reserve ordinary [] bytes o e) where
  none : concat (take h.last []) ≡ []
  none = ap concat (take_all h.last [] (omega arith))

  kept_ordinary : bytes ≡ concat (take h.first ordinary)
  kept_ordinary = h.kept ∙ ap (λ xs. concat (take h.first ordinary) ++ xs) none
      ∙ append-nil (concat (take h.first ordinary))

  -- ordinary records leave the reserve alone
  pub ordinary_within : length bytes ≤ size - reserve
  ordinary_within = omega (arith, ap length kept_ordinary, h.ordinary_kept.fits)

  kept_all : o ≡ false → bytes ≡ concat ordinary
  kept_all whole = kept_ordinary ∙ ap concat
      (take-whole ordinary h.first (all_ordinary size reserve ordinary [] bytes o e h whole))

  module _ (whole : o ≡ false) (fits : length bytes + length attempt ≤ size - reserve) where
    fits_all : size_of (ordinary ++ attempt ∷ []) ≤ size - reserve
    fits_all = omega (arith, size_push ordinary attempt, ap length (kept_all whole))

    begins : IsLongestBeginning (size - reserve) (ordinary ++ attempt ∷ []) (length (ordinary ++ attempt ∷ []))
    begins = begins_all (size - reserve) (ordinary ++ attempt ∷ []) fits_all

    pub ordinary_taken : FillHolds size reserve (ordinary ++ attempt ∷ []) [] (bytes ++ attempt) false e
    ordinary_taken = record {
      first = length (ordinary ++ attempt ∷ []);
      last = 0;
      ordinary_kept = begins;
      end_kept = begins_none (size - size_of (take (length (ordinary ++ attempt ∷ [])) (ordinary ++ attempt ∷ [])));
      kept = ap (λ xs. xs ++ attempt) (kept_all whole) ∙ sym (concat-push ordinary attempt)
          ∙ ap concat (sym (take-whole (ordinary ++ attempt ∷ []) (length (ordinary ++ attempt ∷ [])) refl))
          ∙ sym (append-nil (concat (take (length (ordinary ++ attempt ∷ [])) (ordinary ++ attempt ∷ []))));
      ordinary_filled = ((λ t. absurd (false≢true t)), (λ few. absurd (omega arith)));
      end_filled = ((λ t. absurd (omega (arith, h.end_filled.0 t))), (λ few. absurd (omega arith)));
    }

    pub ordinary_keeps : KeepsOrdinary size reserve ordinary attempt
    ordinary_keeps =
        let P : ℕ → Type 0 = λ n. IsLongestBeginning (size - reserve) (ordinary ++ attempt ∷ []) n in
        subst P (length_push ordinary attempt) begins

  module _ (over : (IsTrue o) ⊎ (size - reserve < length bytes + length attempt)) where
    no_room : size - reserve < size_of ordinary + length attempt
    no_room = ⊎_elim
        (λ (late : size - reserve < size_of ordinary + length attempt). late)
        (λ (fits : size_of ordinary + length attempt ≤ size - reserve).
        let most : length ordinary ≤ h.first = h.ordinary_kept.longest (length ordinary) (omega arith)
        (omega (arith, ap size_of (take-whole ordinary (length ordinary) refl))) in
        let all : h.first ≡ length ordinary = omega (arith, h.ordinary_kept.within) in
        absurd (⊎_elim
        (λ (t : IsTrue o). let few = h.ordinary_filled.0 t in omega arith)
        (λ (late : size - reserve < length bytes + length attempt).
        omega (arith, ap length kept_ordinary, ap size_of (take-whole ordinary h.first all)))
        over))
        (cases_lt (size - reserve) (size_of ordinary + length attempt))

    front : take h.first (ordinary ++ attempt ∷ []) ≡ take h.first ordinary
    front = take-append-le h.first ordinary (attempt ∷ []) h.ordinary_kept.within

    pub ordinary_left : FillHolds size reserve (ordinary ++ attempt ∷ []) [] bytes true e
    ordinary_left =
        let P : List (List ℕ) → Type 0 = λ xs. IsLongestBeginning (size - size_of xs) [] h.last in
        record {
          first = h.first;
          last = h.last;
          ordinary_kept = begins_same (size - reserve) ordinary attempt h.first h.ordinary_kept no_room;
          end_kept = subst P (sym front) h.end_kept;
          kept = h.kept ∙ ap (λ xs. concat xs ++ concat (take h.last [])) (sym front);
          ordinary_filled = ((λ _. omega (arith, h.ordinary_kept.within, length_push ordinary attempt)), (λ _. refl));
          end_filled = h.end_filled;
        }

    pub ordinary_denied : KeepsOrdinary size reserve ordinary attempt → ⊥
    ordinary_denied k =
        let same = one_begins (size - reserve) (ordinary ++ attempt ∷ []) h.first (length ordinary + 1)
        (begins_same (size - reserve) ordinary attempt h.first h.ordinary_kept no_room) k in
        omega (arith, h.ordinary_kept.within)

module _ (size reserve : ℕ) (ordinary of_end : List (List ℕ)) (bytes : List ℕ) (o e : Bool) (attempt : List ℕ)
    (h : FillHolds size reserve ordinary of_end bytes o e) where
  room : ℕ
  room = size - size_of (take h.first ordinary)

  total : length bytes ≡ size_of (take h.first ordinary) + size_of (take h.last of_end)
  total = long size reserve ordinary of_end bytes o e h

  ordinary_fit : size_of (take h.first ordinary) ≤ size
  ordinary_fit = omega (arith, h.ordinary_kept.fits)

  module _ (whole : e ≡ false) (fits : length bytes + length attempt ≤ size) where
    all : take h.last of_end ≡ of_end
    all = take-whole of_end h.last (all_of_end size reserve ordinary of_end bytes o e h whole)

    begins_end : IsLongestBeginning (size - size_of (take h.first ordinary)) (of_end ++ attempt ∷ [])
        (length (of_end ++ attempt ∷ []))
    begins_end = begins_all (size - size_of (take h.first ordinary)) (of_end ++ attempt ∷ [])
        (omega (arith, total, ap size_of all, size_push of_end attempt))

    pub end_taken : FillHolds size reserve ordinary (of_end ++ attempt ∷ []) (bytes ++ attempt) o false
    end_taken = record {
      first = h.first;
      last = length (of_end ++ attempt ∷ []);
      ordinary_kept = h.ordinary_kept;
      end_kept = begins_end;
      kept = ap (λ xs. xs ++ attempt) h.kept
          ∙ append_assoc (concat (take h.first ordinary)) (concat (take h.last of_end)) attempt
          ∙ ap (λ xs. concat (take h.first ordinary) ++ (concat xs ++ attempt)) all
          ∙ ap (λ xs. concat (take h.first ordinary) ++ xs) (sym (concat-push of_end attempt))
          ∙ ap (λ xs. concat (take h.first ordinary) ++ concat xs)
          (sym (take-whole (of_end ++ attempt ∷ []) (length (of_end ++ attempt ∷ [])) refl));
      ordinary_filled = h.ordinary_filled;
      end_filled = ((λ t. absurd (false≢true t)), (λ few. absurd (omega arith)));
    }

    pub end_keeps : KeepsOfEnd size reserve ordinary of_end attempt
    end_keeps =
        let P : ℕ → Type 0 =
        λ n. IsLongestBeginning (size - size_of (take h.first ordinary)) (of_end ++ attempt ∷ []) n in
        record {
          first = h.first;
          ordinary_kept = h.ordinary_kept;
          end_kept = subst P (length_push of_end attempt) begins_end;
        }

  module _ (over : (IsTrue e) ⊎ (size < length bytes + length attempt)) where
    no_end_room : size - size_of (take h.first ordinary) < size_of of_end + length attempt
    no_end_room = ⊎_elim
        (λ (late : size - size_of (take h.first ordinary) < size_of of_end + length attempt). late)
        (λ (fits : size_of of_end + length attempt ≤ size - size_of (take h.first ordinary)).
        let most : length of_end ≤ h.last = h.end_kept.longest (length of_end) (omega arith)
        (omega (arith, ap size_of (take-whole of_end (length of_end) refl))) in
        let every : h.last ≡ length of_end = omega (arith, h.end_kept.within) in
        absurd (⊎_elim
        (λ (t : IsTrue e). let few = h.end_filled.0 t in omega arith)
        (λ (late : size < length bytes + length attempt).
        omega (arith, total, ordinary_fit, ap size_of (take-whole of_end h.last every)))
        over))
        (cases_lt (size - size_of (take h.first ordinary)) (size_of of_end + length attempt))

    left : IsLongestBeginning (size - size_of (take h.first ordinary)) (of_end ++ attempt ∷ []) h.last
    left = begins_same (size - size_of (take h.first ordinary)) of_end attempt h.last h.end_kept no_end_room

    pub end_left : FillHolds size reserve ordinary (of_end ++ attempt ∷ []) bytes o true
    end_left = record {
      first = h.first;
      last = h.last;
      ordinary_kept = h.ordinary_kept;
      end_kept = left;
      kept = h.kept ∙ ap (λ xs. concat (take h.first ordinary) ++ concat xs)
          (sym (take-append-le h.last of_end (attempt ∷ []) h.end_kept.within));
      ordinary_filled = h.ordinary_filled;
      end_filled = ((λ _. omega (arith, h.end_kept.within, length_push of_end attempt)), (λ _. refl));
    }

    pub end_denied : KeepsOfEnd size reserve ordinary of_end attempt → ⊥
    end_denied k =
        let P : ℕ → Type 0 =
        λ n. IsLongestBeginning (size - size_of (take n ordinary)) (of_end ++ attempt ∷ []) (length of_end + 1) in
        let same = one_begins (size - reserve) ordinary k.first h.first k.ordinary_kept h.ordinary_kept in
        let last = one_begins (size - size_of (take h.first ordinary)) (of_end ++ attempt ∷ []) h.last
        (length of_end + 1) left (subst P same k.end_kept) in
        omega (arith, h.end_kept.within)

holds_as : (size reserve : ℕ) (ordinary of_end : List (List ℕ)) (bytes other : List ℕ) (o p e f : Bool)
    → other ≡ bytes → p ≡ o → f ≡ e → FillHolds size reserve ordinary of_end bytes o e
    → FillHolds size reserve ordinary of_end other p f
holds_as size reserve ordinary of_end bytes other o p e f same_bytes same_o same_e h =
    let B : List ℕ → Type 0 = λ b. FillHolds size reserve ordinary of_end b p f in
    let O : Bool → Type 0 = λ x. FillHolds size reserve ordinary of_end bytes x f in
    let E : Bool → Type 0 = λ x. FillHolds size reserve ordinary of_end bytes o x in
    subst B (sym same_bytes) (subst O (sym same_o) (subst E (sym same_e) h))

denies : (P : Type 0) → (P → ⊥) → IsTrue false ↔ P
denies P whole = ((λ t. absurd (false≢true t)), (λ p. absurd (whole p)))

module _ (size reserve : ℕ) (ordinary : List (List ℕ)) (attempt : List ℕ) (old new : FillStore)
    (s : FillIsAt size reserve ordinary [] old) (same : new.size ≡ old.size) (held : new.reserve ≡ old.reserve)
    (quiet : new.end_filled ≡ old.end_filled) where
  pub put_ordinary_kept : old.ordinary_filled ≡ false → new.ordinary_filled ≡ false
      → new.kept.items ≡ old.kept.items ++ attempt
      → length attempt ≤ (old.size - old.reserve) - length old.kept.items
      → FillIsAt size reserve (ordinary ++ attempt ∷ []) [] new
      × (IsTrue true ↔ KeepsOrdinary size reserve ordinary attempt)
  put_ordinary_kept whole still kept short =
      let o = old.ordinary_filled in
      let e = old.end_filled in
      let bytes = old.kept.items in
      let within = ordinary_within size reserve ordinary bytes o e attempt s.holds in
      let fits : length bytes + length attempt ≤ size - reserve = omega (arith, s.same_size, s.same_reserve) in (
        record {
          same_size = same ∙ s.same_size;
          same_reserve = held ∙ s.same_reserve;
          holds = holds_as size reserve (ordinary ++ attempt ∷ []) [] (bytes ++ attempt) new.kept.items false
              new.ordinary_filled e new.end_filled kept still quiet
              (ordinary_taken size reserve ordinary bytes o e attempt s.holds whole fits);
        },
        (
          (λ _. ordinary_keeps size reserve ordinary bytes o e attempt s.holds whole fits),
          (λ _. refl),
        ),
      )

  pub put_ordinary_left : new.ordinary_filled ≡ true → new.kept.items ≡ old.kept.items
      → (IsTrue old.ordinary_filled) ⊎ ((old.size - old.reserve) - length old.kept.items < length attempt)
      → FillIsAt size reserve (ordinary ++ attempt ∷ []) [] new
      × (IsTrue false ↔ KeepsOrdinary size reserve ordinary attempt)
  put_ordinary_left shut kept why =
      let o = old.ordinary_filled in
      let e = old.end_filled in
      let bytes = old.kept.items in
      let over : (IsTrue o) ⊎ (size - reserve < length bytes + length attempt) = ⊎_elim
      (λ (t : IsTrue old.ordinary_filled). inl t)
      (λ (late : (old.size - old.reserve) - length old.kept.items < length attempt).
      inr (omega (arith, s.same_size, s.same_reserve)))
      why in (
        record {
          same_size = same ∙ s.same_size;
          same_reserve = held ∙ s.same_reserve;
          holds = holds_as size reserve (ordinary ++ attempt ∷ []) [] bytes new.kept.items true
              new.ordinary_filled e new.end_filled kept shut quiet
              (ordinary_left size reserve ordinary bytes o e attempt s.holds over);
        },
        denies (KeepsOrdinary size reserve ordinary attempt)
            (ordinary_denied size reserve ordinary bytes o e attempt s.holds over),
      )

module _ (size reserve : ℕ) (ordinary of_end : List (List ℕ)) (attempt : List ℕ) (old new : FillStore)
    (s : FillIsAt size reserve ordinary of_end old) (same : new.size ≡ old.size) (held : new.reserve ≡ old.reserve)
    (quiet : new.ordinary_filled ≡ old.ordinary_filled) where
  pub put_end_kept : old.end_filled ≡ false → new.end_filled ≡ false
      → new.kept.items ≡ old.kept.items ++ attempt → length old.kept.items + length attempt ≤ old.size
      → FillIsAt size reserve ordinary (of_end ++ attempt ∷ []) new
      × (IsTrue true ↔ KeepsOfEnd size reserve ordinary of_end attempt)
  put_end_kept whole still kept short =
      let o = old.ordinary_filled in
      let e = old.end_filled in
      let bytes = old.kept.items in
      let fits : length bytes + length attempt ≤ size = omega (arith, s.same_size) in (
        record {
          same_size = same ∙ s.same_size;
          same_reserve = held ∙ s.same_reserve;
          holds = holds_as size reserve ordinary (of_end ++ attempt ∷ []) (bytes ++ attempt) new.kept.items o
              new.ordinary_filled false new.end_filled kept quiet still
              (end_taken size reserve ordinary of_end bytes o e attempt s.holds whole fits);
        },
        (
          (λ _. end_keeps size reserve ordinary of_end bytes o e attempt s.holds whole fits),
          (λ _. refl),
        ),
      )

  pub put_end_left : new.end_filled ≡ true → new.kept.items ≡ old.kept.items
      → (IsTrue old.end_filled) ⊎ (old.size < length old.kept.items + length attempt)
      → FillIsAt size reserve ordinary (of_end ++ attempt ∷ []) new
      × (IsTrue false ↔ KeepsOfEnd size reserve ordinary of_end attempt)
  put_end_left shut kept why =
      let o = old.ordinary_filled in
      let e = old.end_filled in
      let bytes = old.kept.items in
      let over : (IsTrue e) ⊎ (size < length bytes + length attempt) = ⊎_elim
      (λ (t : IsTrue old.end_filled). inl t)
      (λ (late : old.size < length old.kept.items + length attempt). inr (omega (arith, s.same_size)))
      why in (
        record {
          same_size = same ∙ s.same_size;
          same_reserve = held ∙ s.same_reserve;
          holds = holds_as size reserve ordinary (of_end ++ attempt ∷ []) bytes new.kept.items o
              new.ordinary_filled true new.end_filled kept quiet shut
              (end_left size reserve ordinary of_end bytes o e attempt s.holds over);
        },
        denies (KeepsOfEnd size reserve ordinary of_end attempt)
            (end_denied size reserve ordinary of_end bytes o e attempt s.holds over),
      )
