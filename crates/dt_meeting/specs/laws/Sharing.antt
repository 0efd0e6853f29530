-- How a shared row grows.
use Rattle.std.proofs.Common.{◌≡◌, ◌≤◌, ◌+◌, ◌⊎◌, ℕ, zero, suc, Bool, true, false, cond, List, [], ◌∷◌, ◌++◌, Some, None, length, refl, sym, ap, ◌∙◌, subst, ⊎_elim, inl, inr, arith, append-nil, append_assoc}
use Rattle.std.proofs.lemmas.List.{length-append}
use Rattle.std.specs.List.{AllByRecursion}
use Rattle.std.specs.Prelude.{slice_get}
use Rattle.dt_cred.specs.declared.account.Account.{Account}
use Rattle.dt_legal.specs.Rows.{IsLegalRow}
use Rattle.dt_legal.specs.laws.Starts.{own_both, own_here, own_elsewhere}
use Rattle.dt_machine.specs.Registry.{Contents}
use Rattle.dt_meeting.specs.Sharing.{IsShared, StandsAfter, firings_from, is_seen_after, seen_with}
use Rattle.dt_meeting.specs.laws.Seen.{seen_last, seen_more}
use Rattle.dt_trail.specs.Items.{TrailItem, fired, own}

-- one firing more
firings_more : (cpu place count : ℕ) → firings_from cpu place (suc count) ≡ firings_from cpu place count ++ fired cpu (place + count) ∷ []
firings_more cpu place zero = ap (λ (k : ℕ). fired cpu k ∷ []) (omega arith)
firings_more cpu place (suc count) =
    ap (λ (l : List TrailItem). fired cpu place ∷ l)
    (firings_more cpu (place + 1) count
    ∙ ap (λ (k : ℕ). firings_from cpu (place + 1) count ++ fired cpu k ∷ []) (omega arith))

-- what stands in a list with a new last element
last_at : (ks : List ℕ) (k n : ℕ) (place : ℕ) → slice_get (ks ++ k ∷ []) place ≡ Some n
    → (slice_get ks place ≡ Some n) ⊎ ((place ≡ length ks) × (k ≡ n))
last_at [] k n zero e = inr (refl, cc e)
last_at [] k n (suc place) e = absurd (let bad : None ≡ Some n = e in cc bad)
last_at (x ∷ ks) k n zero e = inl e
last_at (x ∷ ks) k n (suc place) e =
    ⊎_elim (λ (t : slice_get ks place ≡ Some n). inl t)
    (λ (t : (place ≡ length ks) × (k ≡ n)). inr (ap suc t.0, t.1)) (last_at ks k n place e)

module _ (account : Account) (contents : Contents) where
  -- what stands after items does so in a longer row
  after_more : (cpu : ℕ) (row more : List TrailItem) (place count : ℕ) → StandsAfter account contents cpu row place count
      → StandsAfter account contents cpu (row ++ more) place count
  after_more cpu row more place count b =
      (b.0, b.1 ++ more, ap (λ (l : List TrailItem). l ++ more) b.2 ∙ append_assoc b.0 (fired cpu place ∷ b.1) more, b.3)

  pub shared_new : (cpu : ℕ) → IsShared account contents cpu [] [] []
  shared_new cpu = record {
    seen = refl;
    mine = refl;
    others = λ _ _. refl;
    after = λ place count e. absurd (let bad : None ≡ Some count = e in cc bad);
  }

  -- the trail grows by items that aren't the processor's
  pub shared_grows : (cpu : ℕ) (trail more : List TrailItem) (knew : List ℕ) (row : List TrailItem)
      → IsShared account contents cpu trail knew row → IsLegalRow account contents (trail ++ more) → own (cpu + 1) more ≡ []
      → IsShared account contents cpu (trail ++ more) knew (row ++ more)
  shared_grows cpu trail more knew row h legal none = record {
    seen = seen_more account contents row trail more h.seen legal;
    mine =
        own_both (cpu + 1) row more ∙ ap (λ (l : List TrailItem). own (cpu + 1) row ++ l) none ∙ append-nil (own (cpu + 1) row) ∙ h.mine;
    others = λ note other.
        own_both note row more ∙ ap (λ (l : List TrailItem). l ++ own note more) (h.others note other) ∙ sym (own_both note trail more);
    after = λ place count e. after_more cpu row more place count (h.after place count e);
  }

  -- the new firing stands after all that the row has
  after_last : (cpu : ℕ) (trail row : List TrailItem) (knew : List ℕ) (count : ℕ) → IsShared account contents cpu trail knew row
      → count ≤ length trail → (place n : ℕ) → slice_get (knew ++ count ∷ []) place ≡ Some n
      → StandsAfter account contents cpu (row ++ fired cpu (length knew) ∷ []) place n
  after_last cpu trail row knew count h few place n e =
      ⊎_elim
      (λ (old : slice_get knew place ≡ Some n).
      after_more cpu row (fired cpu (length knew) ∷ []) place n (h.after place n old))
      (λ (new : (place ≡ length knew) × (count ≡ n)).
      (row, [], ap (λ (k : ℕ). row ++ fired cpu k ∷ []) (sym new.0), omega (arith, new.1, ap length h.seen, few)))
      (last_at knew count n place e)

  mine_more : (cpu : ℕ) (trail row : List TrailItem) (knew : List ℕ) (count : ℕ) → IsShared account contents cpu trail knew row
      → own (cpu + 1) (row ++ fired cpu (length knew) ∷ []) ≡ firings_from cpu 0 (length (knew ++ count ∷ []))
  mine_more cpu trail row knew count h =
      let here : 0 + length knew ≡ length knew = omega arith in
      let longer : suc (length knew) ≡ length (knew ++ count ∷ []) = omega (arith, length-append knew (count ∷ [])) in
      own_both (cpu + 1) row (fired cpu (length knew) ∷ [])
      ∙ ap (λ (l : List TrailItem). own (cpu + 1) row ++ l) (own_here (cpu + 1) (fired cpu (length knew)) [] refl)
      ∙ ap (λ (l : List TrailItem). l ++ fired cpu (length knew) ∷ []) h.mine
      ∙ ap (λ (k : ℕ). firings_from cpu 0 (length knew) ++ fired cpu k ∷ []) (sym here)
      ∙ sym (firings_more cpu 0 (length knew))
      ∙ ap (firings_from cpu 0) longer

  -- a firing that isn't seen where it stands
  pub shared_unseen : (cpu : ℕ) (trail : List TrailItem) (knew : List ℕ) (row : List TrailItem) (count : ℕ)
      → IsShared account contents cpu trail knew row → is_seen_after account contents trail cpu (length knew) ≡ false
      → count ≤ length trail
      → IsShared account contents cpu trail (knew ++ count ∷ []) (row ++ fired cpu (length knew) ∷ [])
  shared_unseen cpu trail knew row count h unseen few = record {
    seen =
        seen_last account contents row (fired cpu (length knew))
        ∙ ap (λ (l : List TrailItem). seen_with account contents l (fired cpu (length knew))) h.seen
        ∙ ap (λ (b : Bool). cond b (trail ++ fired cpu (length knew) ∷ []) trail) unseen;
    mine = mine_more cpu trail row knew count h;
    others = λ note other.
        own_both note row (fired cpu (length knew) ∷ [])
        ∙ ap (λ (l : List TrailItem). own note row ++ l) (own_elsewhere note (fired cpu (length knew)) [] (λ e. other (sym e)))
        ∙ append-nil (own note row) ∙ h.others note other;
    after = after_last cpu trail row knew count h few;
  }

  -- a firing that is seen
  pub shared_kept : (cpu : ℕ) (trail : List TrailItem) (knew : List ℕ) (row : List TrailItem) (count : ℕ)
      → IsShared account contents cpu trail knew row → is_seen_after account contents trail cpu (length knew) ≡ true
      → count ≤ length trail
      → IsShared account contents cpu (trail ++ fired cpu (length knew) ∷ []) (knew ++ count ∷ []) (row ++ fired cpu (length knew) ∷ [])
  shared_kept cpu trail knew row count h seen few = record {
    seen =
        seen_last account contents row (fired cpu (length knew))
        ∙ ap (λ (l : List TrailItem). seen_with account contents l (fired cpu (length knew))) h.seen
        ∙ ap (λ (b : Bool). cond b (trail ++ fired cpu (length knew) ∷ []) trail) seen;
    mine = mine_more cpu trail row knew count h;
    others = λ note other.
        own_both note row (fired cpu (length knew) ∷ [])
        ∙ ap (λ (l : List TrailItem). l ++ own note (fired cpu (length knew) ∷ [])) (h.others note other)
        ∙ sym (own_both note trail (fired cpu (length knew) ∷ []));
    after = after_last cpu trail row knew count h few;
  }

  -- firings that stand after the whole trail, where none is seen any more
  pub shared_late : (cpu : ℕ) (trail : List TrailItem) (knew late : List ℕ) (row : List TrailItem)
      → IsShared account contents cpu trail knew row → ((place : ℕ) → is_seen_after account contents trail cpu place ≡ false)
      → AllByRecursion (λ count. count ≤ length trail) late
      → (shared : List TrailItem) × IsShared account contents cpu trail (knew ++ late) shared
  shared_late cpu trail knew [] row h none few =
      (row, subst (λ (l : List ℕ). IsShared account contents cpu trail l row) (sym (append-nil knew)) h)
  shared_late cpu trail knew (k ∷ late) row h none few =
      let r = shared_late cpu trail (knew ++ k ∷ []) late (row ++ fired cpu (length knew) ∷ [])
      (shared_unseen cpu trail knew row k h (none (length knew)) few.0) none few.1 in
      (r.0, subst (λ (l : List ℕ). IsShared account contents cpu trail l r.0) (append_assoc knew (k ∷ []) late) r.1)
