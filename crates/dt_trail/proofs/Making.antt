-- Cells that are made, and the rule at the start.
use Rattle.std.proofs.Common.{◌≡◌, ◌≢◌, ℕ, zero, suc, ◌+◌, ◌<◌, List, [], ◌∷◌, ◌++◌, length, refl, sym, ap, ◌∙◌, subst, arith, length-append, append-nil}
use Rattle.std.specs.Prelude.{Option, Some}
use mathlib.Core.Option.{some, some-injective, some-ne-none}
use mathlib.Core.Logic.{dite}
use native.Mathlib.Decide.{ℕ_discrete}
use lib.ListN.{get_elem?}
use denote.RawPtr.{Ptr, InBlock}
use Rattle.atomic_blocks.specs.Cells.{Cell, cell, row_at, row, cell_in}
use Rattle.dt_trail.specs.declared.rule.About.{About}
use Rattle.dt_trail.specs.declared.rule.TrailView.{TrailView}
use Rattle.dt_trail.specs.Items.{TrailItem}
use Rattle.dt_trail.specs.Blocks.{flat, Blank, Rooted}
use Rattle.dt_trail.specs.Rule.{NoSlot, RowWorld, FitsRow, Kept, maker, first_door, first_extent}
use Rattle.dt_trail.proofs.Fitting.{off}
use Rattle.dt_trail.specs.Limits.{block_bound, widenings}

module _ {S : Type 0} where
  pushed : (cs : List (Cell S)) (c : Cell S) (F : ℕ → Cell S → Type 0) (n : ℕ) → length cs ≡ n → F n c → ((j : ℕ) → j < n → F j (cell_in cs j)) → (j : ℕ) → j < n + 1 → F j (cell_in (cs ++ c ∷ []) j)
  pushed cs c F n long new old j h = dite (ℕ_discrete j n) (λ e. subst (λ (z : ℕ). F z (cell_in (cs ++ c ∷ []) z)) (sym e) (subst (F n) (sym (lib.Seq.get_or_at cs c [] _ n long)) new))
      (λ e. subst (F j) (sym (lib.ListN.get_or-append cs (c ∷ []) _ j (omega arith))) (old j (omega arith)))

  pub rooted_more : (first : Ptr) (size n w : ℕ) (cs : List (Cell S)) (x : S) → (n ≡ 0 → w ≡ size) → (n ≢ 0 → w ≡ 0) → Rooted first size n cs → Rooted first size (n + 1) (cs ++ cell w first (Some x) ∷ [])
  rooted_more first size n w cs x a z old = let long : length cs ≡ n = old.0 in let c : Cell S = cell w first (Some x) in
      (length-append cs (c ∷ []) ∙ (omega arith), pushed cs c (λ j y. (y.link ≡ first) × (j ≡ 0 → y.word ≡ size) × (j ≢ 0 → y.word ≡ 0)) n long (refl, a, z) old.1)

  pub blank_more : (cs : List (Cell S)) (p : Ptr) (h : Option S) → Blank cs → Blank (cs ++ cell 0 p h ∷ [])
  blank_more [] p h b zero = refl
  blank_more [] p h b (suc k) = refl
  blank_more (c ∷ cs) p h b zero = b 0
  blank_more (c ∷ cs) p h b (suc k) = blank_more cs p h (λ j. b (suc j)) k

pub begins : {K : Type 0} (lawful : K → List TrailItem → Type 0) (key : About K) (p q : Ptr) (cs ds : List (Cell NoSlot)) → p ≡ key.root.ptr → q ≡ key.first.ptr → Rooted key.first.ptr key.size (widenings + 2) cs
    → length ds ≡ key.size → Blank ds → 0 < key.size → key.size < block_bound → InBlock q → lawful key.account []
    → Kept lawful key.root.ptr key.account record { rows = row_at p cs ∷ row_at q ds ∷ []; views = maker (Some key.account) 0 (first_door key.size key.first.ptr) (first_extent key.size) ∷ [] }
begins {K = K} lawful key p q cs ds ep eq rooted long blank pos small placed ok = record {
  world = world;
  keyed = refl;
  is = refl;
  laid = record {
    at = ep;
    long = rooted.0;
    few = omega arith;
    some = omega arith;
    wide = (let a = flat_long in omega arith);
    sizes = sizes;
    places = places;
  };
  shows = record { room = omega arith; words = words; legal = ok; real = tt };
  each = each;
}
  where
    world : RowWorld K
    world = record { account = key.account; base = row_at p cs; blocks = row_at q ds ∷ []; items = []; place = λ k. k; keeper = 0; made = 0 }

    flat_long : length (flat (row_at q ds ∷ [])) ≡ key.size
    flat_long = ap length (append-nil ds) ∙ long

    sizes : (j : ℕ) → j < widenings + 2 → (cell_in cs j).word ≡ length (row (row_at q ds ∷ []) j).cells
    sizes zero h = (rooted.1 0 h).1 refl ∙ sym long
    sizes (suc j) h = (rooted.1 (suc j) h).2 (λ e. omega arith)

    places : (j : ℕ) → j < 1 → ((cell_in cs j).link ≡ (row (row_at q ds ∷ []) j).at) × InBlock (row (row_at q ds ∷ []) j).at × (0 < length (row (row_at q ds ∷ []) j).cells) × (length (row (row_at q ds ∷ []) j).cells < block_bound)
    places zero h = ((rooted.1 0 (omega arith)).0 ∙ sym eq, placed, omega arith, omega arith)
    places (suc j) h = absurd (omega arith)

    words : (k : ℕ) → (cell_in (flat (row_at q ds ∷ [])) k).word ≡ 0
    words k = ap (λ (l : List (Cell NoSlot)). (cell_in l k).word) (append-nil ds) ∙ blank k

    each : (by : ℕ) (v : TrailView K) → get_elem? (maker (Some key.account) 0 (first_door key.size key.first.ptr) (first_extent key.size) ∷ []) by ≡ some v → FitsRow world by v
    each zero v e = subst (FitsRow world 0) (some-injective _ _ e) record {
      account = (λ x a. cc);
      begins = ([], refl);
      live = (λ c. absurd (off c));
      owns = (λ _. (refl, refl));
      makes = (λ _. (refl, refl));
      had = ([], refl);
      had_own = (λ _ l. absurd (off l));
      stands = (λ _. record { near = omega arith; from = refl; len = sym long; at = eq });
      extent = (λ _. (refl, sym flat_long));
      plan = (λ _ c. absurd (off c));
    }
    each (suc by) v e = absurd (some-ne-none v (sym e))
