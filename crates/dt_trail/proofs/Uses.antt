-- The steps at views that are known.
use Rattle.std.proofs.Common.{◌≡◌, ◌≢◌, ℕ, suc, ◌+◌, ◌-◌, ◌<◌, ◌≤◌, List, [], ◌∷◌, ◌++◌, length, true, false, sym, ap, ◌∙◌, subst, arith, ne_eqb}
use Rattle.std.specs.Prelude.{Option, Some, MatchBool}
use denote.RawPtr.{Ptr, InBlock}
use Rattle.atomic_blocks.specs.Cells.{Cell, Step, me, step, row_at, cell_in, Allows, AllowsLink, Splits, Joins}
use Rattle.dt_trail.specs.declared.rule.About.{About}
use Rattle.dt_trail.specs.declared.door.Door.{Door}
use Rattle.dt_trail.specs.declared.rule.Extent.{Extent}
use Rattle.dt_trail.specs.declared.rule.TrailView.{TrailView}
use Rattle.dt_trail.specs.Items.{TrailItem, whose, code, IsReal, own, StartsWith}
use Rattle.dt_trail.specs.Insides.{IsDoor}
use Rattle.dt_trail.specs.Rule.{NoSlot, Kept, Turn, note, appender, owner, maker, nobody, extent_of, with_right, without_right, right_of, maker_after, made, row_ended, IsSet, HasCompared, TurnReads, HasLearnt, IsLast, IsTurned, IsSeen, IsBack, IsFoundAgain, IsPeeked, IsPlanned, IsLaid, reviewed, through, door_at, claim, claim_of, informed}
use Rattle.dt_trail.proofs.Steps as steps
use Rattle.dt_trail.proofs.Grows as grows
use Rattle.dt_trail.proofs.Widens as widens
use Rattle.dt_trail.proofs.Seats as seats
use Rattle.dt_trail.specs.Limits.{block_bound, cells_bound, widenings}

module _ {K : Type 0} (lawful : K → List TrailItem → Type 0) (key about : About K) (keyed : key ≡ about) where
  abbrev H : Rattle.atomic_blocks.specs.Cells.State NoSlot (TrailView K) → Type 0
  H = Kept lawful key.root.ptr key.account

  abbrev root_is : key.root.ptr ≡ about.root.ptr
  root_is = ap (λ (k : About K). k.root.ptr) keyed

  pub reads_as : (id : ℕ) (m : Turn K) (d : Door) (count : ℕ) → m.view.door ≡ d → IsDoor d → count ≡ length m.view.knows → d.from ≤ count → count < d.from + d.len
      → Allows H id m (d.block + 1) d.link.ptr (count - d.from) (λ n. n) (TurnReads lawful (step (d.block + 1) d.link.ptr (count - d.from) 0 0) m)
  reads_as id m d count e is at low high = subst (λ (z : Door). IsDoor z → z.from ≤ count → count < z.from + z.len
      → Allows H id m (z.block + 1) z.link.ptr (count - z.from) (λ n. n) (TurnReads lawful (step (z.block + 1) z.link.ptr (count - z.from) 0 0) m)) e
      (λ i l h. subst (λ (b : ℕ). Allows H id m b m.view.door.link.ptr (count - m.view.door.from) (λ n. n) (TurnReads lawful (step b m.view.door.link.ptr (count - m.view.door.from) 0 0) m)) (let o : suc m.view.door.block ≡ m.view.door.block + 1 = omega arith in o)
      (steps.reads lawful key.root.ptr key.account id m (count - m.view.door.from) i.some (let x = at in omega arith) (omega arith))) is low high

  pub turns_as : (id : ℕ) (m : Turn K) (d : Door) → m.view.door ≡ d → IsDoor d → Allows H id m 0 about.root.ptr (d.block + 1) (λ n. n) (IsTurned lawful (step 0 about.root.ptr (d.block + 1) 0 0) m)
  turns_as id m d e is = subst (λ (p : Ptr). Allows H id m 0 p (d.block + 1) (λ n. n) (IsTurned lawful (step 0 p (d.block + 1) 0 0) m)) root_is
      (steps.turns lawful key.root.ptr key.account id m (d.block + 1) (subst (λ (z : Door). 0 < z.len) (sym e) is.some) (let o : d.block + 1 ≡ suc d.block = omega arith in o ∙ ap (λ (z : Door). suc z.block) (sym e)) (let n = is.near in omega arith))

  pub goes_back_as : (id : ℕ) (m : Turn K) → Allows H id m 0 about.root.ptr 0 (λ n. n) (IsBack (step 0 about.root.ptr 0 0 0) m)
  goes_back_as id m = subst (λ (p : Ptr). Allows H id m 0 p 0 (λ n. n) (IsBack (step 0 p 0 0 0) m)) root_is (steps.goes_back lawful key.root.ptr key.account id m)

  pub reads_again_as : (id : ℕ) (m : Turn K) (d : Door) (k : ℕ) → m.view.door ≡ d → IsDoor d → d.from ≤ k → k < d.from + d.len → k < length m.view.knows
      → Allows H id m (d.block + 1) d.link.ptr (k - d.from) (λ n. n) (IsFoundAgain (step (d.block + 1) d.link.ptr (k - d.from) 0 0) m)
  reads_again_as id m d k e is low high known = subst (λ (z : Door). IsDoor z → z.from ≤ k → k < z.from + z.len
      → Allows H id m (z.block + 1) z.link.ptr (k - z.from) (λ n. n) (IsFoundAgain (step (z.block + 1) z.link.ptr (k - z.from) 0 0) m)) e
      (λ i l h. subst (λ (b : ℕ). Allows H id m b m.view.door.link.ptr (k - m.view.door.from) (λ n. n) (IsFoundAgain (step b m.view.door.link.ptr (k - m.view.door.from) 0 0) m)) (let o : suc m.view.door.block ≡ m.view.door.block + 1 = omega arith in o)
      (steps.reads_again lawful key.root.ptr key.account id m (k - m.view.door.from) i.some (let x = known in omega arith) (omega arith))) is low high

  pub peeks_as : (id : ℕ) (m : Turn K) (d : Door) (i : ℕ) → m.view.door ≡ d → IsDoor d → i < d.len
      → Allows H id m (d.block + 1) d.link.ptr i (λ n. n) (IsPeeked (step (d.block + 1) d.link.ptr i 0 0) m)
  peeks_as id m d i e is near = subst (λ (z : Door). IsDoor z → i < z.len
      → Allows H id m (z.block + 1) z.link.ptr i (λ n. n) (IsPeeked (step (z.block + 1) z.link.ptr i 0 0) m)) e
      (λ w h. subst (λ (b : ℕ). Allows H id m b m.view.door.link.ptr i (λ n. n) (IsPeeked (step b m.view.door.link.ptr i 0 0) m)) (let o : suc m.view.door.block ≡ m.view.door.block + 1 = omega arith in o)
      (steps.peeks lawful key.root.ptr key.account id m i w.some h)) is near

  pub sees_as : (id : ℕ) (m : Turn K) (i : ℕ) → 0 < m.view.door.len → i ≡ m.view.door.block → i < widenings + 1 → AllowsLink H id m 0 about.root.ptr i (λ q. q) (IsSeen 0 i m)
  sees_as id m i pos ei near = subst (λ (p : Ptr). AllowsLink H id m 0 p i (λ q. q) (IsSeen 0 i m)) root_is (steps.sees lawful key.root.ptr key.account id m i pos ei (omega arith))

  pub lends_as : (id : ℕ) (v : TrailView K) (other : ℕ) (w : TrailView K) → v ≡ note v.account v.note v.knows v.door → w ≡ owner w.account w.knows w.door w.extent → w.account ≡ v.account
      → Joins H 0 about.root.ptr id v other w (with_right v w) nobody
  lends_as id v other w ev ew same = subst (λ (p : Ptr × (TrailView K × TrailView K)). Joins H 0 p.0 id p.1.0 other p.1.1 (with_right p.1.0 p.1.1) nobody) (λ i. (root_is i, (sym ev i, sym (ew ∙ ap (λ (a : Option K). owner a w.knows w.door w.extent) same) i)))
      (seats.lends lawful key.root.ptr key.account id v.account v.note v.knows v.door other w.knows w.door w.extent)

  pub sets_as : (id : ℕ) (m : Turn K) (a : Option K) (n : ℕ) (had ks : List TrailItem) (d : Door) (t : Extent) (count : ℕ) (x : TrailItem) (word : ℕ) → word ≡ code x → m.view ≡ appender a n had ks d t → IsDoor d → count ≡ length ks → d.from ≤ count → count < d.from + d.len
      → whose x ≡ n → IsReal x → (StartsWith ks had → own n ks ≡ own n had → lawful key.account (ks ++ x ∷ []))
      → Allows H id m (d.block + 1) d.link.ptr (count - d.from) (λ _. word) (λ _. IsSet x (step (d.block + 1) d.link.ptr (count - d.from) word 0) m word)
  sets_as id m a n had ks d t count x word ew e is at low high mine real ok = subst (λ (w : ℕ). Allows H id m (d.block + 1) d.link.ptr (count - d.from) (λ _. w) (λ _. IsSet x (step (d.block + 1) d.link.ptr (count - d.from) w 0) m w)) (sym ew)
      (subst (λ (u : TrailView K). Allows H id (me u m.hand m.spare) (d.block + 1) d.link.ptr (count - d.from) (λ _. code x) (λ _. IsSet x (step (d.block + 1) d.link.ptr (count - d.from) (code x) 0) (me u m.hand m.spare) (code x))) (sym e)
      (subst (λ (b : ℕ). Allows H id (me (appender a n had ks d t) m.hand m.spare) b d.link.ptr (count - d.from) (λ _. code x) (λ _. IsSet x (step b d.link.ptr (count - d.from) (code x) 0) (me (appender a n had ks d t) m.hand m.spare) (code x)))
      (let o : suc d.block ≡ d.block + 1 = omega arith in o) (grows.sets lawful key.root.ptr key.account id a n had ks d t m.hand m.spare (count - d.from) x is.some (let y = at in omega arith) (omega arith) mine real ok)))

  pub compares_as : (id : ℕ) (m : Turn K) (a : Option K) (n : ℕ) (had ks : List TrailItem) (d : Door) (t : Extent) → m.view ≡ appender a n had ks d t → Allows H id m 0 about.root.ptr 0 (λ x. x) (HasCompared (step 0 about.root.ptr 0 0 0) m)
  compares_as id m a n had ks d t e = subst (λ (p : Ptr). Allows H id m 0 p 0 (λ x. x) (HasCompared (step 0 p 0 0 0) m)) root_is (steps.compares lawful key.root.ptr key.account id a n had ks d t m e)

  pub returns_right_as : (id : ℕ) (v : TrailView K) (a : Option K) (n : ℕ) (had ks : List TrailItem) (d : Door) (t : Extent) → v ≡ appender a n had ks d t → Splits H 0 about.root.ptr id v (without_right v) (right_of v)
  returns_right_as id v a n had ks d t e = subst (λ (p : Ptr × TrailView K). Splits H 0 p.0 id p.1 (without_right p.1) (right_of p.1)) (λ i. (root_is i, sym e i)) (seats.returns_right lawful key.root.ptr key.account id a n had ks d t)

  pub makes_as : (id : ℕ) (v : TrailView K) (a : Option K) (n : ℕ) (d : Door) (t : Extent) → v ≡ maker a n d t → Splits H 0 about.root.ptr id v (maker_after v) (made v)
  makes_as id v a n d t e = subst (λ (p : Ptr × TrailView K). Splits H 0 p.0 id p.1 (maker_after p.1) (made p.1)) (λ i. (root_is i, sym e i)) (seats.makes lawful key.root.ptr key.account id a n d t)

  pub opens_as : (id : ℕ) (v : TrailView K) (a : Option K) (n : ℕ) (d : Door) (t : Extent) → v ≡ maker a n d t → Splits H 0 about.root.ptr id v (row_ended v) (right_of v)
  opens_as id v a n d t e = subst (λ (p : Ptr × TrailView K). Splits H 0 p.0 id p.1 (row_ended p.1) (right_of p.1)) (λ i. (root_is i, sym e i)) (seats.opens lawful key.root.ptr key.account id a n d t)

  pub plans_as : (id : ℕ) (m : Turn K) (i : ℕ) (q : Ptr) → m.view.owns ≡ true → i ≡ m.view.extent.blocks → i < widenings + 1 → AllowsLink H id m 0 about.root.ptr i (λ _. q) (λ _. IsPlanned 0 i m q)
  plans_as id m i q owns ei few = subst (λ (p : Ptr). AllowsLink H id m 0 p i (λ _. q) (λ _. IsPlanned 0 i m q)) root_is (widens.plans lawful key.root.ptr key.account id m i q owns ei few)

  pub widens_as : (id : ℕ) (blocks total : ℕ) (m : Turn K) (i size : ℕ) (q : Ptr) (cs : List (Cell NoSlot)) → m.view.owns ≡ true → m.view.extent ≡ extent_of blocks total true q → m.spare ≡ Some (row_at q cs)
      → i ≡ blocks → i < widenings + 1 → length cs ≡ size → 0 < size → size < block_bound → InBlock q → ((k : ℕ) → (cell_in cs k).word ≡ 0) → total + size < cells_bound
      → Allows H id m 0 about.root.ptr i (λ _. size) (λ _. IsLaid (step 0 about.root.ptr i size 0) m size)
  widens_as id blocks total m i size q cs owns extent carried ei few long pos small placed empty room =
      subst (λ (p : Ptr). Allows H id m 0 p i (λ _. size) (λ _. IsLaid (step 0 p i size 0) m size)) root_is (widens.widens lawful key.root.ptr key.account id blocks total m i size q cs owns extent carried ei few long pos small placed empty room)

  pub tells_as : (id : ℕ) (v : TrailView K) → Splits H 0 about.root.ptr id v v (claim_of v)
  tells_as id v = subst (λ (p : Ptr). Splits H 0 p id v v (claim_of v)) root_is (seats.tells lawful key.root.ptr key.account id v)

  pub told_as : (id : ℕ) (v : TrailView K) (other : ℕ) (w : TrailView K) → w ≡ claim w.account w.knows w.door → v.owns ≡ false → Joins H 0 about.root.ptr id v other w (informed v w) nobody
  told_as id v other w e not_mine = subst (λ (p : Ptr × TrailView K). Joins H 0 p.0 id v other p.1 (informed v p.1) nobody) (λ i. (root_is i, sym e i)) (seats.told lawful key.root.ptr key.account id v other w.account w.knows w.door not_mine)

  pub learns_as : (id : ℕ) (m : Turn K) → m.view.owns ≡ false → Allows H id m 0 about.root.ptr 0 (λ x. x) (HasLearnt lawful (step 0 about.root.ptr 0 0 0) m)
  learns_as id m not_mine = subst (λ (p : Ptr). Allows H id m 0 p 0 (λ x. x) (HasLearnt lawful (step 0 p 0 0 0) m)) root_is (steps.learns lawful key.root.ptr key.account id m not_mine)

-- what the root told, where there is a block
pub turned : {K : Type 0} (lawful : K → List TrailItem → Type 0) (st : Step) (m : Turn K) (found : ℕ) (n : Turn K) → found ≢ 0 → IsTurned lawful st m found n
    → (p : Ptr) × InBlock p × (found < block_bound) × (m.view.door.from + m.view.door.len + found < cells_bound) × (st.index < widenings + 1) × (n ≡ reviewed m (through m.view (door_at st.index (m.view.door.from + m.view.door.len) found p)))
turned {K = K} lawful st m found n some h = subst (λ b. MatchBool b (IsLast m n)
    ((p : Ptr) × InBlock p × (found < block_bound) × (m.view.door.from + m.view.door.len + found < cells_bound) × (st.index < widenings + 1) × (n ≡ reviewed m (through m.view (door_at st.index (m.view.door.from + m.view.door.len) found p))))) (ne_eqb found 0 some) h.1
