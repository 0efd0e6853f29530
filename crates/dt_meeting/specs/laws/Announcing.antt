-- Where a seat's writes are in order, a published `go` is announced, and stays so.
use Rattle.std.proofs.Common.{◌==◌, cond, ◌≡◌, ◌≢◌, ◌<◌, ℕ, zero, suc, Bool, List, [], ◌∷◌, ◌++◌, length, refl, sym, ap, ◌∙◌, subst, ⊎_elim, arith, append_assoc}
use Rattle.std.specs.Prelude.{Contains, slice_index_or}
use Rattle.std.proofs.lemmas.Bool.{eq-eqb}
use Rattle.std.proofs.lemmas.List.Elements.{Contains-append_left, Contains-append_right, filter-append}
use mathlib.Core.List.{IsPrefix}
use Rattle.dt_chain.specs.Writes.{Write, published, seat_of, writes_of}
use Rattle.dt_cred.specs.declared.account.Account.{Account}
use Rattle.dt_ecb.specs.Ecbs.{EcbForm, of_probe}
use Rattle.dt_legal.specs.Rows.{AreOfEcbs, IsLegalRow, life_of_row}
use Rattle.dt_life.specs.Life.{ecbs}
use Rattle.dt_machine.specs.Registry.{Contents}
use Rattle.dt_meeting.specs.Keeping.{GoIsPublished}
use Rattle.dt_meeting.specs.Order.{IsInOrder}
use Rattle.dt_meeting.specs.Stages.{Stage, named, past, never, stage}
use Rattle.dt_meeting.specs.Tracking.{GoIsAnnounced, IsAnnounced}
use Rattle.dt_meeting.specs.laws.Lasting.{ecbs_since}
use Rattle.dt_meeting.specs.laws.Staging.{IsBegun, named_by_last, stage_begun, stage_past}
use Rattle.dt_trail.specs.Items.{StartsWith, TrailItem, fired, whose}
use Rattle.dt_trail.specs.laws.Starts.{starts_trans}

-- a list is split at an element of it
split_at : (writes : List Write) (write : Write) (k : ℕ) → k < length writes → slice_index_or writes k write ≡ write
    → (before : List Write) × (after : List Write) × (writes ≡ before ++ write ∷ after)
split_at [] write k less e = absurd (omega (arith, less))
split_at (x ∷ writes) write zero less e = ([], writes, ap (λ (w : Write). w ∷ writes) e)
split_at (x ∷ writes) write (suc k) less e =
    let rest = split_at writes write k (omega (arith, less)) e in
    (x ∷ rest.0, rest.1, ap (λ (l : List Write). x ∷ l) rest.2)

module _ (account : Account) (contents : Contents) where
  -- a life that was named with exactly the probes of its ECBs is named so afterwards, or past
  exact_on : (life : ℕ) (shorter longer writes : List Write) (trail before : List TrailItem) (probes : List Bool)
      → IsPrefix shorter longer → IsPrefix longer writes → IsInOrder account contents life writes trail
      → ecbs account contents.registry (life_of_row account contents trail) ≡ ecbs account contents.registry (life_of_row account contents before)
      → stage life shorter ≡ named probes → AreOfEcbs account contents before probes
      → IsAnnounced account contents before (stage life longer)
  exact_on life shorter longer writes trail before probes s l h same is exact = by_case (stage life longer) refl
    where
      by_case : (at : Stage) → stage life longer ≡ at → IsAnnounced account contents before (stage life longer)
      by_case never e =
          absurd (subst IsBegun e (stage_begun life shorter longer s (subst IsBegun (sym is) tt)))
      by_case past e = subst (IsAnnounced account contents before) (sym e) tt
      by_case (named more) e = subst (IsAnnounced account contents before) (sym e) (λ id. (
        λ n. subst (λ (es : List EcbForm). of_probe id es ≢ []) same (h.enabled longer more l e id n),
        λ some. h.growing shorter longer probes more s l is e id ((exact id).1 some),
      ))

  -- a `go` that is announced stays so, as more writes are known
  pub announced_on : (life : ℕ) (seen more writes : List Write) (known trail : List TrailItem) → IsPrefix seen more → IsPrefix more writes
      → StartsWith trail known → IsLegalRow account contents trail → IsInOrder account contents life writes trail
      → GoIsAnnounced account contents known (stage life seen) → GoIsAnnounced account contents known (stage life more)
  announced_on life seen more writes known trail s m begins legal h announced before item starts mine go =
      by_case (stage life seen) refl (announced before item starts mine go)
    where
      same : ecbs account contents.registry (life_of_row account contents trail) ≡ ecbs account contents.registry (life_of_row account contents before)
      same = ecbs_since account contents trail before item legal (starts_trans trail known (before ++ item ∷ []) begins starts) mine go

      by_case : (at : Stage) → stage life seen ≡ at → IsAnnounced account contents before (stage life seen)
          → IsAnnounced account contents before (stage life more)
      by_case never e told = absurd (subst (IsAnnounced account contents before) e told)
      by_case past e told = subst (IsAnnounced account contents before) (sym (stage_past life seen more s e)) tt
      by_case (named probes) e told =
          exact_on life seen more writes trail before probes s m h same e (subst (IsAnnounced account contents before) e told)

  -- a `go` that is published is announced
  pub published_is_announced : (seat life : ℕ) (seen writes : List Write) (known trail : List TrailItem) → IsPrefix seen writes
      → StartsWith trail known → IsLegalRow account contents trail → IsInOrder account contents life writes trail
      → GoIsPublished account contents seat life known seen → GoIsAnnounced account contents known (stage life seen)
  published_is_announced seat life seen writes known trail begins knows legal h told before item starts mine go =
      ⊎_elim
      (λ (t : stage life front ≡ named there.0).
      exact_on life front seen writes trail before there.0 first begins h
      (ecbs_since account contents trail before item legal (starts_trans trail known (before ++ item ∷ []) knows starts) mine go)
      t there.2)
      (λ (t : (stage life split.0 ≡ past) × (stage life front ≡ past)).
      subst (IsAnnounced account contents before) (sym (stage_past life front seen first t.1)) tt)
      (named_by_last life split.0 seat account there.0)
    where
      there : (probes : List Bool) × Contains seen (published seat life account probes) × AreOfEcbs account contents before probes
      there = told before item starts mine go

      write : Write
      write = published seat life account there.0

      split : (front : List Write) × (after : List Write) × (seen ≡ front ++ write ∷ after)
      split = split_at seen write there.1.0 there.1.1 there.1.2

      front : List Write
      front = split.0 ++ write ∷ []

      first : IsPrefix front seen
      first = (split.1, append_assoc split.0 (write ∷ []) split.1 ∙ sym split.2)

  -- a `go` that is published is so in longer lists, and in the seat's own writes
  pub published_longer : (seat life : ℕ) (row : List TrailItem) (writes more : List Write) → IsPrefix writes more
      → GoIsPublished account contents seat life row writes → GoIsPublished account contents seat life row more
  published_longer seat life row writes more begins told before item starts mine go =
      let there = told before item starts mine go in
      let write = published seat life account there.0 in
      (there.0, subst (λ (l : List Write). Contains l write) begins.1 (Contains-append_left writes begins.0 write there.1), there.2)

  pub published_among_own : (seat life : ℕ) (row : List TrailItem) (writes : List Write)
      → GoIsPublished account contents seat life row writes → GoIsPublished account contents seat life row (writes_of writes seat)
  published_among_own seat life row writes told before item starts mine go =
      let there = told before item starts mine go in
      let write = published seat life account there.0 in
      let split = split_at writes write there.1.0 there.1.1 there.1.2 in
      let its = λ (w : Write). seat_of w == seat in
      let own : writes_of writes seat ≡ writes_of split.0 seat ++ write ∷ writes_of split.1 seat =
      ap (λ (l : List Write). writes_of l seat) split.2 ∙ filter-append its split.0 (write ∷ split.1)
      ∙ ap (λ (b : Bool). writes_of split.0 seat ++ cond b (write ∷ writes_of split.1 seat) (writes_of split.1 seat)) (eq-eqb seat seat refl) in (
        there.0,
        subst (λ (l : List Write). Contains l write) (sym own)
            (Contains-append_right (writes_of split.0 seat) (write ∷ writes_of split.1 seat) write (0, omega arith, refl)),
        there.2,
      )

  -- a firing after the `go` leaves it announced
  pub announced_fired : (known : List TrailItem) (at : Stage) (cpu place : ℕ) → GoIsAnnounced account contents known at
      → GoIsAnnounced account contents (known ++ fired cpu place ∷ []) at
  announced_fired known at cpu place told before item starts mine go =
      told before item (front known before item starts.0 mine starts.1) mine go
    where
      front : (row before : List TrailItem) (item : TrailItem) (rest : List TrailItem) → whose item ≡ 0
          → row ++ fired cpu place ∷ [] ≡ (before ++ item ∷ []) ++ rest → StartsWith row (before ++ item ∷ [])
      front [] [] item rest mine e =
          let e1 : fired cpu place ∷ [] ≡ item ∷ rest = e in
          let e2 : fired cpu place ≡ item = cc e1 in
          absurd (omega (arith, ap whose e2, mine))
      front [] (y ∷ before) item rest mine e =
          let e1 : fired cpu place ∷ [] ≡ y ∷ ((before ++ item ∷ []) ++ rest) = e in
          absurd (no before (cc e1))
        where
          no : (ys : List TrailItem) → [] ≡ (ys ++ item ∷ []) ++ rest → ⊥
          no [] e = let bad : [] ≡ item ∷ rest = e in cc bad
          no (z ∷ ys) e = let bad : [] ≡ z ∷ ((ys ++ item ∷ []) ++ rest) = e in cc bad
      front (x ∷ row) [] item rest mine e = (row, let e1 : x ∷ (row ++ fired cpu place ∷ []) ≡ item ∷ rest = e in let head : x ≡ item = cc e1 in ap (λ (i : TrailItem). i ∷ row) head)
      front (x ∷ row) (y ∷ before) item rest mine e =
          let e1 : x ∷ (row ++ fired cpu place ∷ []) ≡ y ∷ ((before ++ item ∷ []) ++ rest) = e in
          let head : x ≡ y = cc e1 in
          let tail = front row before item rest mine (cc e1) in
          (tail.0, cc (head, tail.1))
