-- What a processor keeps track of at a seat goes on.
use Rattle.std.proofs.Common.{◌≡◌, ◌≢◌, ◌<◌, ◌≤◌, ◌+◌, ◌⊎◌, ℕ, Bool, true, false, cond, List, [], ◌∷◌, ◌++◌, length, eqb, refl, sym, ap, ◌∙◌, subst, arith, ne_eqb, Option, Some, None, IfSome, inl, inr, ⊎_elim}
use Rattle.std.proofs.lemmas.Bool.Decides.{nat_tests}
use Rattle.std.specs.Option.{option_map_or}
use mathlib.Core.List.{IsPrefix}
use Rattle.dt_chain.specs.Chains.{IsMaskAfter}
use Rattle.dt_chain.specs.Seats.{life_at}
use Rattle.dt_chain.specs.Writes.{Write, writes_of}
use Rattle.dt_chain.specs.declared.seat_mask.SeatMask.{SeatMask}
use Rattle.dt_cred.specs.declared.account.Account.{Account}
use Rattle.dt_cred.specs.declared.firing.Firing.{Firing}
use Rattle.dt_facts.specs.declared.fact.LastNote.{LastNote}
use Rattle.dt_facts.specs.declared.fact.LifeStep.{LifeStep}
use Rattle.dt_facts.specs.laws.Lives.{over_stays, row_stays}
use Rattle.dt_machine.specs.Registry.{Contents, firing_at}
use Rattle.dt_meeting.specs.Keeping.{KeepsTrack}
use Rattle.dt_meeting.specs.laws.Keeping.{keeps_looked, keeps_new, keeps_writes}
use Rattle.dt_publisher.specs.laws.OwnWrites.{own_begin}
use Rattle.dt_seat.specs.Keeps.{Followed, IsEarlier, followed_at, known_by, known_in, known_of, noted_of, over_of, told_in}
use Rattle.dt_seat.specs.Tracked.{AreTracked, IsAllowed, IsToldLater, IsTracked, count_of, counts_with, known_life}
use Rattle.dt_seat.specs.declared.told_of.ToldOf.{ToldOf}
use Rattle.dt_trail.specs.Items.{TrailItem, own}

told_apart : (l : ℕ) (t : ToldOf) → t.life ≢ l → told_in l (Some t) ≡ []
told_apart l t other = ap (λ (b : Bool). cond b t.told.knows []) (ne_eqb t.life l other)

-- of a life that isn't the one that is known of last nothing is known, or it is over
nothing_known : (l over : ℕ) (took : Option LastNote) (knows : List TrailItem) (told : Option ToldOf)
    → IfSome told (λ t. (t.life ≤ over) × IsEarlier t.life took) → option_map_or (λ t. t.life) told (option_map_or (λ last. last.life) took 0) ≢ l
    → (l < over) ⊎ (known_in l took knows told ≡ [])
nothing_known l over None knows None h other = inr refl
nothing_known l over None knows (Some t) h other = inr (told_apart l t other)
nothing_known l over (Some last) knows None h other = inr (ap (λ (b : Bool). cond b knows []) (ne_eqb last.life l other))
nothing_known l over (Some last) knows (Some t) h other = by_test (eqb last.life l) refl
  where
    by_test : (b : Bool) → eqb last.life l ≡ b → (l < over) ⊎ (known_in l (Some last) knows (Some t) ≡ [])
    by_test true is =
        let same : last.life ≡ l = grind (arith, nat_tests, is) in
        inl (omega (arith, same, h.0, h.1))
    by_test false is = inr (ap (λ (b : Bool). cond b knows (told_in l (Some t))) is ∙ told_apart l t other)

-- how many items are counted is how many are known, or the life is over
pub counted : (f : Followed) (l : ℕ) → IsToldLater f → (l < over_of f) ⊎ (count_of f l ≡ length (known_of l f))
counted f l h = by_test (eqb (known_life f) l) refl
  where
    by_test : (b : Bool) → eqb (known_life f) l ≡ b → (l < over_of f) ⊎ (count_of f l ≡ length (known_of l f))
    by_test true is = inr (ap (λ (b : Bool). cond b (length (known_of l f)) 0) is)
    by_test false is =
        let other : known_life f ≢ l = grind (arith, nat_tests, is) in
        ⊎_elim (λ (over : l < over_of f). inl over)
        (λ (none : known_of l f ≡ []). inr (ap (λ (b : Bool). cond b (length (known_of l f)) 0) is ∙ sym (ap length none)))
        (nothing_known l (over_of f) f.took (known_by f.note) f.told h other)

-- an account that may be a life's could be so before more lives were known
pub allowed_before : (life : ℕ) (account : Account) (lives more : List LifeStep) → IsPrefix lives more → IsAllowed life account more
    → IsAllowed life account lives
allowed_before life account lives more begins h row is = h row (row_stays lives more life row begins is)

module _ (contents : Contents) where
  -- nothing is known yet
  pub tracked_new : (seat cpu : ℕ) (writes : List Write) (knew : ℕ → List ℕ) → ((life : ℕ) → knew life ≡ [])
      → AreTracked contents writes knew (followed_at seat cpu)
  tracked_new seat cpu writes knew none = record {
    orderly = tt;
    each = λ life account allowed. inr (subst (KeepsTrack account contents cpu life (writes_of writes seat) [] []) (sym (none life))
        (keeps_new account contents cpu life (writes_of writes seat) []));
  }

  -- the same counts
  pub tracked_alike : (writes : List Write) (knew other : ℕ → List ℕ) (f : Followed) → ((life : ℕ) → other life ≡ knew life)
      → AreTracked contents writes knew f → AreTracked contents writes other f
  tracked_alike writes knew other f same h = record {
    orderly = h.orderly;
    each = λ life account allowed. subst (IsTracked contents writes f life account) (sym (same life)) (h.each life account allowed);
  }

  pub life_writes : (writes more : List Write) (f : Followed) (life : ℕ) (account : Account) (counts : List ℕ) → IsPrefix writes more
      → IsTracked contents writes f life account counts → IsTracked contents more f life account counts
  life_writes writes more f life account counts begins (inl over) = inl over
  life_writes writes more f life account counts begins (inr h) =
      inr (keeps_writes account contents f.cpu life (writes_of writes f.seat) (writes_of more f.seat) (known_of life f) (own (f.cpu + 1) (noted_of life f))
      counts (own_begin writes more f.seat begins) h)

  -- more writes are known
  pub tracked_writes : (writes more : List Write) (knew : ℕ → List ℕ) (f : Followed) → IsPrefix writes more → AreTracked contents writes knew f
      → AreTracked contents more knew f
  tracked_writes writes more knew f begins h = record {
    orderly = h.orderly;
    each = λ life account allowed. life_writes writes more f life account (knew life) begins (h.each life account allowed);
  }

  -- of this life the same is known
  pub life_moved : (writes : List Write) (old new : Followed) (life : ℕ) (account : Account) (counts : List ℕ)
      → new.seat ≡ old.seat → new.cpu ≡ old.cpu → IsPrefix old.lives new.lives → (life < over_of new) ⊎ (known_of life new ≡ known_of life old)
      → (life < over_of new) ⊎ (own (old.cpu + 1) (noted_of life new) ≡ own (old.cpu + 1) (noted_of life old))
      → IsTracked contents writes old life account counts → IsTracked contents writes new life account counts
  life_moved writes old new life account counts seat cpu begins (inl over) mine h = inl over
  life_moved writes old new life account counts seat cpu begins (inr known) (inl over) h = inl over
  life_moved writes old new life account counts seat cpu begins (inr known) (inr mine) (inl over) =
      let more = over_stays old.lives new.lives begins in inl (omega (arith, over, more))
  life_moved writes old new life account counts seat cpu begins (inr known) (inr mine) (inr h) =
      let at_mine = subst (λ (m : List TrailItem). KeepsTrack account contents old.cpu life (writes_of writes old.seat) (known_of life old) m counts) (sym mine) h in
      let at_known = subst (λ (k : List TrailItem). KeepsTrack account contents old.cpu life (writes_of writes old.seat) k (own (old.cpu + 1) (noted_of life new)) counts)
      (sym known) at_mine in
      let at_cpu = subst (λ (c : ℕ). KeepsTrack account contents c life (writes_of writes old.seat) (known_of life new) (own (c + 1) (noted_of life new)) counts)
      (sym cpu) at_known in
      inr (subst (λ (s : ℕ). KeepsTrack account contents new.cpu life (writes_of writes s) (known_of life new) (own (new.cpu + 1) (noted_of life new)) counts)
      (sym seat) at_cpu)

  module _ (writes : List Write) (firing : Firing) (mask : SeatMask) (place : ℕ) (knew : ℕ → List ℕ) (f : Followed)
      (found : firing_at contents.scripts f.cpu place ≡ Some firing) (look : IsMaskAfter contents.registry writes firing mask)
      (places : (life : ℕ) → length (knew life) ≡ place) (h : AreTracked contents writes knew f) where
    -- the processor fires, and its look doesn't name the life
    pub life_passed : (life : ℕ) (account : Account) → IsAllowed life account f.lives → life_at mask f.seat ≢ Some life
        → IsTracked contents writes f life account (counts_with knew f life)
    life_passed life account allowed unnamed =
        ⊎_elim (λ (over : life < over_of f). inl over)
        (λ (count : count_of f life ≡ length (known_of life f)). by_life count (h.each life account allowed))
        (counted f life h.orderly)
      where
        by_life : count_of f life ≡ length (known_of life f) → IsTracked contents writes f life account (knew life)
            → IsTracked contents writes f life account (counts_with knew f life)
        by_life count (inl over) = inl over
        by_life count (inr keeps) =
            let next : firing_at contents.scripts f.cpu (length (knew life)) ≡ Some firing =
            subst (λ (p : ℕ). firing_at contents.scripts f.cpu p ≡ Some firing) (sym (places life)) found in
            inr (subst (λ (n : ℕ). KeepsTrack account contents f.cpu life (writes_of writes f.seat) (known_of life f) (own (f.cpu + 1) (noted_of life f))
            (knew life ++ n ∷ [])) (sym count)
            (keeps_looked account contents f.cpu f.seat life writes (known_of life f) (own (f.cpu + 1) (noted_of life f)) (knew life) firing mask next look unnamed
            keeps))

    -- it names no life of the seat
    pub tracked_passed : life_at mask f.seat ≡ None → AreTracked contents writes (counts_with knew f) f
    tracked_passed none = record {
      orderly = h.orderly;
      each = λ life account allowed. life_passed life account allowed (λ e. let bad : None ≡ Some life = sym none ∙ e in cc bad);
    }
