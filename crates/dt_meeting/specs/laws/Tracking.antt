-- What a processor keeps track of, as it fires, is told and meets.
use Rattle.std.proofs.Common.{◌≡◌, ◌≢◌, ◌≤◌, ◌+◌, ℕ, true, false, List, [], ◌∷◌, ◌++◌, Some, length, refl, sym, ap, ◌∙◌, subst, ⊎_elim, inl, inr, arith, append-nil, append_assoc}
use Rattle.std.proofs.lemmas.List.{length-append}
use Rattle.std.specs.List.{AllByRecursion}
use mathlib.Core.List.{IsPrefix}
use Rattle.dt_chain.specs.Writes.{Write}
use Rattle.dt_cred.specs.declared.account.Account.{Account}
use Rattle.dt_cred.specs.declared.firing.Firing.{Firing}
use Rattle.dt_ecb.specs.Ecbs.{of_probe}
use Rattle.dt_legal.specs.Rows.{IsLegalRow, life_of_row}
use Rattle.dt_legal.specs.laws.Starts.{rest_has_none}
use Rattle.dt_life.specs.Life.{ecbs}
use Rattle.dt_life.specs.Sees.{Sees}
use Rattle.dt_machine.specs.Registry.{Contents, firing_at}
use Rattle.dt_meeting.specs.Sharing.{IsShared, is_seen_after}
use Rattle.dt_meeting.specs.Stages.{Stage, never, named, past, stage}
use Rattle.dt_meeting.specs.Tracking.{GoIsAnnounced, IsAnnounced, IsPassedBy, Tracks}
use Rattle.dt_meeting.specs.laws.Going.{active_has_gone}
use Rattle.dt_meeting.specs.laws.Seen.{unseen_after_to}
use Rattle.dt_meeting.specs.laws.Sharing.{shared_grows, shared_kept, shared_late, shared_new, shared_unseen}
use Rattle.dt_meeting.specs.laws.Staging.{stage_past}
use Rattle.dt_trail.specs.Items.{StartsWith, TrailItem, fired, own}

at_most_last : (ks : List ℕ) (k n : ℕ) → AllByRecursion (λ count. count ≤ n) ks → k ≤ n → AllByRecursion (λ count. count ≤ n) (ks ++ k ∷ [])
at_most_last [] k n few le = (le, tt)
at_most_last (x ∷ ks) k n few le = (few.0, at_most_last ks k n few.1 le)

pub at_most_still : (ks : List ℕ) (m n : ℕ) → AllByRecursion (λ count. count ≤ m) ks → m ≤ n → AllByRecursion (λ count. count ≤ n) ks
at_most_still [] m n few le = tt
at_most_still (x ∷ ks) m n few le = (omega (arith, few.0, le), at_most_still ks m n few.1 le)

module _ (account : Account) (contents : Contents) where
  -- nothing is known yet
  pub tracks_new : (cpu life : ℕ) (writes : List Write) → Tracks account contents cpu life writes [] []
  tracks_new cpu life writes = record {
    early = [];
    late = [];
    all = refl;
    shared = [];
    is_shared = shared_new account contents cpu;
    few = tt;
    over = inl refl;
    announced = λ before item begins mine go. absurd (not_begun before item begins.0 begins.1);
    legal = tt;
  }
    where
      not_begun : (before : List TrailItem) (item : TrailItem) (rest : List TrailItem) → [] ≡ (before ++ item ∷ []) ++ rest → ⊥
      not_begun [] item rest e = let bad : [] ≡ item ∷ rest = e in cc bad
      not_begun (x ∷ before) item rest e = let bad : [] ≡ x ∷ ((before ++ item ∷ []) ++ rest) = e in cc bad

  -- more writes are known
  pub tracks_writes : (cpu life : ℕ) (writes more : List Write) (known : List TrailItem) (knew : List ℕ) → IsPrefix writes more
      → GoIsAnnounced account contents known (stage life more) → Tracks account contents cpu life writes known knew
      → Tracks account contents cpu life more known knew
  tracks_writes cpu life writes more known knew begins announced h = record {
    early = h.early;
    late = h.late;
    all = h.all;
    shared = h.shared;
    is_shared = h.is_shared;
    few = h.few;
    over = ⊎_elim (λ (e : h.late ≡ []). inl e) (λ (e : stage life writes ≡ past). inr (stage_past life writes more begins e)) h.over;
    announced = announced;
    legal = h.legal;
  }

  -- a firing that these writes don't offer to the life isn't seen after what is known, unless the life is past
  passed_unseen : (known : List TrailItem) (at : Stage) (cpu place : ℕ) → IsLegalRow account contents known
      → GoIsAnnounced account contents known at → IsPassedBy account contents cpu place at → at ≢ past
      → is_seen_after account contents known cpu place ≡ false
  passed_unseen known at cpu place legal announced passed still =
      unseen_after_to account contents known cpu place (λ firing found sees.
      let gone = active_has_gone account contents known legal sees.active in
      let told = announced gone.before gone.item gone.begins gone.mine gone.go in
      by_stage at refl firing found sees gone.before gone.same (subst (λ (s : Stage). IsAnnounced account contents gone.before s) refl told))
    where
      by_stage : (s : Stage) → at ≡ s → (firing : Firing) → firing_at contents.scripts cpu place ≡ Some firing
          → Sees account contents.registry (life_of_row account contents known) firing → (before : List TrailItem)
          → ecbs account contents.registry (life_of_row account contents known) ≡ ecbs account contents.registry (life_of_row account contents before)
          → IsAnnounced account contents before at → ⊥
      by_stage never e firing found sees before same told = subst (IsAnnounced account contents before) e told
      by_stage past e firing found sees before same told = still e
      by_stage (named probes) e firing found sees before same told =
          let exact = subst (IsAnnounced account contents before) e told in
          let names = (exact firing.probe).1 (λ none. sees.named (ap (of_probe firing.probe) same ∙ none)) in
          (subst (IsPassedBy account contents cpu place) e passed) firing found sees.belongs names sees.admitted

  -- a life that isn't past has no late firing
  all_early : (cpu life : ℕ) (writes : List Write) (known : List TrailItem) (knew : List ℕ) (h : Tracks account contents cpu life writes known knew)
      → stage life writes ≢ past → knew ≡ h.early
  all_early cpu life writes known knew h still =
      let none : h.late ≡ [] = ⊎_elim (λ (n : h.late ≡ []). n) (λ (p : stage life writes ≡ past). absurd (still p)) h.over in
      h.all ∙ ap (λ (l : List ℕ). h.early ++ l) none ∙ append-nil h.early

  -- the processor fires, and its writes don't offer the firing to the life
  pub tracks_passed : (cpu life : ℕ) (writes : List Write) (known : List TrailItem) (knew : List ℕ)
      → IsPassedBy account contents cpu (length knew) (stage life writes) → Tracks account contents cpu life writes known knew
      → Tracks account contents cpu life writes known (knew ++ length known ∷ [])
  tracks_passed cpu life writes known knew passed h = by_case (stage life writes) refl
    where
      late_more : stage life writes ≡ past → Tracks account contents cpu life writes known (knew ++ length known ∷ [])
      late_more e = record {
        early = h.early;
        late = h.late ++ length known ∷ [];
        all = ap (λ (l : List ℕ). l ++ length known ∷ []) h.all ∙ append_assoc h.early h.late (length known ∷ []);
        shared = h.shared;
        is_shared = h.is_shared;
        few = at_most_last h.late (length known) (length known) h.few (omega arith);
        over = inr e;
        announced = h.announced;
        legal = h.legal;
      }

      early_more : stage life writes ≢ past → Tracks account contents cpu life writes known (knew ++ length known ∷ [])
      early_more still =
          let all = all_early cpu life writes known knew h still in
          let unseen = passed_unseen known (stage life writes) cpu (length knew) h.legal h.announced passed still in
          record {
            early = h.early ++ length known ∷ [];
            late = [];
            all = ap (λ (l : List ℕ). l ++ length known ∷ []) all ∙ sym (append-nil (h.early ++ length known ∷ []));
            shared = h.shared ++ fired cpu (length h.early) ∷ [];
            is_shared = shared_unseen account contents cpu known h.early h.shared (length known) h.is_shared
                (subst (λ (l : List ℕ). is_seen_after account contents known cpu (length l) ≡ false) all unseen) (omega arith);
            few = tt;
            over = inl refl;
            announced = h.announced;
            legal = h.legal;
          }

      by_case : (s : Stage) → stage life writes ≡ s → Tracks account contents cpu life writes known (knew ++ length known ∷ [])
      by_case never e = early_more (λ p. let bad : never ≡ past = sym e ∙ p in cc bad)
      by_case (named probes) e = early_more (λ p. let bad : named probes ≡ past = sym e ∙ p in cc bad)
      by_case past e = late_more e

  -- the trail has further items, none of them the processor's
  pub grown : (cpu life : ℕ) (writes : List Write) (known trail : List TrailItem) (knew : List ℕ) (h : Tracks account contents cpu life writes known knew)
      → (a : StartsWith trail known) → own (cpu + 1) trail ≡ own (cpu + 1) known → IsLegalRow account contents trail
      → IsShared account contents cpu trail h.early (h.shared ++ a.0)
  grown cpu life writes known trail knew h a same legal =
      subst (λ (l : List TrailItem). IsShared account contents cpu l h.early (h.shared ++ a.0)) (sym a.1)
      (shared_grows account contents cpu known a.0 h.early h.shared h.is_shared (subst (IsLegalRow account contents) a.1 legal)
      (rest_has_none (cpu + 1) trail known a same))

  -- more items are known
  pub tracks_known : (cpu life : ℕ) (writes : List Write) (known trail : List TrailItem) (knew : List ℕ)
      → StartsWith trail known → own (cpu + 1) trail ≡ own (cpu + 1) known → IsLegalRow account contents trail
      → GoIsAnnounced account contents trail (stage life writes) → Tracks account contents cpu life writes known knew
      → Tracks account contents cpu life writes trail knew
  tracks_known cpu life writes known trail knew a same legal announced h = record {
    early = h.early;
    late = h.late;
    all = h.all;
    shared = h.shared ++ a.0;
    is_shared = grown cpu life writes known trail knew h a same legal;
    few = at_most_still h.late (length known) (length trail) h.few (omega (arith, ap length a.1, length-append known a.0));
    over = h.over;
    announced = announced;
    legal = legal;
  }

  -- the firing is offered after this trail, and isn't seen there
  pub tracks_unseen : (cpu life : ℕ) (writes : List Write) (known trail : List TrailItem) (knew : List ℕ) → stage life writes ≢ past
      → StartsWith trail known → own (cpu + 1) trail ≡ own (cpu + 1) known → IsLegalRow account contents trail
      → is_seen_after account contents trail cpu (length knew) ≡ false
      → GoIsAnnounced account contents trail (stage life writes) → Tracks account contents cpu life writes known knew
      → Tracks account contents cpu life writes trail (knew ++ length known ∷ [])
  tracks_unseen cpu life writes known trail knew still a same legal unseen announced h =
      let all = all_early cpu life writes known knew h still in
      let few : length known ≤ length trail = omega (arith, ap length a.1, length-append known a.0) in
      record {
        early = h.early ++ length known ∷ [];
        late = [];
        all = ap (λ (l : List ℕ). l ++ length known ∷ []) all ∙ sym (append-nil (h.early ++ length known ∷ []));
        shared = (h.shared ++ a.0) ++ fired cpu (length h.early) ∷ [];
        is_shared = shared_unseen account contents cpu trail h.early (h.shared ++ a.0) (length known)
            (grown cpu life writes known trail knew h a same legal)
            (subst (λ (l : List ℕ). is_seen_after account contents trail cpu (length l) ≡ false) all unseen) few;
        few = tt;
        over = inl refl;
        announced = announced;
        legal = legal;
      }

  -- the firing is offered after this trail, and kept
  pub tracks_kept : (cpu life : ℕ) (writes : List Write) (known trail : List TrailItem) (knew : List ℕ) → stage life writes ≢ past
      → StartsWith trail known → own (cpu + 1) trail ≡ own (cpu + 1) known → IsLegalRow account contents trail
      → is_seen_after account contents trail cpu (length knew) ≡ true
      → IsLegalRow account contents (trail ++ fired cpu (length knew) ∷ [])
      → GoIsAnnounced account contents (trail ++ fired cpu (length knew) ∷ []) (stage life writes)
      → Tracks account contents cpu life writes known knew
      → Tracks account contents cpu life writes (trail ++ fired cpu (length knew) ∷ []) (knew ++ length known ∷ [])
  tracks_kept cpu life writes known trail knew still a same legal seen longer announced h =
      let all = all_early cpu life writes known knew h still in
      let few : length known ≤ length trail = omega (arith, ap length a.1, length-append known a.0) in
      let s = shared_kept account contents cpu trail h.early (h.shared ++ a.0) (length known)
      (grown cpu life writes known trail knew h a same legal)
      (subst (λ (l : List ℕ). is_seen_after account contents trail cpu (length l) ≡ true) all seen) few in
      record {
        early = h.early ++ length known ∷ [];
        late = [];
        all = ap (λ (l : List ℕ). l ++ length known ∷ []) all ∙ sym (append-nil (h.early ++ length known ∷ []));
        shared = (h.shared ++ a.0) ++ fired cpu (length h.early) ∷ [];
        is_shared = subst (λ (l : List ℕ). IsShared account contents cpu (trail ++ fired cpu (length l) ∷ []) (h.early ++ length known ∷ [])
            ((h.shared ++ a.0) ++ fired cpu (length h.early) ∷ [])) (sym all) s;
        few = tt;
        over = inl refl;
        announced = announced;
        legal = longer;
      }

  -- Where the life is past and sees nothing any more, or isn't past, all firings stand in one row.
  pub tracks_shared : (cpu life : ℕ) (writes : List Write) (trail : List TrailItem) (knew : List ℕ)
      → (stage life writes ≡ past → (place : ℕ) → is_seen_after account contents trail cpu place ≡ false)
      → Tracks account contents cpu life writes trail knew
      → (row : List TrailItem) × IsShared account contents cpu trail knew row
  tracks_shared cpu life writes trail knew none h =
      ⊎_elim
      (λ (e : h.late ≡ []). (
        h.shared,
        subst (λ (l : List ℕ). IsShared account contents cpu trail l h.shared)
            (sym (h.all ∙ ap (λ (l : List ℕ). h.early ++ l) e ∙ append-nil h.early)) h.is_shared,
      ))
      (λ (e : stage life writes ≡ past).
      let r = shared_late account contents cpu trail h.early h.late h.shared h.is_shared (none e) h.few in
      (r.0, subst (λ (l : List ℕ). IsShared account contents cpu trail l r.0) (sym h.all) r.1))
      h.over
