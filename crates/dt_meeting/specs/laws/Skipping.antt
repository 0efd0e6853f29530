-- In a shared row no firing that should have been seen is skipped.
use Rattle.std.proofs.Common.{◌≡◌, ◌≢◌, ◌≤◌, ◌+◌, ℕ, Bool, true, false, cond, List, [], ◌∷◌, ◌++◌, Some, length, refl, sym, ap, ◌∙◌, subst, arith, append_assoc}
use Rattle.std.proofs.lemmas.List.{length-append}
use Rattle.std.specs.Prelude.{slice_get}
use Rattle.dt_cred.specs.declared.account.Account.{Account}
use Rattle.dt_cred.specs.declared.firing.Firing.{Firing}
use Rattle.dt_ecb.specs.Ecbs.{of_probe}
use Rattle.dt_legal.specs.Rows.{IsGoAfter, IsLegalRow, life_of_row}
use Rattle.dt_legal.specs.laws.Beginning.{legal_beginning}
use Rattle.dt_life.specs.Life.{ecbs, is_inactive, phase}
use Rattle.dt_life.specs.Sees.{Sees}
use Rattle.dt_life.specs.declared.phase.Phase.{Phase}
use Rattle.dt_life.specs.declared.phase.Phase.TheVariants.{Inactive, Active, Stopped}
use Rattle.dt_machine.specs.Shown.{IsShown}
use Rattle.dt_machine.specs.Registry.{Belongs, Contents, firing_at}
use Rattle.dt_meeting.specs.Sharing.{IsShared, StandsAfter, is_seen_after, seen_row}
use Rattle.dt_meeting.specs.laws.Lasting.{Lasts, go_begins, lasting}
use Rattle.dt_meeting.specs.laws.Seen.{seen_after_to, seen_last, seen_starts}
use Rattle.dt_trail.specs.Items.{StartsWith, TrailItem, fired, whose}

pub none_skipped : (account : Account) (contents : Contents) (cpu : ℕ) (trail : List TrailItem) (knew : List ℕ) (row : List TrailItem) (place count : ℕ)
    → IsShared account contents cpu trail knew row → slice_get knew place ≡ Some count
    → (before : List TrailItem) × (after : List TrailItem) × (row ≡ before ++ fired cpu place ∷ after)
    × StartsWith trail (seen_row account contents before) × (count ≤ length (seen_row account contents before))
    × (is_seen_after account contents (seen_row account contents before) cpu place ≡ true
    → StartsWith trail (seen_row account contents before ++ fired cpu place ∷ []))
none_skipped account contents cpu trail knew row place count h e = (
  before,
  after,
  stands.2,
  subst (λ (l : List TrailItem). StartsWith l (seen_row account contents before)) is (seen_starts account contents before (fired cpu place ∷ after)),
  stands.3,
  λ seen. subst (λ (l : List TrailItem). StartsWith l (seen_row account contents before ++ fired cpu place ∷ [])) is
      (subst (λ (l : List TrailItem). StartsWith (seen_row account contents (before ++ fired cpu place ∷ after)) l) (here seen)
      (subst (λ (l : List TrailItem). StartsWith (seen_row account contents l) (seen_row account contents (before ++ fired cpu place ∷ [])))
      (append_assoc before (fired cpu place ∷ []) after)
      (seen_starts account contents (before ++ fired cpu place ∷ []) after))),
)
  where
    stands : StandsAfter account contents cpu row place count
    stands = h.after place count e

    before : List TrailItem
    before = stands.0

    after : List TrailItem
    after = stands.1

    is : seen_row account contents (before ++ fired cpu place ∷ after) ≡ trail
    is = ap (seen_row account contents) (sym stands.2) ∙ h.seen

    here : is_seen_after account contents (seen_row account contents before) cpu place ≡ true
        → seen_row account contents (before ++ fired cpu place ∷ []) ≡ seen_row account contents before ++ fired cpu place ∷ []
    here seen =
        seen_last account contents before (fired cpu place)
        ∙ ap (λ (b : Bool). cond b (seen_row account contents before ++ fired cpu place ∷ []) (seen_row account contents before)) seen

-- Of two beginnings of a list the shorter begins the longer.
shorter : (xs ys : List TrailItem) (all : List TrailItem) → StartsWith all xs → StartsWith all ys → length xs ≤ length ys → StartsWith ys xs
shorter [] ys all a b le = (ys, refl)
shorter (x ∷ xs) [] all a b le = absurd (omega (arith, le))
shorter (x ∷ xs) (y ∷ ys) [] a b le = absurd (cc a.1)
shorter (x ∷ xs) (y ∷ ys) (z ∷ all) a b le =
    let heads : y ≡ x = cc (a.1, b.1) in
    let rest = shorter xs ys all (a.0, cc a.1) (b.0, cc b.1) (omega (arith, le)) in
    (rest.0, cc (heads, rest.1))

module _ (account : Account) (contents : Contents) where
  -- A processor that knew of the `go` of a session skips no firing that the session, which still traces, should see.
  pub told_skips_none : (cpu : ℕ) (trail : List TrailItem) (knew : List ℕ) (row : List TrailItem) (place count : ℕ) (earlier : List TrailItem)
      (item : TrailItem) (firing : Firing) → IsShared account contents cpu trail knew row → IsLegalRow account contents trail
      → phase account contents.registry (life_of_row account contents trail) ≡ Active
      → StartsWith trail (earlier ++ item ∷ []) → whose item ≡ 0 → IsGoAfter account contents earlier item
      → slice_get knew place ≡ Some count → length earlier + 1 ≤ count
      → firing_at contents.scripts cpu place ≡ Some firing → Belongs contents.registry firing → IsShown account contents.registry firing
      → of_probe firing.probe (ecbs account contents.registry (life_of_row account contents trail)) ≢ []
      → (before : List TrailItem) × StartsWith trail (before ++ fired cpu place ∷ [])
  told_skips_none cpu trail knew row place count earlier item firing h legal active begins mine go e known found belongs shown named = (
    there,
    skipped.5 (seen_after_to account contents there cpu place firing found sees),
  )
    where
      skipped : (before : List TrailItem) × (after : List TrailItem) × (row ≡ before ++ fired cpu place ∷ after)
          × StartsWith trail (seen_row account contents before) × (count ≤ length (seen_row account contents before))
          × (is_seen_after account contents (seen_row account contents before) cpu place ≡ true
          → StartsWith trail (seen_row account contents before ++ fired cpu place ∷ []))
      skipped = none_skipped account contents cpu trail knew row place count h e

      there : List TrailItem
      there = seen_row account contents skipped.0

      whole : trail ≡ there ++ skipped.3.0
      whole = skipped.3.1

      gone : StartsWith there (earlier ++ item ∷ [])
      gone = shorter (earlier ++ item ∷ []) there trail begins skipped.3
          (let long = length-append earlier (item ∷ []) in let far = skipped.4 in omega (arith, long, far, known))

      legal_there : IsLegalRow account contents there
      legal_there = legal_beginning account contents there skipped.3.0 (subst (IsLegalRow account contents) whole legal)

      begun : is_inactive (phase account contents.registry (life_of_row account contents there)) ≡ false
      begun = subst (λ (l : List TrailItem). is_inactive (phase account contents.registry (life_of_row account contents l)) ≡ false) (sym gone.1)
          (lasting account contents (earlier ++ item ∷ []) gone.0 (subst (IsLegalRow account contents) gone.1 legal_there)
          (go_begins account contents earlier item mine go)).begun

      lasts : Lasts account contents there trail
      lasts = subst (Lasts account contents there) (sym whole)
          (lasting account contents there skipped.3.0 (subst (IsLegalRow account contents) whole legal) begun)

      on : (p : Phase) → phase account contents.registry (life_of_row account contents there) ≡ p
          → phase account contents.registry (life_of_row account contents there) ≡ Active
      on Inactive e = absurd (let bad : true ≡ false = sym (ap is_inactive e) ∙ begun in cc bad)
      on Active e = e
      on (Stopped cause) e = absurd (let bad : Active ≡ Stopped cause = sym active ∙ lasts.stopped cause e in cc bad)

      sees : Sees account contents.registry (life_of_row account contents there) firing
      sees = record {
        active = on (phase account contents.registry (life_of_row account contents there)) refl;
        belongs = belongs;
        named = λ none. named (ap (of_probe firing.probe) lasts.same ∙ none);
        admitted = shown;
      }
