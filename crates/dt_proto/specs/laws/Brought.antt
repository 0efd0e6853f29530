-- The trail of a view that a machine can bring agrees.
use Rattle.std.proofs.Common.{◌≡◌, ℕ, ◌≤◌, Bool, true, false, List, [], ◌∷◌, ◌++◌, Some, MatchBool, length, reverse}
use Rattle.std.proofs.Common.{refl, sym, ap, ◌∙◌, subst, ⊎_elim}
use Rattle.std.specs.List.{AllByRecursion}
use Rattle.std.proofs.lemmas.Bool.{le-ltb}
use Rattle.std.proofs.lemmas.List.{reverse-append}
use Rattle.dt_cred.specs.declared.account.Account.{Account}
use Rattle.dt_machine.specs.Registry.{Contents, firing_at}
use Rattle.dt_cred.specs.declared.firing.Firing.{Firing}
use Rattle.dt_life.specs.Answer.{Answer}
use Rattle.dt_life.specs.Acceptance.{after_line}
use Rattle.dt_life.specs.Life.{Item, asked, fired, is_over}
use Rattle.dt_life.specs.Reply.{Replies}
use Rattle.dt_life.specs.Sees.{Sees}
use Rattle.dt_proto.specs.Alone.{Reached, own_line, firing_made, IsLifeOf}
use Rattle.dt_proto.specs.Line.{ask_in}
use Rattle.dt_proto.specs.Lines.{LineForm, short_line, long_line, line_form}
use Rattle.dt_proto.specs.Trail.{WrittenItem, fired_at, IsItemOf, IsLineTold, IsToldFiring, IsTrailOf}
use Rattle.dt_proto.specs.Limits.{line_max}
use Rattle.dt_proto.specs.Legal.{Agrees, IsAbove, life_of_trail}
use Rattle.dt_proto.specs.Brought.{IsBrought, IsInForm, IsLower}

in_form : (bytes : List ℕ) → length bytes ≤ line_max → line_form bytes ≡ short_line bytes
in_form bytes few = rw (le-ltb line_max (length bytes) few) refl

module _ (account : Account) (contents : Contents) where
  abbrev lived : List WrittenItem → List Item
  lived past = life_of_trail account contents past

  -- A past is the trail of a view: it agrees, it tells the view's life, and its firings are of the view.
  record IsTrailed (view : List Reached) (past : List WrittenItem) : Type 0 where
    agrees : Agrees account contents past
    lives : (life : List Item) → IsLifeOf account contents.registry view life → life ≡ lived past
    below : (cpu place : ℕ) → AllByRecursion (IsLower cpu place) view → IsAbove past cpu place

  nothing_trailed : IsTrailed [] []
  nothing_trailed = record { agrees = tt; lives = λ life is. is; below = λ cpu place all. tt }

  -- a line over the quota is no part of the trail
  over_trailed : (view : List Reached) (past : List WrittenItem) (line : LineForm) → IsTrailed view past
      → is_over (lived past) ≡ true → IsTrailed (own_line line ∷ view) past
  over_trailed view past line before over = record {
    agrees = before.agrees;
    lives = λ life is.
        is.2 ∙ ap (λ l. after_line l (ask_in line)) (before.lives is.0 is.1) ∙ rw over refl;
    below = λ cpu place all. before.below cpu place all.1;
  }

  line_trailed : (view : List Reached) (past : List WrittenItem) (line : LineForm) (answer : Answer)
      (item : WrittenItem)
      → IsTrailed view past → IsInForm line → is_over (lived past) ≡ false
      → Replies account contents.registry (lived past) (ask_in line) answer → IsItemOf line answer item
      → IsTrailed (own_line line ∷ view) (item ∷ past)
  line_trailed view past (short_line bytes) answer item before few quota replies is =
      let form : short_line bytes ≡ line_form bytes = sym (in_form bytes few) in
      let due : Replies account contents.registry (lived past) (ask_in (line_form bytes)) answer =
      subst (λ one. Replies account contents.registry (lived past) (ask_in one) answer) form replies in
      subst (λ one. IsTrailed (own_line (short_line bytes) ∷ view) (one ∷ past)) (sym is.1) (record {
        agrees = (before.agrees, quota, (answer, due, is.2));
        lives = λ life of.
            of.2 ∙ ap (λ l. after_line l (ask_in (short_line bytes))) (before.lives of.0 of.1)
            ∙ rw quota (ap (λ one. asked (ask_in one) ∷ lived past) form);
        below = λ cpu place all. (tt, before.below cpu place all.1);
      })
  line_trailed view past long_line answer item before few quota replies is =
      subst (λ one. IsTrailed (own_line long_line ∷ view) (one ∷ past)) (sym is.1) (record {
        agrees = (before.agrees, quota, (answer, replies, is.2));
        lives = λ life of.
            of.2 ∙ ap (λ l. after_line l (ask_in long_line)) (before.lives of.0 of.1) ∙ rw quota refl;
        below = λ cpu place all. (tt, before.below cpu place all.1);
      })

  told_trailed : (view : List Reached) (past : List WrittenItem) (line : LineForm) (new : List WrittenItem) (over : Bool)
      → IsTrailed view past → IsInForm line → is_over (lived past) ≡ over
      → MatchBool over (new ≡ []) ((answer : Answer) × (item : WrittenItem)
      × Replies account contents.registry (lived past) (ask_in line) answer × IsItemOf line answer item
      × (new ≡ item ∷ []))
      → IsTrailed (own_line line ∷ view) (reverse new ++ past)
  told_trailed view past line new true before form is h =
      subst (λ more. IsTrailed (own_line line ∷ view) (reverse more ++ past)) (sym h)
      (over_trailed view past line before is)
  told_trailed view past line new false before form is h =
      subst (λ more. IsTrailed (own_line line ∷ view) (reverse more ++ past)) (sym h.4)
      (line_trailed view past line h.0 h.1 before form is h.2 h.3)

  seen_trailed : (view : List Reached) (past : List WrittenItem) (firing : Firing) → IsTrailed view past
      → firing_at contents.scripts firing.cpu firing.place ≡ Some firing
      → AllByRecursion (IsLower firing.cpu firing.place) view → Sees account contents.registry (lived past) firing
      → IsTrailed (firing_made firing ∷ view) (fired_at firing.cpu firing.place ∷ past)
  seen_trailed view past firing before there low sees = record {
    agrees = (before.agrees, (before.below firing.cpu firing.place low, (firing, there, sees)), tt);
    lives = λ life is.
        let same = before.lives is.0 is.1 in
        ⊎_elim
        (λ seen. seen.1 ∙ ap (λ l. fired firing ∷ l) same ∙ rw there refl)
        (λ unseen. absurd (unseen.0 (subst (λ l. Sees account contents.registry l firing) (sym same) sees)))
        is.2;
    below = λ cpu place all. (all.0, before.below cpu place all.1);
  }

  unseen_trailed : (view : List Reached) (past : List WrittenItem) (firing : Firing) → IsTrailed view past
      → (Sees account contents.registry (lived past) firing → ⊥) → IsTrailed (firing_made firing ∷ view) past
  unseen_trailed view past firing before hidden = record {
    agrees = before.agrees;
    lives = λ life is.
        let same = before.lives is.0 is.1 in
        ⊎_elim
        (λ seen. absurd (hidden (subst (λ l. Sees account contents.registry l firing) same seen.0)))
        (λ unseen. unseen.1 ∙ same)
        is.2;
    below = λ cpu place all. before.below cpu place all.1;
  }

  fired_trailed : (view : List Reached) (past : List WrittenItem) (firing : Firing) (new : List WrittenItem)
      → IsTrailed view past
      → firing_at contents.scripts firing.cpu firing.place ≡ Some firing
      → AllByRecursion (IsLower firing.cpu firing.place) view
      → IsToldFiring account contents.registry (lived past) firing new
      → IsTrailed (firing_made firing ∷ view) (reverse new ++ past)
  fired_trailed view past firing new before there low h =
      ⊎_elim
      (λ seen. subst (λ more. IsTrailed (firing_made firing ∷ view) (reverse more ++ past)) (sym seen.1)
      (seen_trailed view past firing before there low seen.0))
      (λ unseen. subst (λ more. IsTrailed (firing_made firing ∷ view) (reverse more ++ past)) (sym unseen.1)
      (unseen_trailed view past firing before unseen.0))
      h

  trailed : (view : List Reached) (items : List WrittenItem) → IsBrought contents view
      → IsTrailOf account contents.registry view items → IsTrailed view (reverse items)
  trailed [] items h k = subst (λ all. IsTrailed [] (reverse all)) (sym k) nothing_trailed
  trailed (own_line line ∷ view) items h k =
      let before = trailed view k.1 h.0 k.4 in
      let life : k.0 ≡ lived (reverse k.1) = before.lives k.0 k.3 in
      let new : IsLineTold account contents.registry (lived (reverse k.1)) line k.2 =
      subst (λ l. IsLineTold account contents.registry l line k.2) life k.5 in
      subst (IsTrailed (own_line line ∷ view)) (sym (ap reverse k.6 ∙ reverse-append k.1 k.2))
      (told_trailed view (reverse k.1) line k.2 (is_over (lived (reverse k.1))) before h.1 refl new)
  trailed (firing_made firing ∷ view) items h k =
      let before = trailed view k.1 h.0 k.4 in
      let life : k.0 ≡ lived (reverse k.1) = before.lives k.0 k.3 in
      let new : IsToldFiring account contents.registry (lived (reverse k.1)) firing k.2 =
      subst (λ l. IsToldFiring account contents.registry l firing k.2) life k.5 in
      subst (IsTrailed (firing_made firing ∷ view)) (sym (ap reverse k.6 ∙ reverse-append k.1 k.2))
      (fired_trailed view (reverse k.1) firing k.2 before h.1 h.2 new)

  pub trail_agrees : (view : List Reached) (items : List WrittenItem) → IsBrought contents view
      → IsTrailOf account contents.registry view items → Agrees account contents (reverse items)
  trail_agrees view items h k = let all = trailed view items h k in all.agrees
