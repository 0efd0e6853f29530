-- The life of a view is one, and the seen view has the same.
use Rattle.std.proofs.Common.{◌≡◌, ◌++◌, Bool, true, false, cond, List, [], ◌∷◌, Result, refl, sym, ap, ◌∙◌, subst}
use Rattle.std.proofs.Common.{⊎_elim, inl, inr}
use Rattle.std.proofs.lemmas.Bool.{both_ways}
use Rattle.dt_cred.specs.declared.account.Account.{Account}
use Rattle.dt_machine.specs.Registry.{Registry}
use Rattle.dt_cred.specs.declared.firing.Firing.{Firing}
use Rattle.dt_life.specs.Answer.{Answer}
use Rattle.dt_life.specs.Ask.{Ask}
use Rattle.dt_life.specs.Acceptance.{after_line}
use Rattle.dt_life.specs.Life.{Item, fired}
use Rattle.dt_life.specs.Reply.{Replies}
use Rattle.dt_life.specs.declared.refusal.Refusal.{Refusal}
use Rattle.dt_proto.specs.Alone.{Reached, own_line, firing_made, IsAfterFiring, IsLifeOf, IsReplyTo, Alone}
use Rattle.dt_proto.specs.Line.{ask_in}
use Rattle.dt_proto.specs.Lines.{LineForm}
use Rattle.dt_life.specs.Tests.{is_seen}
use Rattle.dt_proto.specs.Views.{life_of, seen_view}
use Rattle.dt_life.specs.laws.Seeing.{seen_from, seen_to, unseen_to}

module _ (account : Account) (registry : Registry) where
  -- a life after a firing, as the tests have it
  abbrev after : List Item → Firing → Bool → List Item
  after before firing seen = cond seen (fired firing ∷ before) before

  after_is : (before : List Item) (firing : Firing) (seen : Bool) → is_seen account registry before firing ≡ seen
      → IsAfterFiring account registry before firing (after before firing seen)
  after_is before firing true h = inl (seen_from account registry before firing h, refl)
  after_is before firing false h =
      inr (
        λ sees. both_ways (is_seen account registry before firing) h
            (seen_to account registry before firing sees),
        refl,
      )

  one_after : (before life : List Item) (firing : Firing) → IsAfterFiring account registry before firing life
      → life ≡ after before firing (is_seen account registry before firing)
  one_after before life firing h =
      ⊎_elim
      (λ seen. seen.1 ∙ sym (ap (after before firing) (seen_to account registry before firing seen.0)))
      (λ unseen. unseen.1
      ∙ sym (ap (after before firing) (unseen_to account registry before firing unseen.0)))
      h

  pub is_life : (view : List Reached) → IsLifeOf account registry view (life_of account registry view)
  is_life [] = refl
  is_life (own_line line ∷ view) = (life_of account registry view, is_life view, refl)
  is_life (firing_made firing ∷ view) = (
    life_of account registry view,
    is_life view,
    after_is (life_of account registry view) firing
        (is_seen account registry (life_of account registry view) firing) refl,
  )

  pub one_life : (view : List Reached) (life : List Item) → IsLifeOf account registry view life
      → life ≡ life_of account registry view
  one_life [] life h = h
  one_life (own_line line ∷ view) life h =
      h.2 ∙ ap (λ before. after_line before (ask_in line)) (one_life view h.0 h.1)
  one_life (firing_made firing ∷ view) life h =
      one_after h.0 life firing h.2
      ∙ ap (λ before. after before firing (is_seen account registry before firing)) (one_life view h.0 h.1)

  -- what is asked after a view is answered by its life
  pub reply_from : (view : List Reached) (line : LineForm) (answer : Answer)
      → IsReplyTo account registry view line answer
      → Replies account registry (life_of account registry view) (ask_in line) answer
  reply_from view line answer h =
      subst (λ life. Replies account registry life (ask_in line) answer) (one_life view h.0 h.1) h.2

  pub reply_to : (view : List Reached) (line : LineForm) (answer : Answer)
      → Replies account registry (life_of account registry view) (ask_in line) answer
      → IsReplyTo account registry view line answer
  reply_to view line answer h = (life_of account registry view, is_life view, h)

  -- a firing that isn't seen
  seen_more : (view : List Reached) (firing : Firing) (seen : Bool)
      → is_seen account registry (life_of account registry view) firing ≡ seen
      → life_of account registry (seen_view account registry view) ≡ life_of account registry view
      → life_of account registry (cond seen (firing_made firing ∷ seen_view account registry view)
      (seen_view account registry view))
      ≡ cond seen (fired firing ∷ life_of account registry view) (life_of account registry view)
  seen_more view firing true is before = rw (before, is) refl
  seen_more view firing false is before = before

  -- The life of the seen view is that of the view.
  pub life-seen_view : (view : List Reached)
      → life_of account registry (seen_view account registry view) ≡ life_of account registry view
  life-seen_view [] = refl
  life-seen_view (own_line line ∷ view) = ap (λ before. after_line before (ask_in line)) (life-seen_view view)
  life-seen_view (firing_made firing ∷ view) =
      seen_more view firing (is_seen account registry (life_of account registry view) firing) refl
      (life-seen_view view)

  reply_alike : (view other : List Reached) (line : LineForm) (answer : Answer)
      → life_of account registry view ≡ life_of account registry other
      → IsReplyTo account registry view line answer → IsReplyTo account registry other line answer
  reply_alike view other line answer e h =
      reply_to other line answer
      (subst (λ life. Replies account registry life (ask_in line) answer) e (reply_from view line answer h))

  -- whether a firing is kept of a view or not, the same is answered
  alone_kept : (view : List Reached) (firing : Firing) (seen : Bool) (answers : List Answer)
      → Alone account registry view answers
      → Alone account registry (cond seen (firing_made firing ∷ view) view) answers
  alone_kept view firing true answers h = h
  alone_kept view firing false answers h = h

  alone_of_kept : (view : List Reached) (firing : Firing) (seen : Bool) (answers : List Answer)
      → Alone account registry (cond seen (firing_made firing ∷ view) view) answers
      → Alone account registry view answers
  alone_of_kept view firing true answers h = h
  alone_of_kept view firing false answers h = h

  -- What is answered to a view alone is answered to its seen view alone, and the other way round.
  pub alone_seen : (view : List Reached) (answers : List Answer) → Alone account registry view answers
      → Alone account registry (seen_view account registry view) answers
  alone_seen [] answers h = h
  alone_seen (own_line line ∷ view) answers h = (
    h.0,
    h.1,
    alone_seen view h.0 h.2,
    reply_alike view (seen_view account registry view) line h.1 (sym (life-seen_view view)) h.3,
    h.4,
  )
  alone_seen (firing_made firing ∷ view) answers h =
      alone_kept (seen_view account registry view) firing
      (is_seen account registry (life_of account registry view) firing) answers (alone_seen view answers h)

  pub alone_of_seen : (view : List Reached) (answers : List Answer)
      → Alone account registry (seen_view account registry view) answers → Alone account registry view answers
  alone_of_seen [] answers h = h
  alone_of_seen (own_line line ∷ view) answers h = (
    h.0,
    h.1,
    alone_of_seen view h.0 h.2,
    reply_alike (seen_view account registry view) view line h.1 (life-seen_view view) h.3,
    h.4,
  )
  alone_of_seen (firing_made firing ∷ view) answers h =
      alone_of_seen view answers (alone_of_kept (seen_view account registry view) firing
      (is_seen account registry (life_of account registry view) firing) answers h)

module _ (one_reply : (account : Account) (registry : Registry) (life : List Item) (line : Result Ask Refusal)
    (a b : Answer) → Replies account registry life line a → Replies account registry life line b → a ≡ b) where
  -- What is answered alone is one list of answers.
  pub one_alone : (account : Account) (registry : Registry) (view : List Reached) (a b : List Answer)
      → Alone account registry view a → Alone account registry view b → a ≡ b
  one_alone account registry [] a b h k = h ∙ sym k
  one_alone account registry (own_line line ∷ view) a b h k =
      let earlier : h.0 ≡ k.0 = one_alone account registry view h.0 k.0 h.2 k.2 in
      let last : h.1 ≡ k.1 = one_reply account registry (life_of account registry view) (ask_in line) h.1 k.1
      (reply_from account registry view line h.1 h.3) (reply_from account registry view line k.1 k.3) in
      h.4 ∙ ap (λ before. before ++ h.1 ∷ []) earlier ∙ ap (λ answer. k.0 ++ answer ∷ []) last ∙ sym k.4
  one_alone account registry (firing_made firing ∷ view) a b h k = one_alone account registry view a b h k

  -- Equal seen views are answered alike.
  pub alike : (account : Account) (registry : Registry) (view other : List Reached) (a b : List Answer)
      → seen_view account registry view ≡ seen_view account registry other
      → Alone account registry view a → Alone account registry other b → a ≡ b
  alike account registry view other a b e h k =
      one_alone account registry (seen_view account registry other) a b
      (subst (λ v. Alone account registry v a) e (alone_seen account registry view a h))
      (alone_seen account registry other b k)
