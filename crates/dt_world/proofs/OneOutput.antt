-- A replay is a run of the world, and has one output, and one trail.
use Rattle.std.proofs.Common.{◌≡◌, ℕ, ◌++◌, Bool, true, false, List, [], ◌∷◌, Result, Option, Some, None, MatchBool}
use Rattle.std.proofs.Common.{fold, refl, sym, ap, ◌∙◌, subst, ⊎_elim}
use Rattle.std.specs.List.{flat_map}
use Rattle.std.proofs.lemmas.List.{append_cancel_right}
use Rattle.std.proofs.lemmas.List.Sums.{fold-append}
use Rattle.dt_cred.specs.declared.account.Account.{Account}
use Rattle.dt_machine.specs.Registry.{Registry, Contents}
use Rattle.dt_cred.specs.declared.firing.Firing.{Firing}
use Rattle.dt_life.specs.Answer.{Answer}
use Rattle.dt_life.specs.Ask.{Ask}
use Rattle.dt_life.specs.Acceptance.{after_line}
use Rattle.dt_life.specs.Life.{Item, is_over}
use Rattle.dt_life.specs.Reply.{Replies}
use Rattle.dt_life.specs.declared.refusal.Refusal.{Refusal}
use Rattle.dt_proto.specs.Alone.{Reached, own_line, firing_made, IsAfterFiring, IsLifeOf, IsReplyTo}
use Rattle.dt_proto.specs.Line.{ask_in}
use Rattle.dt_proto.specs.Lines.{LineForm, short_line, long_line}
use Rattle.dt_proto.specs.Reply.{reply_text}
use Rattle.dt_proto.specs.Splits.{with_newline}
use Rattle.dt_proto.specs.Trail.{WrittenItem, line_asked, long_asked, IsItemOf, IsLineTold, IsToldFiring, IsTrailOf}
use Rattle.dt_proto.specs.Trail.{trail_text}
use Rattle.dt_steps.specs.Ran.{SeatReply, IsReply, AreReplies}
use Rattle.dt_world.specs.Replay as replay
use Rattle.dt_world.specs.Replay.{Replayed, IsReplay, IsTrailReplay, IsTrailText, replayed, steps_of_line, steps_from}
use Rattle.dt_world.specs.Replay.{beginning, told_line}
use Rattle.dt_world.specs.StepLine.{StepLineForm}
use Rattle.dt_steps.specs.Steps.{after_step, world_after}
use Rattle.dt_steps.specs.World.{Session, Question, session_of}
use Rattle.dt_world.proofs.LineLists.{same_forms}

from : (contents : Contents) (now : Replayed) (forms : List StepLineForm)
    → (fold (replay.after_step_line contents) now forms).world
    ≡ fold (after_step contents.registry) now.world (steps_from contents now forms)
from contents now [] = refl
from contents now (form ∷ forms) =
    from contents (replay.after_step_line contents now form) forms
    ∙ sym (fold-append (after_step contents.registry) now.world (steps_of_line contents now form)
    (steps_from contents (replay.after_step_line contents now form) forms))

pub is_run : (contents : Contents) (forms : List StepLineForm)
    → (replayed contents forms).world ≡ world_after contents.registry (steps_from contents beginning forms)
is_run contents forms = from contents beginning forms

-- a line and a reply have one item
same_reply : (a b : List ℕ) → with_newline a ≡ with_newline b → a ≡ b
same_reply a b e = append_cancel_right a b (10 ∷ []) e

same_item : (line : LineForm) (answer : Answer) (a b : WrittenItem) → IsItemOf line answer a
    → IsItemOf line answer b → a ≡ b
same_item (short_line line) answer a b h k =
    h.1 ∙ ap (line_asked line) (same_reply h.0 k.0 (h.2 ∙ sym k.2)) ∙ sym k.1
same_item long_line answer a b h k = h.1 ∙ ap long_asked (same_reply h.0 k.0 (h.2 ∙ sym k.2)) ∙ sym k.1

module _ (one_reply : (account : Account) (registry : Registry) (life : List Item) (line : Result Ask Refusal)
    (a b : Answer) → Replies account registry life line a → Replies account registry life line b → a ≡ b) where
  module _ (account : Account) (registry : Registry) where
    after_same : (before : List Item) (firing : Firing) (a b : List Item)
        → IsAfterFiring account registry before firing a → IsAfterFiring account registry before firing b → a ≡ b
    after_same before firing a b h k =
        ⊎_elim
        (λ seen. ⊎_elim (λ too. seen.1 ∙ sym too.1) (λ unseen. absurd (unseen.0 seen.0)) k)
        (λ unseen. ⊎_elim (λ seen. absurd (unseen.0 seen.0)) (λ too. unseen.1 ∙ sym too.1) k)
        h

    same_life : (view : List Reached) (a b : List Item) → IsLifeOf account registry view a
        → IsLifeOf account registry view b → a ≡ b
    same_life [] a b h k = h ∙ sym k
    same_life (own_line line ∷ view) a b h k =
        let before : h.0 ≡ k.0 = same_life view h.0 k.0 h.1 k.1 in
        h.2 ∙ ap (λ life. after_line life (ask_in line)) before ∙ sym k.2
    same_life (firing_made firing ∷ view) a b h k =
        let before : k.0 ≡ h.0 = same_life view k.0 h.0 k.1 h.1 in
        after_same h.0 firing a b h.2 (subst (λ life. IsAfterFiring account registry life firing b) before k.2)

    same_answer : (view : List Reached) (line : LineForm) (a b : Answer) → IsReplyTo account registry view line a
        → IsReplyTo account registry view line b → a ≡ b
    same_answer view line a b h k =
        let life : k.0 ≡ h.0 = same_life view k.0 h.0 k.1 h.1 in
        one_reply account registry h.0 (ask_in line) a b h.2
        (subst (λ l. Replies account registry l (ask_in line) b) life k.2)

    -- what a line adds to a trail is one
    told_same_at : (life : List Item) (line : LineForm) (over : Bool) (a b : List WrittenItem)
        → MatchBool over (a ≡ []) ((answer : Answer) × (item : WrittenItem)
        × Replies account registry life (ask_in line) answer
        × IsItemOf line answer item × (a ≡ item ∷ []))
        → MatchBool over (b ≡ []) ((answer : Answer) × (item : WrittenItem)
        × Replies account registry life (ask_in line) answer
        × IsItemOf line answer item × (b ≡ item ∷ []))
        → a ≡ b
    told_same_at life line true a b h k = h ∙ sym k
    told_same_at life line false a b h k =
        let answer : k.0 ≡ h.0 = one_reply account registry life (ask_in line) k.0 h.0 k.2 h.2 in
        let item : h.1 ≡ k.1 =
        same_item line h.0 h.1 k.1 h.3 (subst (λ one. IsItemOf line one k.1) answer k.3) in
        h.4 ∙ ap (λ one. one ∷ []) item ∙ sym k.4

    told_same : (life : List Item) (line : LineForm) (a b : List WrittenItem) → IsLineTold account registry life line a
        → IsLineTold account registry life line b → a ≡ b
    told_same life line a b h k = told_same_at life line (is_over life) a b h k

    -- what a firing adds to a trail is one
    told_firing_same : (life : List Item) (firing : Firing) (a b : List WrittenItem)
        → IsToldFiring account registry life firing a → IsToldFiring account registry life firing b → a ≡ b
    told_firing_same life firing a b h k =
        ⊎_elim
        (λ seen. ⊎_elim (λ too. seen.1 ∙ sym too.1) (λ unseen. absurd (unseen.0 seen.0)) k)
        (λ unseen. ⊎_elim (λ seen. absurd (unseen.0 seen.0)) (λ too. unseen.1 ∙ sym too.1) k)
        h

    same_trail : (view : List Reached) (a b : List WrittenItem) → IsTrailOf account registry view a
        → IsTrailOf account registry view b → a ≡ b
    same_trail [] a b h k = h ∙ sym k
    same_trail (own_line line ∷ view) a b h k =
        let life : k.0 ≡ h.0 = same_life view k.0 h.0 k.3 h.3 in
        let earlier : h.1 ≡ k.1 = same_trail view h.1 k.1 h.4 k.4 in
        let new : h.2 ≡ k.2 =
        told_same h.0 line h.2 k.2 h.5 (subst (λ l. IsLineTold account registry l line k.2) life k.5) in
        h.6 ∙ ap (λ before. before ++ h.2) earlier ∙ ap (λ more. k.1 ++ more) new ∙ sym k.6
    same_trail (firing_made firing ∷ view) a b h k =
        let life : k.0 ≡ h.0 = same_life view k.0 h.0 k.3 h.3 in
        let earlier : h.1 ≡ k.1 = same_trail view h.1 k.1 h.4 k.4 in
        let new : h.2 ≡ k.2 =
        told_firing_same h.0 firing h.2 k.2 h.5 (subst (λ l. IsToldFiring account registry l firing k.2) life k.5) in
        h.6 ∙ ap (λ before. before ++ h.2) earlier ∙ ap (λ more. k.1 ++ more) new ∙ sym k.6

  same_reply_to : (registry : Registry) (question : Question) (a b : SeatReply) → IsReply registry question a
      → IsReply registry question b → a ≡ b
  same_reply_to registry question (seat, text) (other, more) h k =
      let seats : seat ≡ other = h.0 ∙ sym k.0 in
      let answers = same_answer question.account registry question.view question.line h.1.0 k.1.0 h.1.1 k.1.1 in
      let texts : text ≡ more = h.1.2 ∙ ap reply_text answers ∙ sym k.1.2 in
      rw (seats, texts) refl

  same_replies : (registry : Registry) (questions : List Question) (a b : List SeatReply) → AreReplies registry questions a
      → AreReplies registry questions b → a ≡ b
  same_replies registry [] [] [] h k = refl
  same_replies registry [] [] (y ∷ b) h k = absurd k
  same_replies registry [] (x ∷ a) b h k = absurd h
  same_replies registry (question ∷ questions) [] b h k = absurd h
  same_replies registry (question ∷ questions) (x ∷ a) [] h k = absurd k
  same_replies registry (question ∷ questions) (x ∷ a) (y ∷ b) h k =
      let first : x ≡ y = same_reply_to registry question x y h.0 k.0 in
      let more : a ≡ b = same_replies registry questions a b h.1 k.1 in
      rw (first, more) refl

  pub same_output : (contents : Contents) (text a b : List ℕ) → IsReplay contents text a → IsReplay contents text b
      → a ≡ b
  same_output contents text a b h k =
      let forms : k.forms ≡ h.forms = same_forms k.forms h.forms k.lines.writable h.lines.writable (sym k.lines.spelled
      ∙ h.lines.spelled) in
      let replies : AreReplies contents.registry (replayed contents h.forms).world.questions k.told = subst
      (λ lines. AreReplies contents.registry (replayed contents lines).world.questions k.told) forms k.replies in
      h.written
      ∙ ap (flat_map told_line) (same_replies contents.registry (replayed contents h.forms).world.questions h.told
      k.told h.replies replies)
      ∙ sym k.written

  trailed_alike : (registry : Registry) (session : Option Session) (a b : List ℕ) → IsTrailText registry session a
      → IsTrailText registry session b → a ≡ b
  trailed_alike registry None a b h k = h ∙ sym k
  trailed_alike registry (Some session) a b h k =
      h.2
      ∙ ap (trail_text session.account.name) (same_trail session.account registry session.view h.0 k.0 h.1 k.1)
      ∙ sym k.2

  pub same_trail_text : (contents : Contents) (text : List ℕ) (seat : ℕ) (a b : List ℕ)
      → IsTrailReplay contents text seat a → IsTrailReplay contents text seat b → a ≡ b
  same_trail_text contents text seat a b h k =
      let forms : k.forms ≡ h.forms = same_forms k.forms h.forms k.lines.writable h.lines.writable (sym k.lines.spelled
      ∙ h.lines.spelled) in
      let trail : IsTrailText contents.registry (session_of (replayed contents h.forms).world seat 0) b = subst
      (λ lines. IsTrailText contents.registry (session_of (replayed contents lines).world seat 0) b) forms k.trail in
      trailed_alike contents.registry (session_of (replayed contents h.forms).world seat 0) a b h.trail trail
