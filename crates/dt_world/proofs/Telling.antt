-- The trail of a session, after one thing more.
use Rattle.std.proofs.Common.{◌≡◌, ℕ, ◌++◌, Bool, true, false, List, [], ◌∷◌, codes, MatchBool, append_assoc, subst}
use Rattle.std.proofs.Common.{refl, sym, ap, ◌∙◌, inl, inr}
use Rattle.std.proofs.lemmas.Bool.{both_ways}
use Rattle.std.proofs.lemmas.List.{append-nil}
use Rattle.std.proofs.lemmas.Grind.{flat_map-append}
use Rattle.std.specs.List.{flat_map}
use Rattle.dt_cred.specs.declared.account.Account.{Account}
use Rattle.dt_machine.specs.Registry.{Registry}
use Rattle.dt_cred.specs.declared.firing.Firing.{Firing}
use Rattle.dt_life.specs.Answer.{Answer}
use Rattle.dt_life.specs.Life.{is_over}
use Rattle.dt_life.specs.Reply.{Replies}
use Rattle.dt_proto.specs.Alone.{Reached, own_line, firing_made, IsText}
use Rattle.dt_proto.specs.Line.{ask_in}
use Rattle.dt_proto.specs.Lines.{LineForm, short_line, long_line}
use Rattle.dt_proto.specs.Reply.{reply_text}
use Rattle.dt_proto.specs.Splits.{with_newline}
use Rattle.dt_proto.specs.Trail.{WrittenItem, line_asked, long_asked, fired_at, item_text, IsItemOf, IsTrailOf}
use Rattle.dt_proto.specs.Trail.{IsLineTold as IsTrailOfLine, trail_text}
use Rattle.dt_proto.specs.laws.TrailItems.{reply_line_of}
use Rattle.dt_world.specs.Told.{line_told, answer_told}
use Rattle.dt_life.specs.Tests.{is_seen}
use Rattle.dt_proto.specs.Views.{life_of}
use Rattle.dt_proto.specs.laws.Views.{is_life, reply_from}
use Rattle.dt_life.specs.laws.Seeing.{seen_from, seen_to}

-- The text is the trail of this view.
abbrev pub IsTrail : Account → Registry → List Reached → List ℕ → Type 0
IsTrail account registry view text =
    (items : List WrittenItem) × IsTrailOf account registry view items × (text ≡ trail_text account.name items)

-- the text of a trail with items added
trail_text-append : (name : List ℕ) (earlier new : List WrittenItem)
    → trail_text name (earlier ++ new) ≡ trail_text name earlier ++ flat_map item_text new
trail_text-append name earlier new =
    ap (λ more. with_newline (codes "account " ++ name) ++ more) (flat_map-append item_text earlier new)
    ∙ sym (append_assoc (with_newline (codes "account " ++ name)) (flat_map item_text earlier)
    (flat_map item_text new))

-- the item of a line and its reply
abbrev item_of : LineForm → (reply : List ℕ) → WrittenItem
item_of (short_line line) reply = line_asked line reply
item_of long_line reply = long_asked reply

is_item : (line : LineForm) (answer : Answer) (reply : List ℕ) → with_newline reply ≡ reply_text answer
    → IsItemOf line answer (item_of line reply)
is_item (short_line line) answer reply is = (reply, refl, is)
is_item long_line answer reply is = (reply, refl, is)

text_of_item : (line : LineForm) (answer : Answer) (reply : List ℕ) → with_newline reply ≡ reply_text answer
    → flat_map item_text (item_of line reply ∷ []) ≡ line_told line ++ (codes "reply " ++ reply_text answer)
text_of_item (short_line line) answer reply is =
    append-nil (item_text (line_asked line reply))
    ∙ ap (λ more. line_told (short_line line) ++ (codes "reply " ++ more)) is
text_of_item long_line answer reply is =
    append-nil (item_text (long_asked reply)) ∙ ap (λ more. line_told long_line ++ (codes "reply " ++ more)) is

module _ (account : Account) (registry : Registry) (view : List Reached) where
  -- a session that begins
  pub trail-opened : IsTrail account registry [] (with_newline (codes "account " ++ account.name))
  trail-opened = ([], refl, sym (append-nil (with_newline (codes "account " ++ account.name))))

  -- a line was answered
  answered_at : (line : LineForm) (answer : Answer) (over : Bool) (text : List ℕ)
      → Replies account registry (life_of account registry view) (ask_in line) answer
      → over ≡ is_over (life_of account registry view) → IsTrail account registry view text
      → IsTrail account registry (own_line line ∷ view) (text ++ answer_told line (reply_text answer) over)
  answered_at line answer true text replies full told =
      let life = life_of account registry view in
      let untold : IsTrailOfLine account registry life line [] = rw (← full) refl in (
        told.0 ++ [],
        (life, told.0, [], is_life account registry view, told.1, untold, refl),
        rw (told.2) (sym (trail_text-append account.name told.0 [])),
      )
  answered_at line answer false text replies full told =
      let life = life_of account registry view in
      let reply = reply_line_of answer in
      let item = item_of line reply.0 in
      let new : IsTrailOfLine account registry life line (item ∷ []) =
      subst (λ is_full. MatchBool is_full (item ∷ [] ≡ []) ((told_answer : Answer) × (told_item : WrittenItem)
      × Replies account registry life (ask_in line) told_answer × IsItemOf line told_answer told_item
      × (item ∷ [] ≡ told_item ∷ []))) full
      (answer, item, replies, is_item line answer reply.0 reply.1, refl) in (
        told.0 ++ item ∷ [],
        (life, told.0, item ∷ [], is_life account registry view, told.1, new, refl),
        rw (told.2) (ap (λ more. trail_text account.name told.0 ++ more)
            (sym (text_of_item line answer reply.0 reply.1))
            ∙ sym (trail_text-append account.name told.0 (item ∷ []))),
      )

  pub trail-answered : (line : LineForm) (reply : List ℕ) (over : Bool) (text : List ℕ)
      → IsText account registry view line reply
      → over ≡ is_over (life_of account registry view) → IsTrail account registry view text
      → IsTrail account registry (own_line line ∷ view) (text ++ answer_told line reply over)
  trail-answered line reply over text is full told =
      subst (λ bytes. IsTrail account registry (own_line line ∷ view) (text ++ answer_told line bytes over)) (sym is.2)
      (answered_at line is.0 over text (reply_from account registry view line is.0 is.1) full told)

  -- a firing was seen
  pub trail-seen : (firing : Firing) (text : List ℕ)
      → is_seen account registry (life_of account registry view) firing ≡ true → IsTrail account registry view text
      → IsTrail account registry (firing_made firing ∷ view) (text ++ item_text (fired_at firing.cpu firing.place))
  trail-seen firing text seen told =
      let life = life_of account registry view in
      let item = fired_at firing.cpu firing.place in (
        told.0 ++ item ∷ [],
        (
          life,
          told.0,
          item ∷ [],
          is_life account registry view,
          told.1,
          inl (seen_from account registry life firing seen, refl),
          refl,
        ),
        rw (told.2) (ap (λ more. trail_text account.name told.0 ++ more) (sym (append-nil (item_text item)))
            ∙ sym (trail_text-append account.name told.0 (item ∷ []))),
      )

  -- a firing was not seen
  pub trail-unseen : (firing : Firing) (text : List ℕ)
      → is_seen account registry (life_of account registry view) firing ≡ false → IsTrail account registry view text
      → IsTrail account registry (firing_made firing ∷ view) text
  trail-unseen firing text unseen told =
      let life = life_of account registry view in (
        told.0,
        (
          life,
          told.0,
          [],
          is_life account registry view,
          told.1,
          inr (
            λ sees. both_ways (is_seen account registry life firing) unseen
                (seen_to account registry life firing sees),
            refl,
          ),
          sym (append-nil told.0),
        ),
        told.2,
      )
