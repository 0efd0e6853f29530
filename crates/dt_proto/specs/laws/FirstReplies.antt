-- The replies of a trail are the first that its view is answered alone, as many as the quota of lines allows.
use Rattle.std.proofs.Common.{◌≡◌, ℕ, ◌<◌, ◌≤◌, ◌++◌, Bool, true, false, cond, List, [], ◌∷◌, Result, MatchBool, map, take}
use Rattle.std.proofs.Common.{length, refl, sym, ap, ◌∙◌, subst, ⊎_elim, arith}
use Rattle.std.proofs.lemmas.Bool.{leb-true}
use Rattle.std.proofs.lemmas.Grind.{flat_map-append}
use Rattle.std.proofs.lemmas.List.{append-nil, length-append, map-append, take-append-le, take_all}
use Rattle.dt_cred.specs.declared.account.Account.{Account}
use Rattle.dt_cred.specs.declared.firing.Firing.{Firing}
use Rattle.dt_life.specs.Acceptance.{after_line}
use Rattle.dt_life.specs.Answer.{Answer}
use Rattle.dt_life.specs.Ask.{Ask}
use Rattle.dt_life.specs.Life.{Item, asked, fired, lines, is_over}
use Rattle.dt_life.specs.Limits.{lines_max}
use Rattle.dt_life.specs.Reply.{Replies}
use Rattle.dt_life.specs.Tests.{is_seen}
use Rattle.dt_life.specs.declared.refusal.Refusal.{Refusal}
use Rattle.dt_life.specs.laws.Lines.{quota_left}
use Rattle.dt_machine.specs.Registry.{Registry}
use Rattle.dt_proto.specs.Alone.{Reached, own_line, firing_made, Alone}
use Rattle.dt_proto.specs.Line.{ask_in}
use Rattle.dt_proto.specs.Lines.{LineForm, short_line, long_line}
use Rattle.dt_proto.specs.Reply.{reply_text}
use Rattle.dt_proto.specs.Trail.{WrittenItem, IsItemOf, IsLineTold, IsToldFiring, IsTrailOf, replies_by, replies_of}
use Rattle.dt_proto.specs.Views.{life_of}
use Rattle.dt_proto.specs.laws.Views.{one_life, reply_from}

-- As many lines were answered as the life has, or more than the quota; and the trail tells the first of the answers.
record IsTold (life : List Item) (items : List WrittenItem) (answers : List Answer) : Type 0 where
  full : is_over life ≡ true → lines_max ≤ length answers
  few : is_over life ≡ false → length answers ≡ lines life
  told : replies_of items ≡ map reply_text (take lines_max answers)

module _ (one_reply : (account : Account) (registry : Registry) (life : List Item) (line : Result Ask Refusal)
    (a b : Answer) → Replies account registry life line a → Replies account registry life line b → a ≡ b) where
  module _ (account : Account) (registry : Registry) where
    -- a line over the quota is answered, and not told
    told_over : (life : List Item) (line : LineForm) (items : List WrittenItem) (answers : List Answer) (answer : Answer)
        → is_over life ≡ true → IsTold life items answers
        → IsTold (cond true life (asked (ask_in line) ∷ life)) (items ++ []) (answers ++ answer ∷ [])
    told_over life line items answers answer over before =
        let long = before.full over in
        record {
          full = λ _. omega (arith, long, length-append answers (answer ∷ []));
          few = λ no. cc;
          told = ap replies_of (append-nil items) ∙ before.told
              ∙ ap (map reply_text) (sym (take-append-le lines_max answers (answer ∷ []) long));
        }

    reply_of_item : (line : LineForm) (answer : Answer) (item : WrittenItem) → IsItemOf line answer item
        → replies_by item ≡ reply_text answer ∷ []
    reply_of_item (short_line bytes) answer item h = ap replies_by h.1 ∙ ap (λ (reply : List ℕ). reply ∷ []) h.2
    reply_of_item long_line answer item h = ap replies_by h.1 ∙ ap (λ (reply : List ℕ). reply ∷ []) h.2

    -- a line within the quota is told with its answer
    told_within : (life : List Item) (line : LineForm) (items : List WrittenItem) (item : WrittenItem)
        (answers : List Answer) (answer : Answer) → is_over life ≡ false → IsItemOf line answer item
        → IsTold life items answers
        → IsTold (asked (ask_in line) ∷ life) (items ++ item ∷ []) (answers ++ answer ∷ [])
    told_within life line items item answers answer within is before =
        let many : length answers ≡ lines life = before.few within in
        let left : lines life < lines_max = quota_left life within in
        let more = length-append answers (answer ∷ []) in
        record {
          full = λ over. let most = leb-true lines_max (lines (asked (ask_in line) ∷ life)) over in omega (arith, many, more, most);
          few = λ _. omega (arith, many, more);
          told =
              flat_map-append replies_by items (item ∷ [])
              ∙ ap (λ (new : List (List ℕ)). replies_of items ++ (new ++ [])) (reply_of_item line answer item is)
              ∙ ap (λ (old : List (List ℕ)). old ++ reply_text answer ∷ []) before.told
              ∙ ap (λ old. map reply_text old ++ reply_text answer ∷ [])
              (take_all lines_max answers (omega (arith, many, left)))
              ∙ sym (map-append reply_text answers (answer ∷ []))
              ∙ ap (map reply_text)
              (sym (take_all lines_max (answers ++ answer ∷ []) (omega (arith, many, left, more))));
        }

    told_line : (life : List Item) (line : LineForm) (over : Bool) (earlier new : List WrittenItem)
        (answers : List Answer) (answer : Answer) → is_over life ≡ over
        → Replies account registry life (ask_in line) answer
        → MatchBool over (new ≡ []) ((told : Answer) × (item : WrittenItem)
        × Replies account registry life (ask_in line) told × IsItemOf line told item × (new ≡ item ∷ []))
        → IsTold life earlier answers
        → IsTold (cond over life (asked (ask_in line) ∷ life)) (earlier ++ new) (answers ++ answer ∷ [])
    told_line life line true earlier new answers answer is replies h before =
        subst (λ more. IsTold life (earlier ++ more) (answers ++ answer ∷ [])) (sym h)
        (told_over life line earlier answers answer is before)
    told_line life line false earlier new answers answer is replies h before =
        let same : h.0 ≡ answer = one_reply account registry life (ask_in line) h.0 answer h.2 replies in
        subst (λ more. IsTold (asked (ask_in line) ∷ life) (earlier ++ more) (answers ++ answer ∷ [])) (sym h.4)
        (told_within life line earlier h.1 answers answer is (subst (λ a. IsItemOf line a h.1) same h.3) before)

    told_firing : (life : List Item) (firing : Firing) (seen : Bool) (earlier new : List WrittenItem)
        (answers : List Answer) → IsToldFiring account registry life firing new → IsTold life earlier answers
        → IsTold (cond seen (fired firing ∷ life) life) (earlier ++ new) answers
    told_firing life firing seen earlier new answers h before =
        let none : replies_of new ≡ [] = ⊎_elim (λ yes. ap replies_of yes.1) (λ no. ap replies_of no.1) h in
        let told : replies_of (earlier ++ new) ≡ map reply_text (take lines_max answers) =
        flat_map-append replies_by earlier new ∙ ap (λ (more : List (List ℕ)). replies_of earlier ++ more) none
        ∙ append-nil (replies_of earlier) ∙ before.told in
        either seen told
      where
        either : (b : Bool) → replies_of (earlier ++ new) ≡ map reply_text (take lines_max answers)
            → IsTold (cond b (fired firing ∷ life) life) (earlier ++ new) answers
        either true told = record { full = before.full; few = before.few; told = told }
        either false told = record { full = before.full; few = before.few; told = told }

    told_view : (view : List Reached) (items : List WrittenItem) (answers : List Answer)
        → IsTrailOf account registry view items → Alone account registry view answers
        → IsTold (life_of account registry view) items answers
    told_view [] items answers h k =
        let none : replies_of items ≡ [] = ap replies_of h in
        let nothing : map reply_text (take lines_max answers) ≡ [] =
        ap (λ (all : List Answer). map reply_text (take lines_max all)) k in
        record { full = λ over. cc; few = λ _. ap length k; told = none ∙ sym nothing }
    told_view (own_line line ∷ view) items answers h k =
        let life = life_of account registry view in
        let before = told_view view h.1 k.0 h.4 k.2 in
        let due = reply_from account registry view line k.1 k.3 in
        let told = subst (λ l. IsLineTold account registry l line h.2) (one_life account registry view h.0 h.3) h.5 in
        subst (λ all. IsTold (after_line life (ask_in line)) items all) (sym k.4)
        (subst (λ all. IsTold (after_line life (ask_in line)) all (k.0 ++ k.1 ∷ [])) (sym h.6)
        (told_line life line (is_over life) h.1 h.2 k.0 k.1 refl due told before))
    told_view (firing_made firing ∷ view) items answers h k =
        let life = life_of account registry view in
        let told = subst (λ l. IsToldFiring account registry l firing h.2) (one_life account registry view h.0 h.3) h.5 in
        subst (λ all. IsTold (life_of account registry (firing_made firing ∷ view)) all answers) (sym h.6)
        (told_firing life firing (is_seen account registry life firing) h.1 h.2 answers told
        (told_view view h.1 answers h.4 k))

    pub first_replies : (view : List Reached) (items : List WrittenItem) (answers : List Answer)
        → IsTrailOf account registry view items → Alone account registry view answers
        → replies_of items ≡ map reply_text (take lines_max answers)
    first_replies view items answers h k = (told_view view items answers h k).told
