-- The life and the replies that items tell are those of the view that they tell: items agree where they are legal
-- and have the replies of that view. Each beginning of a legal trail is legal.
use Rattle.std.proofs.Common.{◌≡◌, ℕ, ◌↔◌, List, [], ◌∷◌, ◌++◌, length, map, reverse, append_assoc, refl, sym, ap, ◌∙◌}
use Rattle.std.proofs.Common.{subst, inl, arith, length-append}
use Rattle.std.proofs.lemmas.List.{append-nil, map-append, reverse-append}
use Rattle.dt_cred.specs.declared.account.Account.{Account}
use Rattle.dt_machine.specs.Registry.{Contents}
use Rattle.dt_life.specs.Answer.{Answer}
use Rattle.dt_life.specs.Life.{Item}
use Rattle.dt_life.specs.Reply.{Replies}
use Rattle.dt_proto.specs.Alone.{Reached, own_line, IsLifeOf, Alone}
use Rattle.dt_proto.specs.Line.{ask_in}
use Rattle.dt_proto.specs.Lines.{LineForm, line_form, long_line}
use Rattle.dt_proto.specs.Reply.{reply_text}
use Rattle.dt_proto.specs.Splits.{with_newline}
use Rattle.dt_proto.specs.Trail.{WrittenItem, line_asked, long_asked, fired_at, replies_by, replies_of}
use Rattle.dt_proto.specs.Legal.{Agrees, IsLegal, life_of_trail}
use Rattle.dt_proto.specs.Told.{AreRepliesAlone, view_told}
use Rattle.dt_proto.specs.Views.{life_of}
use Rattle.dt_proto.specs.laws.Views.{one_life}

-- two lists that end alike
not_longer : {A : Type 0} (xs : List A) (x y z : A) → x ∷ [] ≡ y ∷ (xs ++ z ∷ []) → ⊥
not_longer xs x y z e = omega (arith, ap length e, length-append xs (z ∷ []))

same_last : {A : Type 0} (xs ys : List A) (x y : A) → xs ++ x ∷ [] ≡ ys ++ y ∷ [] → (xs ≡ ys) × (x ≡ y)
same_last [] [] x y e = let same : x ≡ y = cc in (refl, same)
same_last [] (z ∷ ys) x y e = absurd (not_longer ys x z y e)
same_last (z ∷ xs) [] x y e = absurd (not_longer xs y z x (sym e))
same_last (w ∷ xs) (z ∷ ys) x y e =
    let first : w ≡ z = cc in
    let later : xs ++ x ∷ [] ≡ ys ++ y ∷ [] = cc in
    let both = same_last xs ys x y later in
    let front : xs ≡ ys = both.0 in
    let whole : w ∷ xs ≡ z ∷ ys = cc in
    (whole, both.1)

-- the replies that a past tells, the oldest first
abbrev replies_told : List WrittenItem → List (List ℕ)
replies_told [] = []
replies_told (item ∷ past) = replies_told past ++ replies_by item

module _ (account : Account) (contents : Contents) where
  abbrev lived : List WrittenItem → List Item
  lived past = life_of_trail account contents past

  pub same_life : (view : List Reached) (a b : List Item) → IsLifeOf account contents.registry view a
      → IsLifeOf account contents.registry view b → a ≡ b
  same_life view a b h k =
      one_life account contents.registry view a h ∙ sym (one_life account contents.registry view b k)

  -- the life that legal items tell is that of the view that they tell
  pub lives : (past : List WrittenItem) → IsLegal account contents past
      → IsLifeOf account contents.registry (view_told contents past) (lived past)
  lives [] h = refl
  lives (line_asked line reply ∷ past) h = (lived past, lives past h.0, rw h.1 refl)
  lives (long_asked reply ∷ past) h = (lived past, lives past h.0, rw h.1 refl)
  lives (fired_at cpu place ∷ past) h =
      let firing = h.1.1 in
      rw firing.1 (lived past, lives past h.0, inl (firing.2, refl))

  -- as a function
  pub life_told : (past : List WrittenItem) → IsLegal account contents past
      → lived past ≡ life_of account contents.registry (view_told contents past)
  life_told past h = one_life account contents.registry (view_told contents past) (lived past) (lives past h)

  -- what stands before is legal by itself
  pub legal_before : (later past : List WrittenItem) → IsLegal account contents (later ++ past)
      → IsLegal account contents past
  legal_before [] past h = h
  legal_before (item ∷ later) past h = legal_before later past h.0

  legal : (past : List WrittenItem) → Agrees account contents past → IsLegal account contents past
  legal [] h = tt
  legal (item ∷ past) h = (legal past h.0, h.1)

  -- The replies of a past are those of the view that it tells.
  record IsAnswered (past : List WrittenItem) : Type 0 where
    answers : List Answer
    alone : Alone account contents.registry (view_told contents past) answers
    told : replies_told past ≡ map reply_text answers

  -- what is said of a reply to a line
  abbrev IsReply : List WrittenItem → LineForm → List ℕ → Type 0
  IsReply past form reply = (answer : Answer) × Replies account contents.registry (lived past) (ask_in form) answer
      × (with_newline reply ≡ reply_text answer)

  line_answered : (past : List WrittenItem) (form : LineForm) (reply : List ℕ) (before : IsAnswered past)
      → IsLegal account contents past → (here : IsReply past form reply)
      → Alone account contents.registry (own_line form ∷ view_told contents past) (before.answers ++ here.0 ∷ [])
      × (replies_told past ++ with_newline reply ∷ [] ≡ map reply_text (before.answers ++ here.0 ∷ []))
  line_answered past form reply before h here = (
    (before.answers, here.0, before.alone, (lived past, lives past h, here.1), refl),
    ap (λ told. told ++ with_newline reply ∷ []) before.told
        ∙ ap (λ last. map reply_text before.answers ++ last ∷ []) here.2
        ∙ sym (map-append reply_text before.answers (here.0 ∷ [])),
  )

  answered : (past : List WrittenItem) → Agrees account contents past → IsAnswered past
  answered [] h = record { answers = []; alone = refl; told = refl }
  answered (line_asked line reply ∷ past) h =
      let before = answered past h.0 in
      let more = line_answered past (line_form line) reply before (legal past h.0) h.2 in
      record { answers = before.answers ++ h.2.0 ∷ []; alone = more.0; told = more.1 }
  answered (long_asked reply ∷ past) h =
      let before = answered past h.0 in
      let more = line_answered past long_line reply before (legal past h.0) h.2 in
      record { answers = before.answers ++ h.2.0 ∷ []; alone = more.0; told = more.1 }
  answered (fired_at cpu place ∷ past) h =
      let before = answered past h.0 in
      let firing = h.1.1 in
      record {
        answers = before.answers;
        alone = rw firing.1 before.alone;
        told = append-nil (replies_told past) ∙ before.told;
      }

  -- the last reply is the one that is due, and those before it are those of the view before
  line_right : (past : List WrittenItem) (form : LineForm) (reply : List ℕ) (answers : List Answer)
      → IsLegal account contents past
      → (k : Alone account contents.registry (own_line form ∷ view_told contents past) answers)
      → replies_told past ++ with_newline reply ∷ [] ≡ map reply_text answers
      → (replies_told past ≡ map reply_text k.0) × IsReply past form reply
  line_right past form reply answers h k e =
      let last = same_last (replies_told past) (map reply_text k.0) (with_newline reply) (reply_text k.1)
      (e ∙ ap (map reply_text) k.4 ∙ map-append reply_text k.0 (k.1 ∷ [])) in
      let life : k.3.0 ≡ lived past = same_life (view_told contents past) k.3.0 (lived past) k.3.1 (lives past h) in
      let due = subst (λ l. Replies account contents.registry l (ask_in form) k.1) life k.3.2 in
      (last.0, (k.1, due, last.1))

  agrees : (past : List WrittenItem) (answers : List Answer) → IsLegal account contents past
      → Alone account contents.registry (view_told contents past) answers → replies_told past ≡ map reply_text answers
      → Agrees account contents past
  agrees [] answers h k e = tt
  agrees (line_asked line reply ∷ past) answers h k e =
      let right = line_right past (line_form line) reply answers h.0 k e in
      (agrees past k.0 h.0 k.2 right.0, h.1, right.1)
  agrees (long_asked reply ∷ past) answers h k e =
      let right = line_right past long_line reply answers h.0 k e in
      (agrees past k.0 h.0 k.2 right.0, h.1, right.1)
  agrees (fired_at cpu place ∷ past) answers h k e =
      let firing = h.1.1 in
      (agrees past answers h.0 (rw firing.1 at k) (sym (append-nil (replies_told past)) ∙ e), h.1, tt)

-- the replies of items, told from the newest
told_first : (past : List WrittenItem) (item : WrittenItem) → replies_told (past ++ item ∷ [])
    ≡ replies_by item ++ replies_told past
told_first [] item = sym (append-nil (replies_by item))
told_first (one ∷ past) item = ap (λ told. told ++ replies_by one) (told_first past item)
    ∙ append_assoc (replies_by item) (replies_told past) (replies_by one)

told_all : (items : List WrittenItem) → replies_told (reverse items) ≡ replies_of items
told_all [] = refl
told_all (item ∷ items) = ap replies_told (reverse-append (item ∷ []) items)
    ∙ told_first (reverse items) item ∙ ap (λ told. replies_by item ++ told) (told_all items)

pub agreement : (account : Account) (contents : Contents) (items : List WrittenItem)
    → Agrees account contents (reverse items)
    ↔ (IsLegal account contents (reverse items) × AreRepliesAlone account contents items)
agreement account contents items = (
  λ h.
      let all = answered account contents (reverse items) h in
      (legal account contents (reverse items) h, (all.answers, all.alone, sym (told_all items) ∙ all.told)),
  λ h. agrees account contents (reverse items) h.1.0 h.0 h.1.1 (told_all items ∙ h.1.2),
)
