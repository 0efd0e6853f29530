-- What was served, with firings more, a line that was refused, or a line that was taken.
use Rattle.std.proofs.Common.{◌≡◌, ℕ, suc, ◌+◌, ◌==◌, Bool, true, false, List, [], ◌∷◌, ◌++◌, Option, Some, None, length, map, filter, refl, sym, ap, ◌∙◌, subst, append_assoc, arith}
use Rattle.std.proofs.lemmas.List.{append-nil, append_cancel_left, length-append, length-map, map-append}
use Rattle.std.proofs.lemmas.List.Elements.{filter-append}
use Rattle.std.proofs.lemmas.Grind.{flat_map-append}
use Rattle.std.proofs.lemmas.Bool.Decides.{nat_tests}
use Rattle.std.specs.Option.{option_map, option_to_list}
use Rattle.std.specs.List.{flat_map}
use Rattle.dt_cred.specs.declared.account.Account.{Account}
use Rattle.dt_cred.specs.declared.firing.Firing.{Firing}
use Rattle.dt_legal.specs.Rows.{IsLegalRow, life_of_row, line_form_of, past_of, told_as}
use Rattle.dt_legal.specs.laws.Beginning.{past_of_both, past_of_last}
use Rattle.dt_legal.specs.laws.Following.{line_follows}
use Rattle.dt_life.specs.Answer.{Answer}
use Rattle.dt_life.specs.Life.{is_over}
use Rattle.dt_life.specs.Reply.{Replies}
use Rattle.dt_machine.specs.Registry.{Contents, firing_at}
use Rattle.dt_proto.specs.Alone.{Reached, own_line, firing_made, Alone}
use Rattle.dt_proto.specs.Line.{ask_in}
use Rattle.dt_proto.specs.Lines.{LineForm}
use Rattle.dt_proto.specs.Reply.{reply_text}
use Rattle.dt_proto.specs.Told.{view_by}
use Rattle.dt_proto.specs.Legal.{reached_by}
use Rattle.dt_proto.specs.laws.Legal.{lives}
use Rattle.dt_server.specs.Served.{IsServed, closes, taken_lines, lines_in, memory_text, woven}
use Rattle.dt_trail.specs.Items.{TrailItem, line, long_line, fired, own, whose}

-- how many lines were taken
pub trues : List Bool → ℕ
trues [] = 0
trues (true ∷ more) = suc (trues more)
trues (false ∷ more) = trues more

length-taken_lines : (taken : List Bool) (lines : List LineForm) → length taken ≡ length lines → length (taken_lines taken lines) ≡ trues taken
unfolding trues
length-taken_lines [] lines e = refl
length-taken_lines (t ∷ taken) [] e = absurd (omega (arith, e))
length-taken_lines (true ∷ taken) (one ∷ lines) e = ap suc (length-taken_lines taken lines (omega (arith, e)))
length-taken_lines (false ∷ taken) (one ∷ lines) e = length-taken_lines taken lines (omega (arith, e))

pub kept-taken : (taken : List Bool) (lines : List LineForm) (form : LineForm) → length taken ≡ length lines
    → taken_lines (taken ++ true ∷ []) (lines ++ form ∷ []) ≡ taken_lines taken lines ++ form ∷ []
kept-taken [] [] form e = refl
kept-taken [] (one ∷ lines) form e = absurd (omega (arith, e))
kept-taken (t ∷ taken) [] form e = absurd (omega (arith, e))
kept-taken (true ∷ taken) (one ∷ lines) form e = ap (λ l. one ∷ l) (kept-taken taken lines form (omega (arith, e)))
kept-taken (false ∷ taken) (one ∷ lines) form e = kept-taken taken lines form (omega (arith, e))

kept-refused : (taken : List Bool) (lines : List LineForm) (form : LineForm) → length taken ≡ length lines
    → taken_lines (taken ++ false ∷ []) (lines ++ form ∷ []) ≡ taken_lines taken lines
kept-refused [] [] form e = refl
kept-refused [] (one ∷ lines) form e = absurd (omega (arith, e))
kept-refused (t ∷ taken) [] form e = absurd (omega (arith, e))
kept-refused (true ∷ taken) (one ∷ lines) form e = ap (λ l. one ∷ l) (kept-refused taken lines form (omega (arith, e)))
kept-refused (false ∷ taken) (one ∷ lines) form e = kept-refused taken lines form (omega (arith, e))

woven-refused : (taken : List Bool) (replies : List (List ℕ)) → woven (taken ++ false ∷ []) replies ≡ woven taken replies ++ memory_text
woven-refused [] replies = append-nil memory_text
woven-refused (true ∷ taken) [] = woven-refused taken []
woven-refused (true ∷ taken) (reply ∷ replies) =
    ap (λ t. reply ++ t) (woven-refused taken replies) ∙ sym (append_assoc reply (woven taken replies) memory_text)
woven-refused (false ∷ taken) replies =
    ap (λ t. memory_text ++ t) (woven-refused taken replies) ∙ sym (append_assoc memory_text (woven taken replies) memory_text)

pub woven-taken : (taken : List Bool) (replies : List (List ℕ)) (reply : List ℕ) → trues taken ≡ length replies
    → woven (taken ++ true ∷ []) (replies ++ reply ∷ []) ≡ woven taken replies ++ reply
unfolding trues
woven-taken [] [] reply e = append-nil reply
woven-taken [] (other ∷ replies) reply e = absurd (omega (arith, e))
woven-taken (true ∷ taken) [] reply e = absurd (omega (arith, e))
woven-taken (true ∷ taken) (other ∷ replies) reply e =
    ap (λ t. other ++ t) (woven-taken taken replies reply (omega (arith, e))) ∙ sym (append_assoc other (woven taken replies) reply)
woven-taken (false ∷ taken) replies reply e =
    ap (λ t. memory_text ++ t) (woven-taken taken replies reply e) ∙ sym (append_assoc memory_text (woven taken replies) reply)

pub one_more : (taken : List Bool) (lines : List LineForm) (t : Bool) (form : LineForm) → length taken ≡ length lines
    → length (taken ++ t ∷ []) ≡ length (lines ++ form ∷ [])
one_more taken lines t form e = length-append taken (t ∷ []) ∙ ap (λ n. n + 1) e ∙ sym (length-append lines (form ∷ []))

-- a line stands among a row's lines as the last
own_line_last : (items : List TrailItem) (item : TrailItem) → whose item ≡ 0 → own 0 (items ++ item ∷ []) ≡ own 0 items ++ item ∷ []
own_line_last items item mine = filter-append (λ x. whose x == 0) items (item ∷ []) ∙ ap (λ l. own 0 items ++ l) (rw mine refl)

pub lines_last : (items : List TrailItem) (item : TrailItem) → whose item ≡ 0
    → lines_in (items ++ item ∷ []) ≡ lines_in items ++ line_form_of item ∷ []
lines_last items item mine = ap (map line_form_of) (own_line_last items item mine) ∙ map-append line_form_of (own 0 items) (item ∷ [])

-- what is longer by no line has firings more alone
none_own : (xs ys : List TrailItem) → own 0 (xs ++ ys) ≡ own 0 xs → own 0 ys ≡ []
none_own xs ys e =
    append_cancel_left (own 0 xs) (own 0 ys) [] (sym (filter-append (λ x. whose x == 0) xs ys) ∙ e ∙ sym (append-nil (own 0 xs)))

-- a firing is no line
no_line : (cpu place : ℕ) (rest : List TrailItem) → own 0 (fired cpu place ∷ rest) ≡ own 0 rest
no_line cpu place rest = let no : (cpu + 1 == 0) ≡ false = grind (arith, nat_tests) in rw no refl

-- the view of a row with an item more
view_last : (contents : Contents) (items : List TrailItem) (item : TrailItem)
    → view_by contents (map told_as (items ++ item ∷ [])) ≡ reached_by contents (told_as item) ++ view_by contents (map told_as items)
view_last contents items item = ap (flat_map (reached_by contents)) (past_of_last items item)

-- how many lines are in a view
asks : List Reached → ℕ
asks [] = 0
asks (own_line form ∷ view) = suc (asks view)
asks (firing_made firing ∷ view) = asks view

asks_both : (xs ys : List Reached) → asks (xs ++ ys) ≡ asks xs + asks ys
unfolding asks
asks_both [] ys = omega arith
asks_both (own_line form ∷ xs) ys = let more = asks_both xs ys in omega (arith, more)
asks_both (firing_made firing ∷ xs) ys = asks_both xs ys

firing_is_no_line : (found : Option Firing) → asks (option_to_list (option_map firing_made found)) ≡ 0
unfolding asks
firing_is_no_line None = refl
firing_is_no_line (Some firing) = refl

-- the view of a row that begins with an item
view_first : (contents : Contents) (item : TrailItem) (items : List TrailItem)
    → view_by contents (map told_as (item ∷ items)) ≡ view_by contents (map told_as items) ++ reached_by contents (told_as item)
view_first contents item items =
    ap (flat_map (reached_by contents)) (past_of_both (item ∷ []) items)
    ∙ flat_map-append (reached_by contents) (past_of items) (told_as item ∷ [])
    ∙ ap (λ l. view_by contents (map told_as items) ++ l) (append-nil (reached_by contents (told_as item)))

asks_first : (contents : Contents) (item : TrailItem) (items : List TrailItem)
    → asks (view_by contents (map told_as (item ∷ items))) ≡ asks (view_by contents (map told_as items)) + asks (reached_by contents (told_as item))
asks_first contents item items =
    ap asks (view_first contents item items) ∙ asks_both (view_by contents (map told_as items)) (reached_by contents (told_as item))

-- a view asks as many lines as its row has
asks_lines : (contents : Contents) (items : List TrailItem) → asks (view_by contents (map told_as items)) ≡ length (own 0 items)
unfolding asks
asks_lines contents [] = refl
asks_lines contents (line bytes ∷ items) =
    let first = asks_first contents (line bytes) items in
    let more = asks_lines contents items in
    omega (arith, first, more)
asks_lines contents (long_line ∷ items) =
    let first = asks_first contents long_line items in
    let more = asks_lines contents items in
    omega (arith, first, more)
asks_lines contents (fired cpu place ∷ items) =
    let first = asks_first contents (fired cpu place) items in
    let none = firing_is_no_line (firing_at contents.scripts cpu place) in
    let more = asks_lines contents items in
    ap asks (view_first contents (fired cpu place) items)
    ∙ asks_both (view_by contents (map told_as items)) (option_to_list (option_map firing_made (firing_at contents.scripts cpu place)))
    ∙ let e : asks (view_by contents (map told_as items)) + asks (option_to_list (option_map firing_made (firing_at contents.scripts cpu place)))
    ≡ length (own 0 items) = omega (arith, none, more) in e ∙ ap length (sym (no_line cpu place items))

module _ (account : Account) (contents : Contents) where
  abbrev AreAlone : List TrailItem → List Answer → Type 0
  AreAlone items answers = Alone account contents.registry (view_by contents (map told_as items)) answers

  -- a firing asks nothing, nor does a place where no firing is
  firing_asks_nothing : (view : List Reached) (answers : List Answer) (found : Option Firing)
      → Alone account contents.registry view answers
      → Alone account contents.registry (option_to_list (option_map firing_made found) ++ view) answers
  firing_asks_nothing view answers None h = h
  firing_asks_nothing view answers (Some firing) h = h

  alone_fired : (items : List TrailItem) (cpu place : ℕ) (answers : List Answer) → AreAlone items answers
      → AreAlone (items ++ fired cpu place ∷ []) answers
  alone_fired items cpu place answers h =
      let P : List Reached → Type 0 = λ view. Alone account contents.registry view answers in
      subst P (sym (view_last contents items (fired cpu place)))
      (firing_asks_nothing (view_by contents (map told_as items)) answers (firing_at contents.scripts cpu place) h)

  -- firings more are answered nothing
  alone_longer : (items rest : List TrailItem) (answers : List Answer) → own 0 rest ≡ [] → AreAlone items answers
      → AreAlone (items ++ rest) answers
  alone_longer items [] answers none h =
      let P : List TrailItem → Type 0 = λ l. AreAlone l answers in subst P (sym (append-nil items)) h
  alone_longer items (line bytes ∷ rest) answers none h = absurd (cc none)
  alone_longer items (long_line ∷ rest) answers none h = absurd (cc none)
  alone_longer items (fired cpu place ∷ rest) answers none h =
      let P : List TrailItem → Type 0 = λ l. AreAlone l answers in
      let left : own 0 rest ≡ [] = sym (no_line cpu place rest) ∙ none in
      subst P (append_assoc items (fired cpu place ∷ []) rest)
      (alone_longer (items ++ fired cpu place ∷ []) rest answers left (alone_fired items cpu place answers h))

  -- as many answers as lines
  answers_count : (view : List Reached) (answers : List Answer) → Alone account contents.registry view answers
      → length answers ≡ asks view
  unfolding asks
  answers_count [] answers h = ap length h
  answers_count (own_line form ∷ view) answers h =
      ap length h.4 ∙ length-append h.0 (h.1 ∷ []) ∙ let before = answers_count view h.0 h.2 in omega (arith, before)
  answers_count (firing_made firing ∷ view) answers h = answers_count view answers h

  pub served_count : (lines : List LineForm) (items : List TrailItem) (text : List ℕ) (s : IsServed account contents lines items text)
      → trues s.taken ≡ length (map reply_text s.answers)
  served_count lines items text s =
      sym (length-taken_lines s.taken lines s.each) ∙ sym (ap length s.own_lines) ∙ length-map (own 0 items) line_form_of
      ∙ sym (asks_lines contents items) ∙ sym (answers_count (view_by contents (map told_as items)) s.answers s.alone)
      ∙ sym (length-map s.answers reply_text)

  pub served_none : IsServed account contents [] [] []
  served_none = record { legal = tt; taken = []; each = refl; own_lines = refl; unclosed = refl; answers = []; alone = refl; text_is = refl }

  -- what was served, with firings more
  pub served_longer : (lines : List LineForm) (items rest : List TrailItem) (text : List ℕ)
      → IsLegalRow account contents (items ++ rest) → own 0 (items ++ rest) ≡ own 0 items
      → IsServed account contents lines items text → IsServed account contents lines (items ++ rest) text
  served_longer lines items rest text legal same s = record {
    legal = legal;
    taken = s.taken;
    each = s.each;
    own_lines = ap (map line_form_of) same ∙ s.own_lines;
    unclosed = ap (λ l. filter closes (map line_form_of l)) same ∙ s.unclosed;
    answers = s.answers;
    alone = alone_longer items rest s.answers (none_own items rest same) s.alone;
    text_is = s.text_is;
  }

  -- no `close` among the lines, and none in one more
  unclosed_longer : (lines : List LineForm) (form : LineForm) → filter closes lines ≡ [] → closes form ≡ false
      → filter closes (lines ++ form ∷ []) ≡ []
  unclosed_longer lines form none stays = filter-append closes lines (form ∷ []) ∙ ap (λ l. l ++ filter closes (form ∷ [])) none ∙ rw stays refl

  pub served_refused : (lines : List LineForm) (items : List TrailItem) (text : List ℕ) (form : LineForm)
      → IsServed account contents lines items text
      → IsServed account contents (lines ++ form ∷ []) items (text ++ memory_text)
  served_refused lines items text form s = record {
    legal = s.legal;
    taken = s.taken ++ false ∷ [];
    each = one_more s.taken lines false form s.each;
    own_lines = s.own_lines ∙ sym (kept-refused s.taken lines form s.each);
    unclosed = s.unclosed;
    answers = s.answers;
    alone = s.alone;
    text_is = ap (λ t. t ++ memory_text) s.text_is ∙ sym (woven-refused s.taken (map reply_text s.answers));
  }

  -- the view of a row with a line more
  line_view : (items : List TrailItem) (item : TrailItem) → whose item ≡ 0
      → view_by contents (map told_as (items ++ item ∷ [])) ≡ own_line (line_form_of item) ∷ view_by contents (map told_as items)
  line_view items (line bytes) mine = view_last contents items (line bytes)
  line_view items long_line mine = view_last contents items long_line
  line_view items (fired cpu place) mine = absurd (omega (arith, mine))

  -- the answers to a row with a line more
  pub alone_asked : (items : List TrailItem) (item : TrailItem) (answers : List Answer) (answer : Answer) → whose item ≡ 0
      → IsLegalRow account contents items → AreAlone items answers
      → Replies account contents.registry (life_of_row account contents items) (ask_in (line_form_of item)) answer
      → AreAlone (items ++ item ∷ []) (answers ++ answer ∷ [])
  alone_asked items item answers answer mine legal h due =
      let P : List Reached → Type 0 = λ view. Alone account contents.registry view (answers ++ answer ∷ []) in
      subst P (sym (line_view items item mine))
      (answers, answer, h, (life_of_row account contents items, lives account contents (past_of items) legal, due), refl)

  -- what was served, with a line more, which was taken
  pub served_taken : (lines : List LineForm) (items : List TrailItem) (text : List ℕ) (item : TrailItem) (answer : Answer)
      → whose item ≡ 0 → is_over (life_of_row account contents items) ≡ false → closes (line_form_of item) ≡ false
      → Replies account contents.registry (life_of_row account contents items) (ask_in (line_form_of item)) answer
      → IsServed account contents lines items text
      → IsServed account contents (lines ++ line_form_of item ∷ []) (items ++ item ∷ []) (text ++ reply_text answer)
  served_taken lines items text item answer mine over stays due s = record {
    legal = (line_follows account contents items item mine s.legal over).0;
    taken = s.taken ++ true ∷ [];
    each = one_more s.taken lines true (line_form_of item) s.each;
    own_lines = lines_last items item mine ∙ ap (λ l. l ++ line_form_of item ∷ []) s.own_lines
        ∙ sym (kept-taken s.taken lines (line_form_of item) s.each);
    unclosed = ap (filter closes) (lines_last items item mine) ∙ unclosed_longer (lines_in items) (line_form_of item) s.unclosed stays;
    answers = s.answers ++ answer ∷ [];
    alone = alone_asked items item s.answers answer mine s.legal s.alone due;
    text_is = ap (λ t. t ++ reply_text answer) s.text_is
        ∙ sym (woven-taken s.taken (map reply_text s.answers) (reply_text answer) (served_count lines items text s))
        ∙ ap (woven (s.taken ++ true ∷ [])) (sym (map-append reply_text s.answers (answer ∷ [])));
  }
