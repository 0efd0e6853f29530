-- One line more, and one stretch after another.
use Rattle.std.proofs.Common.{◌≡◌, ℕ, ◌+◌, inl, inr, Bool, true, false, cond, List, [], ◌∷◌, ◌++◌, Option, Ok, length, take, drop, refl, sym, ap, ◌∙◌, subst, append_assoc}
use Rattle.std.proofs.Math.Seq.{take-append-add}
use Rattle.std.proofs.lemmas.List.{append-nil, take-append-drop}
use Rattle.std.specs.Prelude.{IfSome, IfNone, MatchBool, Result}
use Rattle.std.specs.Io.KnownBytes.{Appends}
use Rattle.dt_cred.specs.declared.account.Account.{Account}
use Rattle.dt_hub.specs.Asking.{answer_text}
use Rattle.dt_hub.specs.declared.answered.LineAnswer.{LineAnswer}
use Rattle.dt_hub.specs.declared.answered.LineAnswer.TheVariants as answer
use Rattle.dt_legal.specs.Rows.{IsLegalRow, life_of_row, line_form_of}
use Rattle.dt_legal.specs.laws.Following.{line_follows}
use Rattle.dt_life.specs.Acceptance.{is_close}
use Rattle.dt_life.specs.Answer.{Answer, refused}
use Rattle.dt_life.specs.Ask.{Ask, close}
use Rattle.dt_life.specs.Life.{Item, is_over}
use Rattle.dt_life.specs.Reply.{Replies, RepliesInQuota}
use Rattle.dt_life.specs.declared.refusal.Refusal.{Refusal}
use Rattle.dt_life.specs.declared.refusal.Refusal.TheVariants.{Quota as OverTheQuota}
use Rattle.dt_machine.specs.Registry.{Contents, Registry}
use Rattle.dt_proto.specs.HasRead.{HasRead, line_given}
use Rattle.dt_proto.specs.Line.{ask_in}
use Rattle.dt_proto.specs.Lines.{LineForm, lines_of, rest_of}
use Rattle.dt_proto.specs.Reply.{reply_text}
use Rattle.dt_proto.specs.declared.lines.Lines.{Lines}
use Rattle.dt_proto.specs.laws.Parts.{lines-append}
use Rattle.dt_seat.specs.Seats.{IsRepliedTo}
use Rattle.dt_seat.specs.declared.after_line.AfterLine.{AfterLine}
use Rattle.dt_seat.specs.declared.after_line.AfterLine.TheVariants as endings
use Rattle.dt_server.specs.declared.ended.Ended.{Ended}
use Rattle.dt_server.specs.declared.ended.Ended.TheVariants as ended
use Rattle.dt_server.specs.Served.{IsServed, IsClosed, IsPastQuota, IsCutOff, IsOver, HasServed, memory_text, quota_text}
use Rattle.dt_server.specs.Talk.{ComesOfAsking, ServesOn, ServesToEnd, ServesToEndWithin, IsTalk, IsOfLine, ended_after}
use Rattle.dt_server.proofs.Answering.{alone_asked, served_longer, served_none, served_refused, served_taken}
use Rattle.dt_trail.specs.Items.{TrailItem, own, whose}

-- one over the quota is so by it alone
over_quota : (over closes : Bool) → endings.OverQuota ≡ cond over endings.OverQuota (cond closes endings.Closes endings.GoesOn) → over ≡ true
over_quota true closes is = refl
over_quota false true is = absurd (cc is)
over_quota false false is = absurd (cc is)

goes_on_by : (over closes : Bool) → endings.GoesOn ≡ cond over endings.OverQuota (cond closes endings.Closes endings.GoesOn)
    → (over ≡ false) × (closes ≡ false)
goes_on_by true closes is = absurd (cc is)
goes_on_by false true is = absurd (cc is)
goes_on_by false false is = (refl, refl)

closes_by : (over closes : Bool) → endings.Closes ≡ cond over endings.OverQuota (cond closes endings.Closes endings.GoesOn)
    → (over ≡ false) × (closes ≡ true)
closes_by true closes is = absurd (cc is)
closes_by false true is = (refl, refl)
closes_by false false is = absurd (cc is)

refused_over : (account : Account) (registry : Registry) (life : List Item) (line : Result Ask Refusal) (a : Answer)
    → is_over life ≡ true → Replies account registry life line a → a ≡ refused OverTheQuota
refused_over account registry life line a over h =
    let P : Bool → Type 0 = λ b. MatchBool b (a ≡ refused OverTheQuota) (RepliesInQuota account registry life line a) in
    subst P over h

close_from : (line : Result Ask Refusal) → is_close line ≡ true → line ≡ Ok close
close_from (Ok close) h = refl
close_from _ h = cc

module _ (account : Account) (contents : Contents) where
  abbrev lived : List TrailItem → List Item
  lived row = life_of_row account contents row

  -- what was served before the line, and what the session then knew
  record IsMet (lines : List LineForm) (known : List TrailItem) (item : TrailItem) (text reply : List ℕ) (end : AfterLine) (after : List TrailItem) : Type 0 where
    served_before : IsServed account contents lines known text
    replied : IsRepliedTo contents account known item reply end after

  -- the firings that came before the line
  before_line : (lines : List LineForm) (known after : List TrailItem) (item : TrailItem) (text reply : List ℕ) (end : AfterLine)
      → (m : IsMet lines known item text reply end after) → IsServed account contents lines m.replied.trail text
  before_line lines known after item text reply end m =
      let r = m.replied in
      let P : List TrailItem → Type 0 = λ l. IsServed account contents lines l text in
      let legal : IsLegalRow account contents (known ++ r.begins.0) = subst (IsLegalRow account contents) r.begins.1 r.legal in
      let same : own 0 (known ++ r.begins.0) ≡ own 0 known = sym (ap (own 0) r.begins.1) ∙ r.lines in
      subst P (sym r.begins.1) (served_longer account contents lines known r.begins.0 text legal same m.served_before)

  -- a line after which the session goes on is the last item, and its reply the last of the text
  line_taken : (lines : List LineForm) (known after : List TrailItem) (item : TrailItem) (text reply : List ℕ)
      → whose item ≡ 0 → IsMet lines known item text reply endings.GoesOn after
      → IsServed account contents (lines ++ line_form_of item ∷ []) after (text ++ reply)
  line_taken lines known after item text reply mine m =
      let r = m.replied in
      let within = goes_on_by (is_over (lived r.trail)) (is_close (ask_in (line_form_of item))) r.ending_is in
      let served = before_line lines known after item text reply endings.GoesOn m in
      let is : after ≡ r.trail ++ item ∷ [] = r.after_is ∙ ap (λ b. cond b r.trail (r.trail ++ item ∷ [])) within.0 in
      let P : List TrailItem → Type 0 = λ l. IsServed account contents (lines ++ line_form_of item ∷ []) l (text ++ reply) in
      let Q : List ℕ → Type 0 = λ t. IsServed account contents (lines ++ line_form_of item ∷ []) (r.trail ++ item ∷ []) (text ++ t) in
      subst P (sym is) (subst Q (sym r.due.2)
      (served_taken account contents lines r.trail text item r.due.0 mine within.0 within.1 r.due.1 served))

  -- a `close` is the last item
  line_closes : (lines : List LineForm) (known after : List TrailItem) (item : TrailItem) (text reply : List ℕ)
      → whose item ≡ 0 → (m : IsMet lines known item text reply endings.Closes after)
      → IsClosed account contents (lines ++ line_form_of item ∷ []) after (text ++ reply)
  line_closes lines known after item text reply mine m =
      let r = m.replied in
      let by = closes_by (is_over (lived r.trail)) (is_close (ask_in (line_form_of item))) r.ending_is in
      let served = before_line lines known after item text reply endings.Closes m in
      let is : after ≡ r.trail ++ item ∷ [] = r.after_is ∙ ap (λ b. cond b r.trail (r.trail ++ item ∷ [])) by.0 in
      let P : List TrailItem → Type 0 = λ l. IsClosed account contents (lines ++ line_form_of item ∷ []) l (text ++ reply) in
      subst P (sym is) (record {
        before = lines;
        earlier = r.trail;
        told = text;
        served = served;
        item = item;
        mine = mine;
        lines_are = refl;
        items_are = refl;
        closes = (by.0, close_from (ask_in (line_form_of item)) by.1);
        legal = (line_follows account contents r.trail item mine served.legal by.0).0;
        answer = r.due.0;
        alone = alone_asked account contents r.trail item served.answers r.due.0 mine served.legal served.alone r.due.1;
        text_is = ap (λ t. text ++ t) r.due.2;
      })

  -- a line over the quota is no part of the trail
  line_over : (lines : List LineForm) (known after : List TrailItem) (item : TrailItem) (text reply : List ℕ)
      → (m : IsMet lines known item text reply endings.OverQuota after)
      → IsPastQuota account contents (lines ++ line_form_of item ∷ []) after (text ++ reply)
  line_over lines known after item text reply m =
      let r = m.replied in
      let over = over_quota (is_over (lived r.trail)) (is_close (ask_in (line_form_of item))) r.ending_is in
      let is : after ≡ r.trail = r.after_is ∙ ap (λ b. cond b r.trail (r.trail ++ item ∷ [])) over in
      let said : reply ≡ quota_text =
      r.due.2 ∙ ap reply_text (refused_over account contents.registry (lived r.trail) (ask_in (line_form_of item)) r.due.0 over r.due.1) in
      let P : List TrailItem → Type 0 = λ l. IsPastQuota account contents (lines ++ line_form_of item ∷ []) l (text ++ reply) in
      subst P (sym is) (record {
        before = lines;
        line = line_form_of item;
        lines_are = refl;
        over = over;
        told = text;
        served = before_line lines known after item text reply endings.OverQuota m;
        text_is = ap (λ t. text ++ t) said;
      })

  -- what is written after this answer to the last line
  abbrev IsTold : LineAnswer → List LineForm → List TrailItem → List ℕ → Type 0
  IsTold (answer.Reply bytes) lines items text = IsServed account contents lines items text
  IsTold (answer.Closed bytes) lines items text = IsClosed account contents lines items text
  IsTold (answer.Quota bytes) lines items text = IsPastQuota account contents lines items text
  IsTold answer.Memory lines items text = IsServed account contents lines items text

  pub told : (said : LineAnswer) (lines : List LineForm) (known after : List TrailItem) (text : List ℕ) (form : LineForm)
      → IsServed account contents lines known text → ComesOfAsking account contents known form said after
      → IsTold said (lines ++ form ∷ []) after (text ++ answer_text said)
  told (answer.Reply bytes) lines known after text form s a =
      let m : IsMet lines known a.0 text bytes.items endings.GoesOn after = record { served_before = s; replied = a.3 } in
      let P : LineForm → Type 0 = λ f. IsServed account contents (lines ++ f ∷ []) after (text ++ bytes.items) in
      subst P a.2 (line_taken lines known after a.0 text bytes.items a.1 m)
  told (answer.Closed bytes) lines known after text form s a =
      let m : IsMet lines known a.0 text bytes.items endings.Closes after = record { served_before = s; replied = a.3 } in
      let P : LineForm → Type 0 = λ f. IsClosed account contents (lines ++ f ∷ []) after (text ++ bytes.items) in
      subst P a.2 (line_closes lines known after a.0 text bytes.items a.1 m)
  told (answer.Quota bytes) lines known after text form s a =
      let m : IsMet lines known a.0 text bytes.items endings.OverQuota after = record { served_before = s; replied = a.3 } in
      let P : LineForm → Type 0 = λ f. IsPastQuota account contents (lines ++ f ∷ []) after (text ++ bytes.items) in
      subst P a.2 (line_over lines known after a.0 text bytes.items m)
  told answer.Memory lines known after text form s a =
      let P : List TrailItem → Type 0 = λ l. IsServed account contents lines l text in
      let legal : IsLegalRow account contents (known ++ a.0.0) = subst (IsLegalRow account contents) a.0.1 a.2 in
      let same : own 0 (known ++ a.0.0) ≡ own 0 known = sym (ap (own 0) a.0.1) ∙ a.1 in
      served_refused account contents lines after text form
      (subst P (sym a.0.1) (served_longer account contents lines known a.0.0 text legal same s))

  -- a beginning of the last answer
  pub cut : (said : LineAnswer) (lines : List LineForm) (items : List TrailItem) (text : List ℕ) (n : ℕ)
      → IsTold said lines items (text ++ answer_text said) → IsCutOff account contents lines items (text ++ take n (answer_text said))
  cut (answer.Reply bytes) lines items text n t =
      record { whole = text ++ bytes.items; due = inl t; count = length text + n; text_is = sym (take-append-add text bytes.items n) }
  cut (answer.Closed bytes) lines items text n t =
      record { whole = text ++ bytes.items; due = inr (inl t); count = length text + n; text_is = sym (take-append-add text bytes.items n) }
  cut (answer.Quota bytes) lines items text n t =
      record { whole = text ++ bytes.items; due = inr (inr t); count = length text + n; text_is = sym (take-append-add text bytes.items n) }
  cut answer.Memory lines items text n t =
      record { whole = text ++ memory_text; due = inl t; count = length text + n; text_is = sym (take-append-add text memory_text n) }

  -- one stretch after another
  pub on_and_on : (a b c : List TrailItem) (first second : List LineForm) (m n : List ℕ) → ServesOn account contents a b first m
      → ServesOn account contents b c second n → ServesOn account contents a c (first ++ second) (m ++ n)
  on_and_on a b c first second m n g h lines text s =
      let P : List LineForm → Type 0 = λ l. IsServed account contents l c (text ++ (m ++ n)) in
      let Q : List ℕ → Type 0 = λ t. IsServed account contents ((lines ++ first) ++ second) c t in
      subst P (append_assoc lines first second) (subst Q (append_assoc text m n) (h (lines ++ first) (text ++ m) (g lines text s)))

  pub on_and_end : (e : Ended) (a b c : List TrailItem) (first second : List LineForm) (m n : List ℕ) → ServesOn account contents a b first m
      → ServesToEnd account contents e b c second n → ServesToEnd account contents e a c (first ++ second) (m ++ n)
  on_and_end e a b c first second m n g h lines text s =
      let P : List LineForm → Type 0 = λ l. IsOver account contents e l c (text ++ (m ++ n)) in
      let Q : List ℕ → Type 0 = λ t. IsOver account contents e ((lines ++ first) ++ second) c t in
      subst P (append_assoc lines first second) (subst Q (append_assoc text m n) (h (lines ++ first) (text ++ m) (g lines text s)))

  pub goes_nowhere : (a : List TrailItem) → ServesOn account contents a a [] []
  goes_nowhere a lines text s =
      let P : List LineForm → Type 0 = λ l. IsServed account contents l a (text ++ []) in
      let Q : List ℕ → Type 0 = λ t. IsServed account contents lines a t in
      subst P (sym (append-nil lines)) (subst Q (sym (append-nil text)) s)

  -- an answer that was written whole
  pub answered_none : (said : LineAnswer) (before after : List TrailItem) (form : LineForm) (old new : Option (List ℕ))
      → ComesOfAsking account contents before form said after → Appends old new (answer_text said)
      → IfNone (ended_after said) ((text : List ℕ) × Appends old new text × ServesOn account contents before after (form ∷ []) text)
  answered_none (answer.Reply bytes) before after form old new a h =
      (bytes.items, h, λ lines text s. told (answer.Reply bytes) lines before after text form s a)
  answered_none (answer.Closed bytes) before after form old new a h = tt
  answered_none (answer.Quota bytes) before after form old new a h = tt
  answered_none answer.Memory before after form old new a h =
      (memory_text, h, λ lines text s. told answer.Memory lines before after text form s a)

  pub answered_some : (said : LineAnswer) (before after : List TrailItem) (form : LineForm) (old new : Option (List ℕ))
      → ComesOfAsking account contents before form said after → Appends old new (answer_text said)
      → IfSome (ended_after said) (λ e. (text : List ℕ) × Appends old new text × ServesToEnd account contents e before after (form ∷ []) text)
  answered_some (answer.Reply bytes) before after form old new a h = tt
  answered_some (answer.Closed bytes) before after form old new a h =
      (bytes.items, h, λ lines text s. told (answer.Closed bytes) lines before after text form s a)
  answered_some (answer.Quota bytes) before after form old new a h =
      (bytes.items, h, λ lines text s. told (answer.Quota bytes) lines before after text form s a)
  answered_some answer.Memory before after form old new a h = tt

  pub talk_ends : (e : Ended) (before after : List TrailItem) (lines : List LineForm) (text : List ℕ) → IsOfLine e
      → ServesToEndWithin account contents e before after lines text → IsTalk account contents e before after lines text
  talk_ends ended.Closed before after lines text k h = h
  talk_ends ended.Quota before after lines text k h = h
  talk_ends ended.WriteFault before after lines text k h = h
  talk_ends ended.EndOfInput before after lines text k h = absurd k
  talk_ends ended.ReadFault before after lines text k h = absurd k
  talk_ends ended.Memory before after lines text k h = absurd k

  within : (e : Ended) (after : List TrailItem) (lines : List LineForm) (text : List ℕ) → ServesToEndWithin account contents e [] after lines text
      → (asked : List LineForm) × (rest : List LineForm) × (lines ≡ asked ++ rest) × IsOver account contents e asked after text
  within e after lines text h = (h.0, h.1, h.2, h.3 [] [] (served_none account contents))

  -- what was served from the beginning on
  pub has_served : (e : Ended) (after : List TrailItem) (lines : List LineForm) (text : List ℕ)
      → IsTalk account contents e [] after lines text → HasServed account contents e lines after text
  has_served ended.Closed after lines text h = within ended.Closed after lines text h
  has_served ended.Quota after lines text h = within ended.Quota after lines text h
  has_served ended.WriteFault after lines text h = within ended.WriteFault after lines text h
  has_served ended.EndOfInput after lines text h = h [] [] (served_none account contents)
  has_served ended.ReadFault after lines text h = h [] [] (served_none account contents)
  has_served ended.Memory after lines text h = h

pub of_line : (said : LineAnswer) → IfSome (ended_after said) IsOfLine
of_line (answer.Reply bytes) = tt
of_line (answer.Closed bytes) = tt
of_line (answer.Quota bytes) = tt
of_line answer.Memory = tt

-- the lines up to a whole one are a beginning of the piece's
pub up_to : (input taken rest piece : List ℕ) (used : ℕ) (asked : List LineForm) (form : LineForm) → piece ≡ taken ++ rest
    → lines_of (input ++ taken) ≡ lines_of input ++ asked
    → lines_of ((input ++ taken) ++ take used rest) ≡ lines_of (input ++ taken) ++ form ∷ []
    → (more : List LineForm) × (lines_of (input ++ piece) ≡ lines_of input ++ (asked ++ form ∷ []) ++ more)
up_to input taken rest piece used asked form is before now =
    let front = (input ++ taken) ++ take used rest in
    let more = lines_of (rest_of front ++ drop used rest) in (
      more,
      ap (λ p. lines_of (input ++ p)) is ∙ ap lines_of (sym (append_assoc input taken rest))
          ∙ ap (λ r. lines_of ((input ++ taken) ++ r)) (sym (take-append-drop used rest))
          ∙ ap lines_of (sym (append_assoc (input ++ taken) (take used rest) (drop used rest)))
          ∙ lines-append front (drop used rest)
          ∙ ap (λ l. l ++ more) (now ∙ ap (λ l. l ++ form ∷ []) before ∙ append_assoc (lines_of input) asked (form ∷ [])),
    )

pub nothing_read : (input : List ℕ) (lines : Lines) → HasRead input lines
    → HasRead (input ++ []) lines × (lines_of (input ++ []) ≡ lines_of input ++ [])
nothing_read input lines read =
    let P : List ℕ → Type 0 = λ i. HasRead i lines in
    (subst P (sym (append-nil input)) read, ap lines_of (append-nil input) ∙ sym (append-nil (lines_of input)))

-- a feed that made a line whole, and one that didn't
pub line_whole : (all front : List LineForm) (whole : Bool) (held form : LineForm) → whole ≡ true → form ≡ held
    → all ≡ front ++ line_given whole held → all ≡ front ++ form ∷ []
line_whole all front whole held form w e h =
    h ∙ ap (λ b. front ++ line_given b held) w ∙ ap (λ (f : LineForm). front ++ f ∷ []) (sym e)

pub line_part : (all front : List LineForm) (whole : Bool) (held : LineForm) → whole ≡ false
    → all ≡ front ++ line_given whole held → all ≡ front
line_part all front whole held w h =
    h ∙ ap (λ b. front ++ line_given b held) w ∙ append-nil front

-- the lines of a longer beginning of the piece
pub read_lines : (input taken bytes : List ℕ) (lines : Lines) (asked more : List LineForm) → HasRead ((input ++ taken) ++ bytes) lines
    → lines_of (input ++ taken) ≡ lines_of input ++ asked
    → lines_of ((input ++ taken) ++ bytes) ≡ lines_of (input ++ taken) ++ more
    → HasRead (input ++ (taken ++ bytes)) lines × (lines_of (input ++ (taken ++ bytes)) ≡ lines_of input ++ (asked ++ more))
read_lines input taken bytes lines asked more read before now =
    let P : List ℕ → Type 0 = λ i. HasRead i lines in (
      subst P (append_assoc input taken bytes) read,
      ap lines_of (sym (append_assoc input taken bytes)) ∙ now ∙ ap (λ l. l ++ more) before ∙ append_assoc (lines_of input) asked more,
    )
