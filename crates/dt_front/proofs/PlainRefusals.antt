-- What is printed of refusals is plain lines.
use Rattle.std.proofs.Common.{ℕ, zero, suc, ◌-◌, ◌*◌, ◌/◌, ◌<◌, ◌^◌, ◌==◌, ◌++◌, List, [], ◌∷◌, Option, Some, None, length, take, drop, refl}
use Rattle.std.specs.Prelude.{IfSome, codes}
use Rattle.std.specs.Str.{bytes_eq}
use Rattle.std.specs.List.{position_or_len}
use Rattle.std.proofs.lemmas.List.Elements.{All-drop, All-nil, All-take}
use Rattle.dt_names.specs.Bytes.{newline}
use Rattle.dt_front.specs.Columns.{blanks}
use Rattle.dt_front.specs.Escaping.{AreBytes, ArePlainLines, IsPlainOrNewline, shown}
use Rattle.dt_front.specs.Printed.{IsPrintedRefusal}
use Rattle.dt_front.specs.Refusals.{RefusalForm, before_place, caret_column, caret_text, columns_left, from_place, full_rows, in_rows, marked_line, rest_line, tail_length}
use Rattle.dt_front.specs.Sentences.{SentenceWords, words_around, flaw, sentence, subject, sentence_words}
use Rattle.dt_front.proofs.Lines.{blank_lines, chosen, decimal_lines, glued, joined, shown_lines, tested}

-- both parts of a sentence's words are plain lines
record ArePlainWords (words : SentenceWords) : Type 0 where
  before : ArePlainLines words.before
  after : ArePlainLines words.after

flaw_lines : (why : Option (List ℕ)) → ArePlainLines (flaw why)
flaw_lines None = tested (codes "this is no program") refl
flaw_lines (Some why) =
    chosen ArePlainLines (bytes_eq why (codes "Syntax")) _ _ (tested (codes "syntax error: no program goes on like this") refl) (
    chosen ArePlainLines (bytes_eq why (codes "Probe")) _ _ (tested (codes "this describes no probe: a description has one to four fields of patterns, as syscall::read:entry") refl) (
    chosen ArePlainLines (bytes_eq why (codes "Action")) _ _ (tested (codes "no action or aggregating function is called so") refl) (
    chosen ArePlainLines (bytes_eq why (codes "Variable")) _ _ (tested (codes "no variable is called so") refl) (
    chosen ArePlainLines (bytes_eq why (codes "TooLong")) _ _ (tested (codes "this is too long, or one more than there may be") refl) (
    chosen ArePlainLines (bytes_eq why (codes "Range")) _ _ (tested (codes "these bounds make no levels: the lower is below the upper, the step divides the range, 512 levels at most") refl) (
    chosen ArePlainLines (bytes_eq why (codes "Spec")) _ _ (tested (codes "this doesn't go with an earlier statement of its clause: put speculate first, once and without exit and aggregations, and commit into a clause of its own") refl) (
    tested (codes "this is no program") refl)))))))

written : (before after : List ℕ) → ArePlainLines before → ArePlainLines after → ArePlainWords (words_around before after)
written before after first second = record { before = first; after = second }

alone : (text : List ℕ) → ArePlainLines text → ArePlainWords (words_around text [])
alone text are = written text [] are (All-nil IsPlainOrNewline)

words_plain : (number : ℕ) (why : Option (List ℕ)) → ArePlainWords (sentence_words number why)
words_plain number why =
    chosen ArePlainWords (number == 3) _ _ (alone (codes "the program is too long for a line of 65,536 bytes") (tested (codes "the program is too long for a line of 65,536 bytes") refl)) (
    chosen ArePlainWords (number == 4) _ _ (alone (flaw why) (flaw_lines why)) (
    chosen ArePlainWords (number == 5) _ _ (written (codes "clause ") (codes " matches no probe that this account may enable") (tested (codes "clause ") refl) (tested (codes " matches no probe that this account may enable") refl)) (
    chosen ArePlainWords (number == 6) _ _ (written (codes "clause ") (codes " records a kernel stack, which wants the privilege dtrace_kernel") (tested (codes "clause ") refl) (tested (codes " records a kernel stack, which wants the privilege dtrace_kernel") refl)) (
    chosen ArePlainWords (number == 7) _ _ (written (codes "the action ") (codes " is destructive, and no program may say it") (tested (codes "the action ") refl) (tested (codes " is destructive, and no program may say it") refl)) (
    chosen ArePlainWords (number == 8) _ _ (written (codes "the aggregation @") (codes " is used with another function, other bounds or other kinds of keys elsewhere") (tested (codes "the aggregation @") refl) (tested (codes " is used with another function, other bounds or other kinds of keys elsewhere") refl)) (
    chosen ArePlainWords (number == 9) _ _ (alone (codes "there is no room: 1,024 enablings, 64 aggregations, or under fill the bytes of a buffer for END's records") (tested (codes "there is no room: 1,024 enablings, 64 aggregations, or under fill the bytes of a buffer for END's records") refl)) (
    chosen ArePlainWords (number == 10) _ _ (alone (codes "this can't be asked while tracing stands as it does") (tested (codes "this can't be asked while tracing stands as it does") refl)) (
    chosen ArePlainWords (number == 11) _ _ (alone (codes "no option is called so or takes this value: bufsize or histsize (1 to 1048576), bufpolicy (switch, fill, ring), aggsize (8 to 1048576), dynvarsize (32 to 1048576), nspec (1 to 64), specsize (4 to 65536)") (tested (codes "no option is called so or takes this value: bufsize or histsize (1 to 1048576), bufpolicy (switch, fill, ring), aggsize (8 to 1048576), dynvarsize (32 to 1048576), nspec (1 to 64), specsize (4 to 65536)") refl)) (
    chosen ArePlainWords (number == 15) _ _ (alone (codes "the session's 1,024 lines are spent") (tested (codes "the session's 1,024 lines are spent") refl)) (
    chosen ArePlainWords (number == 16) _ _ (alone (codes "the service has no memory for this now; try again") (tested (codes "the service has no memory for this now; try again") refl)) (
    chosen ArePlainWords (number == 17) _ _ (alone (codes "all seats of the service are taken; try again later") (tested (codes "all seats of the service are taken; try again later") refl)) (
    chosen ArePlainWords (number == 18) _ _ (alone (codes "this account has no privilege to trace") (tested (codes "this account has no privilege to trace") refl)) (
    alone (codes "the service didn't understand dtr: are both of one version?") (tested (codes "the service didn't understand dtr: are both of one version?") refl))))))))))))))

subject_lines : (clause : Option ℕ) (what : Option (List ℕ)) → IfSome clause (λ n. n < 2 ^ 64) → IfSome what AreBytes → ArePlainLines (subject clause what)
subject_lines (Some clause) what small are = decimal_lines clause small
subject_lines None (Some what) small are = shown_lines what are
subject_lines None None small are = All-nil IsPlainOrNewline

pub sentence_lines : (refusal : RefusalForm) → IsPrintedRefusal refusal → ArePlainLines (sentence refusal)
sentence_lines refusal is =
    let words = words_plain refusal.number refusal.why in
    let both = sentence_words refusal.number refusal.why in
    glued both.before (subject refusal.clause refusal.what ∷ both.after ∷ codes "\n" ∷ []) words.before
    (subject_lines refusal.clause refusal.what is.0 is.1, (words.after, (tested (codes "\n") refl, tt)))

rest_lines : (bytes : List ℕ) → ArePlainLines bytes → ArePlainLines (rest_line bytes)
rest_lines bytes are =
    chosen ArePlainLines (length bytes == 0) [] (bytes ++ codes "\n") (All-nil IsPlainOrNewline) (joined bytes (codes "\n") are (tested (codes "\n") refl))

full_lines : (page : ℕ) (text : List ℕ) (rows : ℕ) → ArePlainLines text → ArePlainLines (full_rows page text rows)
full_lines page text zero are = All-nil IsPlainOrNewline
full_lines page text (suc row) are =
    glued (full_rows page text row) (take page (drop (row * page) text) ∷ codes "\n" ∷ []) (full_lines page text row are) (
      All-take IsPlainOrNewline page (drop (row * page) text) (All-drop IsPlainOrNewline (row * page) text are),
      (tested (codes "\n") refl, tt),
    )

rows_lines : (page : ℕ) (text : List ℕ) → ArePlainLines text → ArePlainLines (in_rows page text)
rows_lines page text are =
    let rows = length text / page in
    joined (full_rows page text rows) (drop (rows * page) text) (full_lines page text rows are) (All-drop IsPlainOrNewline (rows * page) text are)

marked_lines : (page : ℕ) (before from : List ℕ) → ArePlainLines before → ArePlainLines from → ArePlainLines (marked_line page before from)
marked_lines page before from first second =
    let left = columns_left page (length before) in
    let column = caret_column page (length before) in
    glued (in_rows page before) (take left from ∷ codes "\n" ∷ blanks column ∷ codes "^\n" ∷ rest_line (drop left from) ∷ []) (rows_lines page before first) (
      All-take IsPlainOrNewline left from second,
      (
        tested (codes "\n") refl,
        (
          blank_lines column,
          (tested (codes "^\n") refl, (rest_lines (drop left from) (All-drop IsPlainOrNewline left from second), tt)),
        ),
      ),
    )

pub caret_lines : (page : ℕ) (text : List ℕ) (at : ℕ) → AreBytes text → ArePlainLines (caret_text page text at)
caret_lines page text at are =
    let head = take at text in
    let before_are : AreBytes (before_place text at) =
    All-drop (λ b. b < 256) (length head - tail_length head) head (All-take (λ b. b < 256) at text are) in
    let from_are : AreBytes (from_place text at) =
    All-take (λ b. b < 256) (position_or_len (λ b. b == newline) (drop at text)) (drop at text) (All-drop (λ b. b < 256) at text are) in
    marked_lines page (codes "    " ++ shown (before_place text at)) (shown (from_place text at))
    (joined (codes "    ") (shown (before_place text at)) (tested (codes "    ") refl) (shown_lines (before_place text at) before_are))
    (shown_lines (from_place text at) from_are)
