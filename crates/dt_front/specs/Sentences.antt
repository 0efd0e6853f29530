-- The sentence that says why a line was refused.
use Rattle.std.specs.Prelude.{ℕ, ◌==◌, List, [], ◌++◌, codes, decimal, Option, Some, None, if◌then◌else◌}
use Rattle.std.specs.Str.{bytes_eq}
use Rattle.dt_front.specs.Escaping.{shown}
use Rattle.dt_front.specs.Refusals.{RefusalForm}

-- the words before the clause or the name that a sentence tells, and those after it
pub record SentenceWords : Type 0 where
  pub before : List ℕ
  pub after : List ℕ

abbrev pub words_around : List ℕ → List ℕ → SentenceWords
words_around before after = record { before = before; after = after }

-- what is wrong with a program's text
abbrev pub flaw : Option (List ℕ) → List ℕ
flaw None = codes "this is no program"
flaw (Some why) =
    if bytes_eq why (codes "Syntax") then codes "syntax error: no program goes on like this"
    else if bytes_eq why (codes "Probe") then codes "this describes no probe: a description has one to four fields of patterns, as syscall::read:entry"
    else if bytes_eq why (codes "Action") then codes "no action or aggregating function is called so"
    else if bytes_eq why (codes "Variable") then codes "no variable is called so"
    else if bytes_eq why (codes "TooLong") then codes "this is too long, or one more than there may be"
    else if bytes_eq why (codes "Range") then codes "these bounds make no levels: the lower is below the upper, the step divides the range, 512 levels at most"
    else if bytes_eq why (codes "Spec") then codes "this doesn't go with an earlier statement of its clause: put speculate first, once and without exit and aggregations, and commit into a clause of its own"
    else codes "this is no program"

-- the words by the refusal's number, and those for a program's text by what is wrong with it
abbrev pub sentence_words : ℕ → Option (List ℕ) → SentenceWords
sentence_words number why =
    if number == 3 then words_around (codes "the program is too long for a line of 65,536 bytes") []
    else if number == 4 then words_around (flaw why) []
    else if number == 5 then words_around (codes "clause ") (codes " matches no probe that this account may enable")
    else if number == 6 then words_around (codes "clause ") (codes " records a kernel stack, which wants the privilege dtrace_kernel")
    else if number == 7 then words_around (codes "the action ") (codes " is destructive, and no program may say it")
    else if number == 8 then words_around (codes "the aggregation @") (codes " is used with another function, other bounds or other kinds of keys elsewhere")
    else if number == 9 then words_around (codes "there is no room: 1,024 enablings, 64 aggregations, or under fill the bytes of a buffer for END's records") []
    else if number == 10 then words_around (codes "this can't be asked while tracing stands as it does") []
    else if number == 11 then words_around (codes "no option is called so or takes this value: bufsize or histsize (1 to 1048576), bufpolicy (switch, fill, ring), aggsize (8 to 1048576), dynvarsize (32 to 1048576), nspec (1 to 64), specsize (4 to 65536)") []
    else if number == 15 then words_around (codes "the session's 1,024 lines are spent") []
    else if number == 16 then words_around (codes "the service has no memory for this now; try again") []
    else if number == 17 then words_around (codes "all seats of the service are taken; try again later") []
    else if number == 18 then words_around (codes "this account has no privilege to trace") []
    else words_around (codes "the service didn't understand dtr: are both of one version?") []

-- what a sentence tells: a clause's number, or else the name of what is refused
abbrev pub subject : Option ℕ → Option (List ℕ) → List ℕ
subject (Some clause) what = decimal clause
subject None (Some what) = shown what
subject None None = []

-- the sentence of a refusal, and a newline
abbrev pub sentence : RefusalForm → List ℕ
sentence refusal =
    (sentence_words refusal.number refusal.why).before ++ subject refusal.clause refusal.what ++ (sentence_words refusal.number refusal.why).after ++ codes "\n"
