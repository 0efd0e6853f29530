-- The words that the language knows.
use Rattle.std.proofs.Common.{◌≡◌, ◌≢◌, ℕ, ◌≤◌, ◌<◌, ◌↔◌, inl, inr, true, leb, List, length, Option, Some, None, IsSome, IfSome, refl, sym, ap}
use Rattle.std.proofs.Common.{◌∙◌, subst, arith, leb-true}
use Rattle.std.proofs.lemmas.Bool.{cases_lt, false≢true}
use Rattle.std.specs.List.{All, Contains, list_all}
use Rattle.std.proofs.lemmas.List.Sums.{AllPass-from_list_all}
use Rattle.std.proofs.lemmas.List.Elements.{All-contains}
use Rattle.dt_names.specs.Limits.{name_max}
use Rattle.dt_names.specs.Name.{IsName}
use Rattle.dt_expr.specs.declared.scene.NumberVariable.{NumberVariable}
use Rattle.dt_expr.specs.declared.scene.NumberVariable.TheVariants as number
use Rattle.dt_expr.specs.declared.scene.TextVariable.{TextVariable}
use Rattle.dt_expr.specs.declared.scene.TextVariable.TheVariants as text
use Rattle.dt_lang.specs.declared.word.Action.{Action}
use Rattle.dt_lang.specs.declared.word.Action.TheVariants as action
use Rattle.dt_lang.specs.declared.word.Function.{Function}
use Rattle.dt_lang.specs.declared.word.Function.TheVariants as function
use Rattle.dt_lang.specs.declared.word.Destructive.{Destructive}
use Rattle.dt_lang.specs.declared.word.Destructive.TheVariants as destructive
use Rattle.dt_lang.specs.declared.word.Keyword.{Keyword}
use Rattle.dt_lang.specs.declared.word.Keyword.TheVariants as keyword
use Rattle.dt_lang.specs.declared.word.KnownWord.{KnownWord}
use Rattle.dt_lang.specs.declared.word.KnownWord.TheVariants as table
use Rattle.dt_lang.specs.declared.word.Word.{Word}
use Rattle.dt_lang.specs.declared.word.Word.TheVariants as word
use Rattle.dt_lang.specs.declared.word.TheConstants.{WORDS}
use Rattle.dt_lang.specs.Class.{is_word_byte}
use Rattle.dt_lang.specs.Lexeme.{IsIdentifier}
use Rattle.dt_lang.specs.Word.{name_of_action, name_of_function, name_of_destructive, name_of_keyword, name_of_number, name_of_text}
use Rattle.dt_lang.specs.Word.{name_of_word, word_bytes, IsKeptName, IsWord}
use Rattle.dt_lang.specs.laws.Starts.{word_bytes_named}
use Rattle.dt_lang.specs.machine.KnownWord.{as_word}

-- a word with a name is what that name says
pub named : (w : Word) (name : List ℕ) → name_of_word w ≡ Some name → IsWord name w
named (word.Action a) name e = e
named (word.Function f) name e = e
named (word.Destructive d) name e = e
named (word.Keyword k) name e = e
named (word.Number v) name e = e
named (word.Text v) name e = e
named (word.Unknown kept) name e = cc

-- a word that the language knows
abbrev pub IsKnown : Word → Type 0
IsKnown (word.Unknown kept) = ⊥
IsKnown _ = Unit {0}

-- the list of all words has each known one
listed : (w : KnownWord) → Contains WORDS w
listed (table.Action action.Trace) = (0, omega arith, refl)
listed (table.Action action.Stack) = (1, omega arith, refl)
listed (table.Action action.Ustack) = (2, omega arith, refl)
listed (table.Action action.Exit) = (3, omega arith, refl)
listed (table.Action action.Speculate) = (4, omega arith, refl)
listed (table.Action action.Commit) = (5, omega arith, refl)
listed (table.Action action.Discard) = (6, omega arith, refl)
listed (table.Function function.Count) = (7, omega arith, refl)
listed (table.Function function.Sum) = (8, omega arith, refl)
listed (table.Function function.Avg) = (9, omega arith, refl)
listed (table.Function function.Min) = (10, omega arith, refl)
listed (table.Function function.Max) = (11, omega arith, refl)
listed (table.Function function.Quantize) = (12, omega arith, refl)
listed (table.Function function.Lquantize) = (13, omega arith, refl)
listed (table.Destructive destructive.Stop) = (14, omega arith, refl)
listed (table.Destructive destructive.Raise) = (15, omega arith, refl)
listed (table.Destructive destructive.Copyout) = (16, omega arith, refl)
listed (table.Destructive destructive.Copyoutstr) = (17, omega arith, refl)
listed (table.Destructive destructive.System) = (18, omega arith, refl)
listed (table.Destructive destructive.Breakpoint) = (19, omega arith, refl)
listed (table.Destructive destructive.Panic) = (20, omega arith, refl)
listed (table.Destructive destructive.Chill) = (21, omega arith, refl)
listed (table.Keyword keyword.ThreadLocal) = (22, omega arith, refl)
listed (table.Keyword keyword.Speculation) = (23, omega arith, refl)
listed (table.Number number.Arg0) = (24, omega arith, refl)
listed (table.Number number.Arg1) = (25, omega arith, refl)
listed (table.Number number.Arg2) = (26, omega arith, refl)
listed (table.Number number.Arg3) = (27, omega arith, refl)
listed (table.Number number.Arg4) = (28, omega arith, refl)
listed (table.Number number.Arg5) = (29, omega arith, refl)
listed (table.Number number.Arg6) = (30, omega arith, refl)
listed (table.Number number.Arg7) = (31, omega arith, refl)
listed (table.Number number.Arg8) = (32, omega arith, refl)
listed (table.Number number.Arg9) = (33, omega arith, refl)
listed (table.Number number.Cpu) = (34, omega arith, refl)
listed (table.Number number.Pid) = (35, omega arith, refl)
listed (table.Number number.Tid) = (36, omega arith, refl)
listed (table.Number number.Uid) = (37, omega arith, refl)
listed (table.Number number.Timestamp) = (38, omega arith, refl)
listed (table.Number number.Id) = (39, omega arith, refl)
listed (table.Number number.Epid) = (40, omega arith, refl)
listed (table.Text text.Execname) = (41, omega arith, refl)
listed (table.Text text.Probeprov) = (42, omega arith, refl)
listed (table.Text text.Probemod) = (43, omega arith, refl)
listed (table.Text text.Probefunc) = (44, omega arith, refl)
listed (table.Text text.Probename) = (45, omega arith, refl)

unlisted : (name : List ℕ) → All (λ w. name_of_word (as_word w) ≢ Some name) WORDS → (w : KnownWord)
    → name_of_word (as_word w) ≢ Some name
unlisted name h w = All-contains (λ v. name_of_word (as_word v) ≢ Some name) WORDS w h (listed w)

unnamed : (name : List ℕ) → All (λ w. name_of_word (as_word w) ≢ Some name) WORDS → (w : Word)
    → name_of_word w ≢ Some name
unnamed name h (word.Action a) e = unlisted name h (table.Action a) e
unnamed name h (word.Function f) e = unlisted name h (table.Function f) e
unnamed name h (word.Destructive d) e = unlisted name h (table.Destructive d) e
unnamed name h (word.Keyword k) e = unlisted name h (table.Keyword k) e
unnamed name h (word.Number v) e = unlisted name h (table.Number v) e
unnamed name h (word.Text v) e = unlisted name h (table.Text v) e
unnamed name h (word.Unknown kept) e = cc

-- a text that is no listed word's name is unknown
pub unknown : (name : List ℕ) (kept : Option (List ℕ)) → All (λ w. name_of_word (as_word w) ≢ Some name) WORDS → IsKeptName name kept
    → IsWord name (word.Unknown kept)
unknown name kept h k = (unnamed name h, k)

-- what a name made of the bytes says of what is kept
pub kept_is : (name : List ℕ) (kept : Option (List ℕ)) → (IsSome kept ↔ IsName name)
    → IfSome kept (λ made. made ≡ name) → IsKeptName name kept
kept_is name (Some bytes) valid value = (value, valid.0 refl)
kept_is name None valid value = λ is. false≢true (valid.1 is)

-- an identifier that isn't kept has more bytes than a name
pub long_is : (name : List ℕ) → IsIdentifier name → IsWord name (word.Unknown None) → name_max < length name
long_is name is h = elim (cases_lt name_max (length name)) [
  | inl more ↦ more
  | inr few ↦ absurd (h.1 (record { short = few; plain = word_bytes_named name is.all }))
]

-- bytes of words, no more than a name has, are a name
word_name : (bytes : List ℕ) → list_all is_word_byte bytes ≡ true → leb (length bytes) name_max ≡ true → IsName bytes
word_name bytes all few = record {
  short = leb-true (length bytes) name_max few;
  plain = word_bytes_named bytes (AllPass-from_list_all is_word_byte bytes all);
}

-- each word that the language knows has a name
pub action_named : (x : Action) → IsName (name_of_action x)
action_named action.Trace = word_name _ refl refl
action_named action.Stack = word_name _ refl refl
action_named action.Ustack = word_name _ refl refl
action_named action.Exit = word_name _ refl refl
action_named action.Speculate = word_name _ refl refl
action_named action.Commit = word_name _ refl refl
action_named action.Discard = word_name _ refl refl

pub function_named : (x : Function) → IsName (name_of_function x)
function_named function.Count = word_name _ refl refl
function_named function.Sum = word_name _ refl refl
function_named function.Avg = word_name _ refl refl
function_named function.Min = word_name _ refl refl
function_named function.Max = word_name _ refl refl
function_named function.Quantize = word_name _ refl refl
function_named function.Lquantize = word_name _ refl refl

pub destructive_named : (x : Destructive) → IsName (name_of_destructive x)
destructive_named destructive.Stop = word_name _ refl refl
destructive_named destructive.Raise = word_name _ refl refl
destructive_named destructive.Copyout = word_name _ refl refl
destructive_named destructive.Copyoutstr = word_name _ refl refl
destructive_named destructive.System = word_name _ refl refl
destructive_named destructive.Breakpoint = word_name _ refl refl
destructive_named destructive.Panic = word_name _ refl refl
destructive_named destructive.Chill = word_name _ refl refl

pub keyword_named : (x : Keyword) → IsName (name_of_keyword x)
keyword_named keyword.ThreadLocal = word_name _ refl refl
keyword_named keyword.Speculation = word_name _ refl refl

pub number_named : (x : NumberVariable) → IsName (name_of_number x)
number_named number.Arg0 = word_name _ refl refl
number_named number.Arg1 = word_name _ refl refl
number_named number.Arg2 = word_name _ refl refl
number_named number.Arg3 = word_name _ refl refl
number_named number.Arg4 = word_name _ refl refl
number_named number.Arg5 = word_name _ refl refl
number_named number.Arg6 = word_name _ refl refl
number_named number.Arg7 = word_name _ refl refl
number_named number.Arg8 = word_name _ refl refl
number_named number.Arg9 = word_name _ refl refl
number_named number.Cpu = word_name _ refl refl
number_named number.Pid = word_name _ refl refl
number_named number.Tid = word_name _ refl refl
number_named number.Uid = word_name _ refl refl
number_named number.Timestamp = word_name _ refl refl
number_named number.Id = word_name _ refl refl
number_named number.Epid = word_name _ refl refl

pub text_named : (x : TextVariable) → IsName (name_of_text x)
text_named text.Execname = word_name _ refl refl
text_named text.Probeprov = word_name _ refl refl
text_named text.Probemod = word_name _ refl refl
text_named text.Probefunc = word_name _ refl refl
text_named text.Probename = word_name _ refl refl

-- a name that was made of a name's bytes is that name
made_is : (bytes : List ℕ) (made : Option (List ℕ)) → IsName bytes → (IsSome made ↔ IsName bytes)
    → IfSome made (λ name. name ≡ bytes) → made ≡ Some bytes
made_is bytes (Some name) is valid value = ap Some value
made_is bytes None is valid value = absurd (false≢true (valid.1 is))

known_short : (own name : List ℕ) → IsName own → Some own ≡ Some name → length name ≤ name_max
known_short own name is e = let same : own ≡ name = cc in subst (λ x. length x ≤ name_max) same is.short

-- an identifier that is a variable's name is short
pub name_short : (w : Word) (bytes name : List ℕ) → IsWord bytes w → word_bytes w ≡ Some name → length name ≤ name_max
name_short (word.Action a) bytes name h e = known_short (name_of_action a) name (action_named a) e
name_short (word.Function f) bytes name h e = known_short (name_of_function f) name (function_named f) e
name_short (word.Destructive d) bytes name h e = known_short (name_of_destructive d) name (destructive_named d) e
name_short (word.Keyword k) bytes name h e = known_short (name_of_keyword k) name (keyword_named k) e
name_short (word.Number v) bytes name h e = known_short (name_of_number v) name (number_named v) e
name_short (word.Text v) bytes name h e = known_short (name_of_text v) name (text_named v) e
name_short (word.Unknown (Some kept)) bytes name h e =
    let same : kept ≡ name = cc in
    let few : length bytes ≤ name_max = h.1.1.short in
    let whole : kept ≡ bytes = h.1.0 in
    subst (λ x. length x ≤ name_max) (sym whole ∙ same) few
name_short (word.Unknown None) bytes name h e = cc

pub made_of : (w : Word) (own source : List ℕ) (made : Option (List ℕ)) → word_bytes w ≡ Some own → IsName own
    → source ≡ own → (IsSome made ↔ IsName source) → IfSome made (λ name. name ≡ source) → made ≡ word_bytes w
made_of w own source made e is same valid value =
    made_is source made (subst IsName (sym same) is) valid value ∙ ap Some same ∙ sym e
