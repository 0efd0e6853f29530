-- What identifiers are names of. Guide, Actions and Subroutines, Aggregations and Variables.
use Rattle.std.specs.Prelude.{◌≡◌, ◌≢◌, ℕ, List, Option, Some, None, codes}
use Rattle.dt_expr.specs.declared.scene.NumberVariable.{NumberVariable}
use Rattle.dt_expr.specs.declared.scene.NumberVariable.TheVariants as number
use Rattle.dt_expr.specs.declared.scene.TextVariable.{TextVariable}
use Rattle.dt_expr.specs.declared.scene.TextVariable.TheVariants as text
use Rattle.dt_names.specs.Name.{IsName}
use Rattle.dt_lang.specs.declared.word.Action.{Action}
use Rattle.dt_lang.specs.declared.word.Action.TheVariants as action
use Rattle.dt_lang.specs.declared.word.Function.{Function}
use Rattle.dt_lang.specs.declared.word.Function.TheVariants as function
use Rattle.dt_lang.specs.declared.word.Destructive.{Destructive}
use Rattle.dt_lang.specs.declared.word.Destructive.TheVariants as destructive
use Rattle.dt_lang.specs.declared.word.Keyword.{Keyword}
use Rattle.dt_lang.specs.declared.word.Keyword.TheVariants as keyword
use Rattle.dt_lang.specs.declared.word.Word.{Word}
use Rattle.dt_lang.specs.declared.word.Word.TheVariants as word

abbrev pub name_of_action : Action → List ℕ
name_of_action action.Trace = codes "trace"
name_of_action action.Stack = codes "stack"
name_of_action action.Ustack = codes "ustack"
name_of_action action.Exit = codes "exit"
name_of_action action.Speculate = codes "speculate"
name_of_action action.Commit = codes "commit"
name_of_action action.Discard = codes "discard"

abbrev pub name_of_function : Function → List ℕ
name_of_function function.Count = codes "count"
name_of_function function.Sum = codes "sum"
name_of_function function.Avg = codes "avg"
name_of_function function.Min = codes "min"
name_of_function function.Max = codes "max"
name_of_function function.Quantize = codes "quantize"
name_of_function function.Lquantize = codes "lquantize"

abbrev pub name_of_destructive : Destructive → List ℕ
name_of_destructive destructive.Stop = codes "stop"
name_of_destructive destructive.Raise = codes "raise"
name_of_destructive destructive.Copyout = codes "copyout"
name_of_destructive destructive.Copyoutstr = codes "copyoutstr"
name_of_destructive destructive.System = codes "system"
name_of_destructive destructive.Breakpoint = codes "breakpoint"
name_of_destructive destructive.Panic = codes "panic"
name_of_destructive destructive.Chill = codes "chill"

abbrev pub name_of_keyword : Keyword → List ℕ
name_of_keyword keyword.ThreadLocal = codes "self"
name_of_keyword keyword.Speculation = codes "speculation"

abbrev pub name_of_number : NumberVariable → List ℕ
name_of_number number.Arg0 = codes "arg0"
name_of_number number.Arg1 = codes "arg1"
name_of_number number.Arg2 = codes "arg2"
name_of_number number.Arg3 = codes "arg3"
name_of_number number.Arg4 = codes "arg4"
name_of_number number.Arg5 = codes "arg5"
name_of_number number.Arg6 = codes "arg6"
name_of_number number.Arg7 = codes "arg7"
name_of_number number.Arg8 = codes "arg8"
name_of_number number.Arg9 = codes "arg9"
name_of_number number.Cpu = codes "cpu"
name_of_number number.Pid = codes "pid"
name_of_number number.Tid = codes "tid"
name_of_number number.Uid = codes "uid"
name_of_number number.Timestamp = codes "timestamp"
name_of_number number.Id = codes "id"
name_of_number number.Epid = codes "epid"

abbrev pub name_of_text : TextVariable → List ℕ
name_of_text text.Execname = codes "execname"
name_of_text text.Probeprov = codes "probeprov"
name_of_text text.Probemod = codes "probemod"
name_of_text text.Probefunc = codes "probefunc"
name_of_text text.Probename = codes "probename"

-- the name of a word that the language knows
abbrev pub name_of_word : Word → Option (List ℕ)
name_of_word (word.Action a) = Some (name_of_action a)
name_of_word (word.Function f) = Some (name_of_function f)
name_of_word (word.Destructive d) = Some (name_of_destructive d)
name_of_word (word.Keyword k) = Some (name_of_keyword k)
name_of_word (word.Number v) = Some (name_of_number v)
name_of_word (word.Text v) = Some (name_of_text v)
name_of_word (word.Unknown kept) = None

-- the bytes of an identifier, whatever it is a name of; none where they are too many for a name
abbrev pub word_bytes : Word → Option (List ℕ)
word_bytes (word.Unknown kept) = kept
word_bytes known = name_of_word known

-- What is kept of an unknown name: its bytes, or that they are none that a name has. An identifier's are none where they are too
-- many, and only there.
abbrev pub IsKeptName : List ℕ → Option (List ℕ) → Type 0
IsKeptName name (Some bytes) = (bytes ≡ name) × IsName name
IsKeptName name None = IsName name → ⊥

-- The identifier is the known word of this name, or unknown where no known word has it.
abbrev pub IsWord : List ℕ → Word → Type 0
IsWord name (word.Unknown kept) = ((known : Word) → name_of_word known ≢ Some name) × IsKeptName name kept
IsWord name known = name_of_word known ≡ Some name
