-- What is to be shown of `reply_texts`.
use Rattle.std.proofs.Common.{◌≡◌, ℕ, ◌++◌, codes, decimal, append_assoc, refl}
use Rattle.std.specs.Fmt.{digits}
use Rattle.dt_lang.specs.Fault.{why_word}
use Rattle.dt_lang.specs.Word.{name_of_destructive}
use Rattle.dt_lang.specs.declared.fault.Why.{Why}
use Rattle.dt_lang.specs.declared.fault.Why.TheVariants.{Syntax, Probe, Action, Variable, TooLong, Range, Spec}
use Rattle.dt_lang.specs.declared.word.Destructive.{Destructive}
use Rattle.dt_lang.specs.declared.word.Destructive.TheVariants.{Stop, Raise, Copyout, Copyoutstr, System, Breakpoint}
use Rattle.dt_lang.specs.declared.word.Destructive.TheVariants.{Panic, Chill}
use Rattle.dt_life.specs.Answer.{refused}
use Rattle.dt_life.specs.declared.refusal.Refusal.TheVariants as Refusal
use Rattle.dt_proto.specs.Reply.{reply_text}
use Rattle.serde_json.proofs.OnLiterals.{serde_json_on_literals}
use Rattle.dt_proto.proofs.ListedTexts.{text-listed}
use Rattle.dt_proto.proofs.DescribedTexts.{text-described, text-unrecorded}
use Rattle.dt_proto.proofs.StatusTexts.{text-inactive, text-active, text-stopped, text-exited, text-history}
use Rattle.dt_proto.proofs.StatusTexts.{text-closed}
use Rattle.dt_proto.proofs.TableTexts.{text-aggregated}
use Rattle.dt_proto.proofs.Texts.{text-done, text-enabled, text-snapped}
use Rattle.dt_proto.proofs.reply.reply_texts.Goals as goal

four : decimal 4 ≡ codes "4"
unfolding digits
four = refl

five : decimal 5 ≡ codes "5"
unfolding digits
five = refl

six : decimal 6 ≡ codes "6"
unfolding digits
six = refl

seven : decimal 7 ≡ codes "7"
unfolding digits
seven = refl

eight : decimal 8 ≡ codes "8"
unfolding digits
eight = refl

pub returns-clause-done : goal.returns-clause-done
returns-clause-done c = text-done

pub returns-clause-enabled : goal.returns-clause-enabled
returns-clause-enabled c = text-enabled

pub returns-clause-snapped : goal.returns-clause-snapped
returns-clause-snapped c = text-snapped

by_why : (at : ℕ) (why : Why) → reply_text (refused (Refusal.Program at why))
    ≡ codes "{\"at\":" ++ decimal at
    ++ codes ",\"error\":4,\"name\":\"Program\",\"why\":\"" ++ why_word why ++ codes "\"}\n"
unfolding serde_json_on_literals
by_why at Syntax = simp (four, append_assoc)
by_why at Probe = simp (four, append_assoc)
by_why at Action = simp (four, append_assoc)
by_why at Variable = simp (four, append_assoc)
by_why at TooLong = simp (four, append_assoc)
by_why at Range = simp (four, append_assoc)
by_why at Spec = simp (four, append_assoc)

by_name : (at : ℕ) (what : Destructive) → reply_text (refused (Refusal.Destructive at what))
    ≡ codes "{\"at\":" ++ decimal at
    ++ codes ",\"error\":7,\"name\":\"Destructive\",\"what\":\"" ++ name_of_destructive what
    ++ codes "\"}\n"
unfolding serde_json_on_literals
by_name at Stop = simp (seven, append_assoc)
by_name at Raise = simp (seven, append_assoc)
by_name at Copyout = simp (seven, append_assoc)
by_name at Copyoutstr = simp (seven, append_assoc)
by_name at System = simp (seven, append_assoc)
by_name at Breakpoint = simp (seven, append_assoc)
by_name at Panic = simp (seven, append_assoc)
by_name at Chill = simp (seven, append_assoc)

pub returns-clause-program : goal.returns-clause-program
returns-clause-program c = by_why

pub returns-clause-destructive : goal.returns-clause-destructive
returns-clause-destructive c = by_name

pub returns-clause-privilege : goal.returns-clause-privilege
unfolding serde_json_on_literals
returns-clause-privilege c = λ clause. simp (six, append_assoc)

pub returns-clause-clash : goal.returns-clause-clash
unfolding serde_json_on_literals
returns-clause-clash c = λ what. simp (eight, append_assoc)

pub returns-clause-no_agg : goal.returns-clause-no_agg
unfolding serde_json_on_literals digits
returns-clause-no_agg c = refl

pub returns-clause-no_epid : goal.returns-clause-no_epid
unfolding serde_json_on_literals digits
returns-clause-no_epid c = refl

pub returns-clause-no_match : goal.returns-clause-no_match
unfolding serde_json_on_literals
returns-clause-no_match c = λ clause. simp (five, append_assoc)

pub returns-clause-json : goal.returns-clause-json
unfolding serde_json_on_literals digits
returns-clause-json c = refl

pub returns-clause-request : goal.returns-clause-request
unfolding serde_json_on_literals digits
returns-clause-request c = refl

pub returns-clause-line_long : goal.returns-clause-line_long
unfolding serde_json_on_literals digits
returns-clause-line_long c = refl

pub returns-clause-limit : goal.returns-clause-limit
unfolding serde_json_on_literals digits
returns-clause-limit c = refl

pub returns-clause-busy : goal.returns-clause-busy
unfolding serde_json_on_literals digits
returns-clause-busy c = refl

pub returns-clause-option : goal.returns-clause-option
unfolding serde_json_on_literals digits
returns-clause-option c = refl

pub returns-clause-no_cpu : goal.returns-clause-no_cpu
unfolding serde_json_on_literals digits
returns-clause-no_cpu c = refl

pub returns-clause-quota : goal.returns-clause-quota
unfolding serde_json_on_literals digits
returns-clause-quota c = refl

pub returns-clause-memory : goal.returns-clause-memory
unfolding serde_json_on_literals digits
returns-clause-memory c = refl

pub returns-clause-listed : goal.returns-clause-listed
returns-clause-listed c = text-listed

pub returns-clause-aggregated : goal.returns-clause-aggregated
returns-clause-aggregated c = text-aggregated

pub returns-clause-inactive : goal.returns-clause-inactive
returns-clause-inactive c = text-inactive

pub returns-clause-active : goal.returns-clause-active
returns-clause-active c = text-active

pub returns-clause-stopped : goal.returns-clause-stopped
returns-clause-stopped c = text-stopped

pub returns-clause-exited : goal.returns-clause-exited
returns-clause-exited c = λ code seen errors aggdrops dyndrops specdrops specfails.
    text-exited seen errors aggdrops dyndrops specdrops specfails code

pub returns-clause-history : goal.returns-clause-history
returns-clause-history c = text-history

pub returns-clause-closed : goal.returns-clause-closed
returns-clause-closed c = text-closed

pub returns-clause-described : goal.returns-clause-described
returns-clause-described c = text-described

pub returns-clause-described_unrecorded : goal.returns-clause-described_unrecorded
returns-clause-described_unrecorded c = text-unrecorded
