-- What a judge does with one item more.
use Rattle.std.proofs.Common.{◌≡◌, ◌≢◌, ℕ, ◌+◌, ◌<◌, ◌≤◌, ◌↔◌, false, List, [], ◌∷◌, Option, Some, None, IfSome, Result}
use Rattle.std.proofs.Common.{length, get_or, set, replicate, refl, sym, ap, ◌∙◌, ⊎_elim, arith}
use Rattle.std.specs.List.{slice_get}
use Rattle.std.specs.Option.{option_and_then}
use Rattle.std.proofs.lemmas.Bool.{cases_eq}
use Rattle.std.proofs.lemmas.Grind.{get_or-set_at}
use Rattle.std.proofs.lemmas.List.{get_or-set_other, get_or-replicate}
use Rattle.std.proofs.lemmas.Option.{slice_get_within}
use Rattle.dt_cred.specs.declared.account.Account.{Account}
use Rattle.dt_machine.specs.Registry.{Registry, Contents, IsSound, firing_at}
use Rattle.dt_cred.specs.declared.firing.Firing.{Firing}
use Rattle.dt_life.specs.Answer.{Answer}
use Rattle.dt_life.specs.Ask.{Ask}
use Rattle.dt_life.specs.Life.{Item, asked, is_over}
use Rattle.dt_life.specs.Reply.{Replies}
use Rattle.dt_life.specs.declared.refusal.Refusal.{Refusal}
use Rattle.dt_proto.specs.Line.{ask_in}
use Rattle.dt_proto.specs.Lines.{line_form, long_line}
use Rattle.dt_proto.specs.Reply.{reply_text}
use Rattle.dt_proto.specs.Splits.{with_newline}
use Rattle.dt_proto.specs.Trail.{WrittenItem, line_asked, long_asked, fired_at}
use Rattle.dt_alone.specs.Answered.{AnswersAsk}
use Rattle.dt_alone.specs.Compared.{IsCompared}
use Rattle.dt_alone.specs.Judging.{HasJudged, IsRuling}
use Rattle.dt_proto.specs.Legal.{IsAbove, life_of_trail}
use Rattle.dt_alone.specs.Runs.{Runs}
use Rattle.dt_alone.specs.declared.judge.Judge.{Judge}
use Rattle.dt_alone.specs.declared.judge.Ruling.{Ruling}
use Rattle.dt_alone.specs.declared.judge.Ruling.TheVariants.{Right, Wrong, OutOfPlace}
use Rattle.dt_alone.specs.declared.runner.Runner.{Runner}

-- a firing of a script stands within it
pub record IsInside (cpu place : ℕ) : Type 0 where
  pub processor : cpu < 64
  pub row : place < 65536

inside_script : (contents : Contents) (cpu place : ℕ) (firing : Firing) (script : Option (List Firing))
    → IsSound contents → slice_get contents.scripts cpu ≡ script
    → IfSome script (λ firings. length firings ≤ 65536)
    → option_and_then (λ firings. slice_get firings place) script ≡ Some firing → IsInside cpu place
inside_script contents cpu place firing None sound there short is = cc
inside_script contents cpu place firing (Some script) sound there short is =
    let processor = slice_get_within contents.scripts cpu script there in
    let row = slice_get_within script place firing is in
    let all = sound.scripts in
    let few = sound.few_cpus in
    record { processor = omega arith; row = omega arith }

pub inside : (contents : Contents) (cpu place : ℕ) (firing : Firing) → IsSound contents
    → firing_at contents.scripts cpu place ≡ Some firing → IsInside cpu place
inside contents cpu place firing sound is =
    inside_script contents cpu place firing (slice_get contents.scripts cpu) sound refl (sound.short cpu) is

-- the least places above those of each processor's firings
abbrev pub AreLeast : List WrittenItem → List ℕ → Type 0
AreLeast past least = (cpu place : ℕ) → cpu < 64 → (IsAbove past cpu place ↔ (get_or least cpu 0 ≤ place))

not_above : (n place : ℕ) → n ≡ 0 → n ≤ place
not_above n place zero = omega arith

pub no_least : AreLeast [] (replicate 64 0)
no_least cpu place low = (
  λ above. not_above (get_or (replicate 64 0) cpu 0) place (get_or-replicate 64 cpu 0 0 low),
  λ reached. tt,
)

pub least_more : (least : List ℕ) (past : List WrittenItem) (cpu place : ℕ) → cpu < length least → AreLeast past least
    → get_or least cpu 0 ≤ place → AreLeast (fired_at cpu place ∷ past) (set least cpu (place + 1))
least_more least past cpu place within before low other at small =
    ⊎_elim
    (λ same.
    let now : get_or (set least cpu (place + 1)) other 0 ≡ place + 1 =
    get_or-set_at least cpu other (place + 1) 0 same within in
    let was : get_or least other 0 ≡ get_or least cpu 0 = ap (λ n. get_or least n 0) same in (
      λ above. let higher = above.0 (sym same) in omega arith,
      λ reached. (λ is. omega arith, (before other at small).1 (omega arith)),
    ))
    (λ apart.
    let now : get_or (set least cpu (place + 1)) other 0 ≡ get_or least other 0 =
    get_or-set_other least cpu other (place + 1) 0 apart in (
      λ above. let reached = (before other at small).0 above.1 in omega arith,
      λ reached. (λ is. absurd (apart (sym is)), (before other at small).1 (omega arith)),
    ))
    (cases_eq other cpu)

module _ (one_reply : (account : Account) (registry : Registry) (life : List Item) (line : Result Ask Refusal)
    (a b : Answer) → Replies account registry life line a → Replies account registry life line b → a ≡ b)
    (account : Account) (contents : Contents) where
  abbrev life_of : List WrittenItem → List Item
  life_of past = life_of_trail account contents past

  -- what is said of a reply to what a line asks
  abbrev IsReply : List Item → Result Ask Refusal → List ℕ → Type 0
  IsReply life ask reply = (answer : Answer) × Replies account contents.registry life ask answer
      × (with_newline reply ≡ reply_text answer)

  abbrev Answered : List Item → Result Ask Refusal → Runner → List ℕ → Type 0
  Answered life ask runner due = AnswersAsk account contents.registry life ask runner due

  is_reply : (life : List Item) (ask : Result Ask Refusal) (runner : Runner) (reply due : List ℕ)
      → Answered life ask runner due → with_newline reply ≡ due → IsReply life ask reply
  is_reply life ask runner reply due h same = (h.answer, h.replies, same ∙ h.text)

  no_reply : (life : List Item) (ask : Result Ask Refusal) (runner : Runner) (reply due : List ℕ)
      → Answered life ask runner due → with_newline reply ≢ due → IsReply life ask reply → ⊥
  no_reply life ask runner reply due h other found =
      let same = one_reply account contents.registry life ask found.0 h.answer found.1 h.replies in
      other (found.2 ∙ ap reply_text same ∙ sym h.text)

  has_run : (life : List Item) (ask : Result Ask Refusal) (runner : Runner) (due : List ℕ)
      → Answered life ask runner due → is_over life ≡ false → Runs account contents.registry runner (asked ask ∷ life)
  has_run life ask runner due h quota = rw quota at h.runs

  pub line_ruled : (past : List WrittenItem) (judge new : Judge) (line reply due : List ℕ) (ruling : Ruling)
      → HasJudged account contents past judge → new.least ≡ judge.least → is_over (life_of past) ≡ false
      → Answered (life_of past) (ask_in (line_form line)) new.runner due → IsCompared (with_newline reply) due ruling
      → IsRuling account contents past (line_asked line reply) new ruling
  line_ruled past judge new line reply due Right after kept quota h same = (
    quota,
    is_reply (life_of past) (ask_in (line_form line)) new.runner reply due h same,
    record {
      runs = has_run (life_of past) (ask_in (line_form line)) new.runner due h quota;
      least = λ cpu place low. (
        λ above. rw kept ((after.least cpu place low).0 above.1),
        λ reached. (tt, (after.least cpu place low).1 (rw kept at reached)),
      );
    },
  )
  line_ruled past judge new line reply due Wrong after kept quota h other =
      (quota, no_reply (life_of past) (ask_in (line_form line)) new.runner reply due h other)
  line_ruled past judge new line reply due OutOfPlace after kept quota h none = absurd none

  pub long_ruled : (past : List WrittenItem) (judge new : Judge) (reply due : List ℕ) (ruling : Ruling)
      → HasJudged account contents past judge → new.least ≡ judge.least → is_over (life_of past) ≡ false
      → Answered (life_of past) (ask_in long_line) new.runner due → IsCompared (with_newline reply) due ruling
      → IsRuling account contents past (long_asked reply) new ruling
  long_ruled past judge new reply due Right after kept quota h same = (
    quota,
    is_reply (life_of past) (ask_in long_line) new.runner reply due h same,
    record {
      runs = has_run (life_of past) (ask_in long_line) new.runner due h quota;
      least = λ cpu place low. (
        λ above. rw kept ((after.least cpu place low).0 above.1),
        λ reached. (tt, (after.least cpu place low).1 (rw kept at reached)),
      );
    },
  )
  long_ruled past judge new reply due Wrong after kept quota h other =
      (quota, no_reply (life_of past) (ask_in long_line) new.runner reply due h other)
  long_ruled past judge new reply due OutOfPlace after kept quota h none = absurd none
