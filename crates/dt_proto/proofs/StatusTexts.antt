-- How a status is written.
use Rattle.std.proofs.Common.{◌≡◌, ℕ, ℤ, false, List, [], ◌∷◌, ◌++◌, Some, None, codes, decimal, map, append_assoc}
use Rattle.std.proofs.Common.{refl, sym, ap, ◌∙◌, ◌+◌, ◌<◌, ◌≤◌, length, take, get_or}
use Rattle.std.proofs.lemmas.List.{take_more, take_all}
use Rattle.std.specs.Fmt.{signed_decimal}
use Rattle.serde_json.specs.Data.{string}
use Rattle.serde_json.specs.View.{items_of}
use Rattle.serde_json.specs.Written.{compact_text, items_text}
use Rattle.serde_json.proofs.OnLiterals.{serde_json_on_literals}
use Rattle.dt_life.specs.Answer.{status}
use Rattle.dt_life.specs.Phase.{phase_word}
use Rattle.dt_life.specs.declared.phase.Phase.{Phase}
use Rattle.dt_life.specs.declared.phase.Phase.TheVariants.{Inactive, Active, Stopped}
use Rattle.dt_life.specs.declared.phase.End.TheVariants.{Stop, Exit, History}
use Rattle.dt_proto.specs.Reply.{cause_data, exit_data, numbers_text, reply_text, status_text}
use Rattle.dt_proto.specs.Scalars.{of_number}
use Rattle.dt_proto.proofs.ItemTexts.{numbers_written}
use Rattle.dt_proto.proofs.Texts.{signed_written}

closed : (a b c d e f g h i j k l m n o p q r s t bracket quote : List ℕ)
    → (a ++ ((b ++ bracket) ++ (c ++ (d ++ (e ++ ((f ++ bracket) ++ (g ++ ((h ++ bracket) ++ (i ++ (j
    ++ (k ++ ((quote ++ (l ++ quote)) ++ (m ++ (n ++ (o ++ ((p ++ bracket) ++ (q ++ (r ++ s)))))))))))))))))) ++ t
    ≡ a ++ b ++ (bracket ++ c) ++ d ++ e ++ f ++ (bracket ++ g) ++ h ++ (bracket ++ i) ++ j ++ (k ++ quote) ++ l
    ++ (quote ++ m) ++ n ++ o ++ p ++ (bracket ++ q) ++ r ++ (s ++ t)
closed a b c d e f g h i j k l m n o p q r s t bracket quote = simp append_assoc

-- a status's text, round those of its parts
round : (aggdrops cause dyndrops errors exit word : List ℕ) (seen : ℕ) (specdrops : List ℕ) (specfails : ℕ) → List ℕ
round aggdrops cause dyndrops errors exit word seen specdrops specfails =
    (codes "{\"aggdrops\":[" ++ (aggdrops ++ (codes ",\"cause\":" ++ (cause
    ++ (codes ",\"dyndrops\":[" ++ (dyndrops ++ (codes ",\"errors\":[" ++ (errors ++ (codes ",\"exit\":" ++ (exit
    ++ (codes ",\"ok\":true,\"phase\":" ++ (word ++ (codes ",\"seen\":" ++ (decimal seen
    ++ (codes ",\"specdrops\":[" ++ (specdrops ++ (codes ",\"specfails\":" ++ (decimal specfails
    ++ codes "}")))))))))))))))))) ++ 10 ∷ []

module _ (seen : ℕ) (errors aggdrops dyndrops specdrops : List ℕ) (specfails : ℕ) where
  parts : (phase : Phase) → reply_text (status phase seen errors aggdrops dyndrops specdrops specfails)
      ≡ round (items_text false (items_of (map of_number aggdrops))) (compact_text (cause_data phase))
      (items_text false (items_of (map of_number dyndrops))) (items_text false (items_of (map of_number errors)))
      (compact_text (exit_data phase)) (compact_text (string (phase_word phase))) seen
      (items_text false (items_of (map of_number specdrops))) specfails
  unfolding serde_json_on_literals round
  parts phase = refl

  rounded : (cause exit word : List ℕ)
      → round (numbers_text aggdrops ++ 93 ∷ []) cause (numbers_text dyndrops ++ 93 ∷ []) (numbers_text errors ++ 93 ∷ [])
      exit (34 ∷ (word ++ 34 ∷ [])) seen (numbers_text specdrops ++ 93 ∷ []) specfails
      ≡ status_text cause exit word seen errors aggdrops dyndrops specdrops specfails
  unfolding round
  rounded cause exit word =
      closed (codes "{\"aggdrops\":[") (numbers_text aggdrops) (codes ",\"cause\":") cause (codes ",\"dyndrops\":[")
      (numbers_text dyndrops) (codes ",\"errors\":[") (numbers_text errors) (codes ",\"exit\":") exit
      (codes ",\"ok\":true,\"phase\":") word (codes ",\"seen\":") (decimal seen) (codes ",\"specdrops\":[")
      (numbers_text specdrops) (codes ",\"specfails\":") (decimal specfails) (codes "}") (10 ∷ []) (93 ∷ []) (34 ∷ [])

  text-status : (phase : Phase) (cause exit word : List ℕ) → compact_text (cause_data phase) ≡ cause
      → compact_text (exit_data phase) ≡ exit → compact_text (string (phase_word phase)) ≡ 34 ∷ (word ++ 34 ∷ [])
      → reply_text (status phase seen errors aggdrops dyndrops specdrops specfails)
      ≡ status_text cause exit word seen errors aggdrops dyndrops specdrops specfails
  text-status phase cause exit word caused exited named =
      parts phase
      ∙ rw (
        caused,
        exited,
        named,
        numbers_written aggdrops,
        numbers_written dyndrops,
        numbers_written errors,
        numbers_written specdrops,
      ) (rounded cause exit word)

  pub text-inactive : reply_text (status Inactive seen errors aggdrops dyndrops specdrops specfails)
      ≡ status_text (codes "null") (codes "null") (codes "inactive") seen errors aggdrops dyndrops specdrops specfails
  unfolding serde_json_on_literals
  text-inactive = text-status Inactive (codes "null") (codes "null") (codes "inactive") refl refl refl

  pub text-active : reply_text (status Active seen errors aggdrops dyndrops specdrops specfails)
      ≡ status_text (codes "null") (codes "null") (codes "active") seen errors aggdrops dyndrops specdrops specfails
  unfolding serde_json_on_literals
  text-active = text-status Active (codes "null") (codes "null") (codes "active") refl refl refl

  pub text-stopped : reply_text (status (Stopped (Some Stop)) seen errors aggdrops dyndrops specdrops specfails)
      ≡ status_text (codes "\"stop\"") (codes "null") (codes "stopped") seen errors aggdrops dyndrops specdrops specfails
  unfolding serde_json_on_literals
  text-stopped =
      text-status (Stopped (Some Stop)) (codes "\"stop\"") (codes "null") (codes "stopped") refl refl refl

  pub text-exited : (code : ℤ)
      → reply_text (status (Stopped (Some (Exit code))) seen errors aggdrops dyndrops specdrops specfails)
      ≡ status_text (codes "\"exit\"") (signed_decimal code) (codes "stopped") seen errors aggdrops dyndrops specdrops
      specfails
  unfolding serde_json_on_literals
  text-exited code =
      text-status (Stopped (Some (Exit code))) (codes "\"exit\"") (signed_decimal code) (codes "stopped") refl
      (signed_written code) refl

  pub text-history : reply_text (status (Stopped (Some History)) seen errors aggdrops dyndrops specdrops specfails)
      ≡ status_text (codes "\"history\"") (codes "null") (codes "stopped") seen errors aggdrops dyndrops specdrops specfails
  unfolding serde_json_on_literals
  text-history =
      text-status (Stopped (Some History)) (codes "\"history\"") (codes "null") (codes "stopped") refl refl refl

  pub text-closed : reply_text (status (Stopped None) seen errors aggdrops dyndrops specdrops specfails)
      ≡ status_text (codes "null") (codes "null") (codes "stopped") seen errors aggdrops dyndrops specdrops specfails
  unfolding serde_json_on_literals
  text-closed = text-status (Stopped None) (codes "null") (codes "null") (codes "stopped") refl refl refl

-- a status in any phase
word_quoted : (phase : Phase) → compact_text (string (phase_word phase)) ≡ 34 ∷ (phase_word phase ++ 34 ∷ [])
unfolding serde_json_on_literals
word_quoted Inactive = refl
word_quoted Active = refl
word_quoted (Stopped end) = refl

pub text-of_status : (phase : Phase) (seen : ℕ) (errors aggdrops dyndrops specdrops : List ℕ) (specfails : ℕ)
    → reply_text (status phase seen errors aggdrops dyndrops specdrops specfails)
    ≡ status_text (compact_text (cause_data phase)) (compact_text (exit_data phase)) (phase_word phase) seen errors
    aggdrops dyndrops specdrops specfails
text-of_status phase seen errors aggdrops dyndrops specdrops specfails =
    text-status seen errors aggdrops dyndrops specdrops specfails phase (compact_text (cause_data phase))
    (compact_text (exit_data phase)) (phase_word phase) refl refl (word_quoted phase)

-- one number more
pushed : (first : ℕ) (more : List ℕ) (last : ℕ)
    → numbers_text (first ∷ (more ++ last ∷ [])) ≡ numbers_text (first ∷ more) ++ 44 ∷ decimal last
pushed first [] last = refl
pushed first (next ∷ more) last =
    ap (λ text. decimal first ++ 44 ∷ text) (pushed next more last)
    ∙ sym (append_assoc (decimal first) (44 ∷ numbers_text (next ∷ more)) (44 ∷ decimal last))

pub numbers_more : (line now comma after : List ℕ) (first : ℕ) (more : List ℕ) (place number : ℕ)
    → place < length more → number ≡ get_or more place 0 → now ≡ line ++ numbers_text (first ∷ take place more)
    → comma ≡ now ++ 44 ∷ [] → after ≡ comma ++ decimal number
    → after ≡ line ++ numbers_text (first ∷ take (place + 1) more)
numbers_more line now comma after first more place number within is so commaed added =
    let taken : take (place + 1) more ≡ take place more ++ number ∷ [] =
    take_more more place 0 within ∙ ap (λ n. take place more ++ n ∷ []) (sym is) in
    rw (added, commaed, so, taken, pushed first (take place more) number) (simp append_assoc)

pub numbers_all : (line now : List ℕ) (first : ℕ) (more : List ℕ) (place : ℕ) → length more ≤ place
    → now ≡ line ++ numbers_text (first ∷ take place more) → now ≡ line ++ numbers_text (first ∷ more)
numbers_all line now first more place ended so = rw (take_all place more ended) at so

-- the pieces of a line that are added one after the other
pub added : (a b c d e f g h i j k l m n o p q r s : List ℕ)
    (a1 a2 a3 a4 a5 a6 a7 a8 a9 a10 a11 a12 a13 a14 a15 a16 a17 a18 all : List ℕ)
    → a1 ≡ a → a2 ≡ a1 ++ b → a3 ≡ a2 ++ c → a4 ≡ a3 ++ d → a5 ≡ a4 ++ e → a6 ≡ a5 ++ f → a7 ≡ a6 ++ g → a8 ≡ a7 ++ h
    → a9 ≡ a8 ++ i → a10 ≡ a9 ++ j → a11 ≡ a10 ++ k → a12 ≡ a11 ++ l → a13 ≡ a12 ++ m → a14 ≡ a13 ++ n → a15 ≡ a14 ++ o
    → a16 ≡ a15 ++ p → a17 ≡ a16 ++ q → a18 ≡ a17 ++ r → all ≡ a18 ++ s
    → all ≡ a ++ b ++ c ++ d ++ e ++ f ++ g ++ h ++ i ++ j ++ k ++ l ++ m ++ n ++ o ++ p ++ q ++ r ++ s
added a b c d e f g h i j k l m n o p q r s a1 a2 a3 a4 a5 a6 a7 a8 a9 a10 a11 a12 a13 a14 a15 a16 a17 a18 all
    e1 e2 e3 e4 e5 e6 e7 e8 e9 e10 e11 e12 e13 e14 e15 e16 e17 e18 e19 =
    rw (e19, e18, e17, e16, e15, e14, e13, e12, e11, e10, e9, e8, e7, e6, e5, e4, e3, e2, e1) (simp append_assoc)
