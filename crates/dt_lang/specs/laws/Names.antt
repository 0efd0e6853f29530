-- No two signs are spelled alike, and no two words have one name.
use Rattle.std.proofs.Common.{◌≡◌, ◌≢◌, ℕ, ◌⊎◌, inl, inr, Bool, false, List, ◌++◌, Option, Some, None, refl, sym, ap}
use Rattle.std.proofs.Common.{◌∙◌}
use Rattle.std.specs.List.{find}
use Rattle.std.specs.Option.{option_map}
use Rattle.std.specs.Str.{bytes_eq}
use Rattle.dt_expr.specs.declared.scene.NumberVariable.TheVariants as number
use Rattle.dt_expr.specs.declared.scene.TextVariable.TheVariants as text
use Rattle.dt_lang.specs.Lexeme.{OPENING}
use Rattle.dt_lang.specs.Spelling.{spelling}
use Rattle.dt_lang.specs.Word.{name_of_word, IsKeptName, IsWord}
use Rattle.dt_lang.specs.declared.sign.TheConstants.{PAIRS, SINGLES}
use Rattle.dt_lang.specs.declared.token.Sign.{Sign}
use Rattle.dt_lang.specs.declared.token.Sign.TheVariants as sign
use Rattle.dt_lang.specs.declared.word.Action.TheVariants as action
use Rattle.dt_lang.specs.declared.word.Function.TheVariants as function
use Rattle.dt_lang.specs.declared.word.Destructive.TheVariants as destructive
use Rattle.dt_lang.specs.declared.word.Keyword.TheVariants as keyword
use Rattle.dt_lang.specs.declared.word.TheConstants.{WORDS}
use Rattle.dt_lang.specs.declared.word.Word.{Word}
use Rattle.dt_lang.specs.declared.word.Word.TheVariants as word
use Rattle.dt_lang.specs.machine.KnownWord.{as_word}
use Rattle.dt_lang.specs.laws.Words.{IsKnown}

-- the sign that bytes spell
abbrev sign_of : List ℕ → Option Sign
sign_of bytes = find (λ s. bytes_eq (spelling s) bytes) (PAIRS ++ SINGLES)

sign_of-spelling : (s : Sign) → sign_of (spelling s) ≡ Some s
sign_of-spelling sign.OrOr = refl
sign_of-spelling _ = refl

pub same_sign : (a b : Sign) → spelling a ≡ spelling b → a ≡ b
same_sign a b e =
    let both : Some a ≡ Some b = sym (sign_of-spelling a) ∙ ap sign_of e ∙ sign_of-spelling b in cc

pub no_opening : (s : Sign) → spelling s ≢ OPENING
no_opening s e = let bad : Some s ≡ None = sym (sign_of-spelling s) ∙ ap sign_of e in cc

-- whether this is a word's name
abbrev is_named : Option (List ℕ) → List ℕ → Bool
is_named (Some own) name = bytes_eq own name
is_named None name = false

-- the word of a name
abbrev word_of : Option (List ℕ) → Option Word
word_of (Some name) = option_map as_word (find (λ w. is_named (name_of_word (as_word w)) name) WORDS)
word_of None = None

word_of-name : (w : Word) → IsKnown w → word_of (name_of_word w) ≡ Some w
word_of-name (word.Action action.Trace) n = refl
word_of-name (word.Action _) n = refl
word_of-name (word.Function function.Count) n = refl
word_of-name (word.Function _) n = refl
word_of-name (word.Destructive destructive.Stop) n = refl
word_of-name (word.Destructive _) n = refl
word_of-name (word.Keyword keyword.ThreadLocal) n = refl
word_of-name (word.Keyword keyword.Speculation) n = refl
word_of-name (word.Number number.Arg0) n = refl
word_of-name (word.Number _) n = refl
word_of-name (word.Text text.Execname) n = refl
word_of-name (word.Text _) n = refl
word_of-name (word.Unknown kept) n = absurd n

same_word : (a b : Word) → IsKnown a → IsKnown b → name_of_word a ≡ name_of_word b → a ≡ b
same_word a b m n e =
    let both : Some a ≡ Some b = sym (word_of-name a m) ∙ ap word_of e ∙ word_of-name b n in cc

-- of one name the same is kept
same_kept : (name : List ℕ) (a b : Option (List ℕ)) → IsKeptName name a → IsKeptName name b → a ≡ b
same_kept name (Some x) (Some y) h k = ap Some (h.0 ∙ sym k.0)
same_kept name (Some x) None h k = absurd (k h.1)
same_kept name None (Some y) h k = absurd (h k.1)
same_kept name None None h k = refl

-- an unknown word, with what is kept of its name
record IsUnknown (name : List ℕ) (w : Word) : Type 0 where
  bytes : Option (List ℕ)
  is : w ≡ word.Unknown bytes
  kept : IsKeptName name bytes
  unnamed : (known : Word) → name_of_word known ≢ Some name

-- what an identifier says of its word: it is unknown, or this is its name
abbrev Known : List ℕ → Word → Type 0
Known name w = IsUnknown name w ⊎ (IsKnown w × (name_of_word w ≡ Some name))

known : (name : List ℕ) (w : Word) → IsWord name w → Known name w
known name (word.Unknown bytes) h = inl (record { bytes = bytes; is = refl; kept = h.1; unnamed = h.0 })
known name _ h = inr (tt, h)

pub one_word : (name : List ℕ) (a b : Word) → IsWord name a → IsWord name b → a ≡ b
one_word name a b h k = elim (known name a h) [
  | inl x ↦ elim (known name b k) [
    | inl y ↦ x.is ∙ ap (λ bytes. word.Unknown bytes) (same_kept name x.bytes y.bytes x.kept y.kept) ∙ sym y.is
    | inr y ↦ absurd (x.unnamed b y.1)
  ]
  | inr x ↦ elim (known name b k) [
    | inl y ↦ absurd (y.unnamed a x.1)
    | inr y ↦ same_word a b x.0 y.0 (x.1 ∙ sym y.1)
  ]
]
