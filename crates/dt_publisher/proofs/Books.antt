-- The books, as they are made, and as one of them goes on.
use Rattle.std.proofs.Common.{◌≡◌, ◌≢◌, ◌⊎◌, ℕ, zero, suc, ◌+◌, ◌<◌, List, [], ◌∷◌, ◌++◌, length, get_or, Result, Ok, Err, Some, sym, ap, ◌∙◌, subst, arith, inr, ⊎_elim}
use Rattle.std.proofs.lemmas.List.{length-set}
use Rattle.std.proofs.lemmas.Option.{slice_get-get_or}
use Rattle.std.specs.List.{slice_get, slice_set}
use Rattle.std.specs.Option.{IfSome}
use Rattle.std.specs.Result.{OnOk, OnErr}
use mathlib.Core.List.{IsPrefix}
use Rattle.atomic_table.specs.Seated.{TableId}
use Rattle.dt_chain.specs.Writes.{Write, seat_of, writes_of}
use Rattle.dt_facts.specs.Facts.{Follows, writes_fact}
use Rattle.dt_facts.specs.Handles.{HeldFact, holding}
use Rattle.dt_facts.specs.laws.Beginnings.{prefix_self}
use Rattle.dt_publisher.specs.Publishers.{AreOwnWrites, first_held, own_writes_held}
use Rattle.dt_publisher.specs.laws.OwnWrites.{own_begin, own_same}

-- one was changed
replaced : {X : Type 0} (Q : ℕ → X → Type 0) (xs : List X) (at : ℕ) (x : X) → Q at x
    → ((k : ℕ) → k ≢ at → IfSome (slice_get xs k) (Q k)) → (k : ℕ) → IfSome (slice_get (slice_set xs at x) k) (Q k)
replaced Q [] at x here others k = tt
replaced Q (y ∷ xs) zero x here others zero = here
replaced Q (y ∷ xs) zero x here others (suc k) = others (suc k) (λ e. absurd (omega arith))
replaced Q (y ∷ xs) (suc at) x here others zero = others zero (λ e. absurd (omega arith))
replaced Q (y ∷ xs) (suc at) x here others (suc k) =
    replaced (λ n. Q (suc n)) xs at x here (λ n ne. others (suc n) (λ e. ne (omega arith))) k

-- the same, said otherwise
said : {X : Type 0} (P Q : X → Type 0) (xs : List X) (k : ℕ) → ((x : X) → P x → Q x) → IfSome (slice_get xs k) P → IfSome (slice_get xs k) Q
said P Q [] k f h = tt
said P Q (x ∷ xs) zero f h = f x h
said P Q (x ∷ xs) (suc k) f h = said P Q xs k f h

-- what a book or a share holds, by its parts
pub held_as : (word other : TableId) (first name seat at : ℕ) (writes : List Write) (held : HeldFact)
    → held ≡ holding other name (writes_fact (writes_of writes at)) → other ≡ word → name ≡ first + seat → at ≡ seat
    → held ≡ own_writes_held word first writes seat
held_as word other first name seat at writes held is a b c = is ∙ (λ i. holding (a i) (b i) (writes_fact (writes_of writes (c i))))

module _ (word : TableId) (first : ℕ) (writes : List Write) where
  -- the first is that of seat 0
  pub first_is : (held : List HeldFact) → AreOwnWrites word first writes held → first_held held ≡ own_writes_held word first writes 0
  first_is [] are = absurd (omega (arith, are.many))
  first_is (one ∷ rest) are = are.each 0

  -- the word and the names are those of the first
  pub word_is : (held : List HeldFact) → AreOwnWrites word first writes held → (first_held held).word ≡ word
  word_is held are = ap (λ (one : HeldFact). one.word) (first_is held are)

  pub name_is : (held : List HeldFact) → AreOwnWrites word first writes held → (first_held held).name ≡ first
  name_is held are = omega (arith, ap (λ (one : HeldFact). one.name) (first_is held are))

  pub named_by_first : (held : List HeldFact) → AreOwnWrites word first writes held
      → AreOwnWrites (first_held held).word (first_held held).name writes held
  named_by_first held are = subst (λ (p : TableId × ℕ). AreOwnWrites p.0 p.1 writes held)
      (λ i. (sym (word_is held are) i, sym (name_is held are) i)) are

  -- the book at a place that there is
  pub book_at : (held : List HeldFact) (at : ℕ) (book : HeldFact) → AreOwnWrites word first writes held → at < length held
      → book ≡ get_or held at book → book ≡ own_writes_held word first writes at
  book_at held at book are small is =
      subst (λ o. IfSome o (λ (one : HeldFact). one ≡ own_writes_held word first writes at))
      (slice_get-get_or held at book small ∙ ap Some (sym is)) (are.each at)

-- All writes are as they were, or one more.
abbrev pub AreOneMore : Write → List Write → List Write → Type 0
AreOneMore write before after = (after ≡ before) ⊎ (after ≡ before ++ write ∷ [])

pub one_more : {E : Type 0} (write : Write) (before after : List Write) (P Q : Type 0) (result : Result (Unit {0}) E)
    → OnOk result ((after ≡ before ++ write ∷ []) × P) → OnErr result (Q × AreOneMore write before after) → AreOneMore write before after
one_more write before after P Q (Ok x) ok err = inr ok.0
one_more write before after P Q (Err e) ok err = err.1

-- No seat's own writes lose one.
pub none_lost : (write : Write) (before after : List Write) (seat : ℕ) → AreOneMore write before after
    → Follows (writes_fact (writes_of before seat)) (writes_fact (writes_of after seat))
none_lost write before after seat more = (own_begin before after seat begins, prefix_self [], prefix_self [])
  where
    begins : IsPrefix before after
    begins = ⊎_elim (λ (e : after ≡ before). subst (IsPrefix before) (sym e) (prefix_self before))
        (λ (e : after ≡ before ++ write ∷ []). (write ∷ [], sym e)) more

-- The own writes of a seat that didn't write are as they were.
others_same : (write : Write) (before after : List Write) (seat : ℕ) → AreOneMore write before after → seat_of write ≢ seat
    → writes_of after seat ≡ writes_of before seat
others_same write before after seat more other =
    ⊎_elim (λ (e : after ≡ before). ap (λ (l : List Write). writes_of l seat) e)
    (λ (e : after ≡ before ++ write ∷ []). ap (λ (l : List Write). writes_of l seat) e ∙ own_same write before seat other) more

-- The books, once that of the seat that wrote has gone on.
pub gone_on : (word : TableId) (first : ℕ) (write : Write) (before after : List Write) (held : List HeldFact) (at : ℕ) (one : HeldFact)
    → AreOwnWrites word first before held → AreOneMore write before after → at ≡ seat_of write
    → one ≡ own_writes_held word first after at → AreOwnWrites word first after (slice_set held at one)
gone_on word first write before after held at one are more is now = record {
  many = length-set held at one ∙ are.many;
  each = replaced (λ (k : ℕ) (h : HeldFact). h ≡ own_writes_held word first after k) held at one now
      (λ k ne. said (λ (h : HeldFact). h ≡ own_writes_held word first before k) (λ (h : HeldFact). h ≡ own_writes_held word first after k) held k
      (λ h e. e ∙ ap (λ (l : List Write). holding word (first + k) (writes_fact l))
      (sym (others_same write before after k more (λ s. ne (sym s ∙ sym is)))))
      (are.each k));
}
