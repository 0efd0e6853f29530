-- A seat as a session opens there, and as it closes.
use Rattle.std.proofs.Common.{◌≡◌, ◌<◌, ◌+◌, ℕ, List, [], ◌∷◌, ◌++◌, length, refl, sym, ap, ◌∙◌, subst, arith, Option, Some, None, IfSome}
use Rattle.std.specs.List.{slice_get}
use Rattle.std.specs.Option.{option_map}
use Rattle.std.proofs.lemmas.List.{length-append}
use Rattle.std.proofs.lemmas.Option.{slice_get_within}
use Rattle.atomic_table.specs.Seated.{TableId}
use Rattle.dt_cred.specs.declared.account.Account.{Account}
use Rattle.dt_facts.specs.Facts.{growing_lists, life_fact, lists_in}
use Rattle.dt_facts.specs.Handles.{BegunLists, HeldFact, begun, holding}
use Rattle.dt_facts.specs.Lives.{AreClosed, IsOpenAs, closed, opened}
use Rattle.dt_facts.specs.declared.fact.LastNote.{LastNote}
use Rattle.dt_facts.specs.declared.fact.LifeStep.{LifeStep}
use Rattle.dt_facts.specs.laws.Lives.{life_closes, life_opens}
use Rattle.dt_machine.specs.Registry.{Contents}
use Rattle.dt_seat.specs.Keeps.{IsEarlier, IsKeptFor, IsLeft, KeptNote, kept, took_in, without_note}
use Rattle.dt_seat.specs.Knowledge.{AreUnknownFrom, KnownItems, SaysLives, steps_in}
use Rattle.dt_seat.specs.Names.{life_name}
use Rattle.dt_seat.specs.Publications.{IsPublished}
use Rattle.dt_seat.specs.Seats.{IsFree, IsIdle, IsTaken}
use Rattle.dt_seat.specs.Sessions.{IsNotebook, IsSessionOn, lines_from}
use Rattle.dt_seat.specs.declared.idle.Idle.{Idle}
use Rattle.dt_seat.specs.declared.line_kept.LineKept.{LineKept}
use Rattle.dt_seat.specs.declared.present.Present.{Present}
use Rattle.dt_seat.proofs.Sitting.{one_open}
use Rattle.dt_trail.specs.Items.{TrailItem}
use Rattle.dt_trail.specs.Known.{AreNew, Noted, noted}
use Rattle.dt_trail.specs.declared.law.Named.{Named}

pub unmapped : {X Y : Type 0} (f : X → Y) (o : Option X) → option_map f o ≡ None → o ≡ None
unmapped f None e = refl
unmapped f (Some x) e = absurd (let bad : Some (f x) ≡ None = e in cc bad)

says : (word : TableId) (cpus seat : ℕ) (held : HeldFact) (steps : List LifeStep) → held ≡ holding word (life_name cpus seat) (life_fact steps)
    → SaysLives word cpus seat held
says word cpus seat held steps e =
    e ∙ ap (λ (l : List LifeStep). holding word (life_name cpus seat) (life_fact l)) (sym (ap (λ (h : HeldFact). steps_in h.fact) e))

later_still : (life : ℕ) (took : Option LastNote) → IsEarlier life took → IsEarlier (life + 1) took
later_still life None h = tt
later_still life (Some last) h = omega (arith, h)

-- what is kept for a processor once the session closed
left_of : (word : TableId) (cpus seat cpu life : ℕ) (row : Named Account) (knows : List TrailItem) (book : HeldFact) (note : Option (Noted Account))
    → IsKeptFor word cpus seat cpu life row knows (kept note book) → IsLeft word cpus seat cpu (life + 1) (kept None book)
left_of word cpus seat cpu life row knows book None h = record {
  book = h.book;
  earlier = subst (IsEarlier (life + 1)) (sym (h.taken refl)) (let below : life < life + 1 = omega arith in below);
  none = refl;
}
left_of word cpus seat cpu life row knows book (Some n) h = record {
  book = h.book;
  earlier = later_still life (took_in book.fact) (h.untaken n refl).2;
  none = refl;
}

left_each : (word : TableId) (cpus seat cpu life : ℕ) (row : Named Account) (knows : List TrailItem) (o : Option KeptNote)
    → IfSome o (IsKeptFor word cpus seat cpu life row knows) → IfSome (option_map without_note o) (IsLeft word cpus seat cpu (life + 1))
left_each word cpus seat cpu life row knows None h = tt
left_each word cpus seat cpu life row knows (Some k) h = left_of word cpus seat cpu life row knows k.book k.note h

-- and once the next opened, where the processor's new note is there
kept_each : (word : TableId) (cpus seat cpu life : ℕ) (row : Named Account) (note : Option (Noted Account)) (o : Option KeptNote)
    → ((k : KeptNote) → o ≡ Some k → note ≡ Some (noted row (cpu + 1) [])) → IfSome o (IsLeft word cpus seat cpu life)
    → IfSome (option_map (λ (k : KeptNote). kept note k.book) o) (IsKeptFor word cpus seat cpu life row [])
kept_each word cpus seat cpu life row mine None there h = tt
kept_each word cpus seat cpu life row mine (Some k) there h = record {
  book = h.book;
  untaken = λ n is.
      let same : Some (noted row (cpu + 1) []) ≡ Some n = sym (there k refl) ∙ is in
      let one : noted row (cpu + 1) [] ≡ n = cc same in
      (sym one, refl, h.earlier);
  taken = λ is. absurd (let bad : Some (noted row (cpu + 1) []) ≡ None = sym (there k refl) ∙ is in cc bad);
}

-- the first of new notes is the session's
pub first_note : (row : Named Account) (count : ℕ) (notes : List (Noted Account)) (one : Noted Account) → AreNew row (count + 1) notes
    → slice_get notes 0 ≡ Some one → one ≡ noted row 0 []
first_note row count notes one new is =
    let same : Some one ≡ Some (noted row 0 []) = sym is ∙ new.1 0 (omega arith) in
    cc same

module _ {J : Type 0} (word : TableId) (contents : Contents) (number life : ℕ) (lives : HeldFact) (present : Present J)
    (keeps : List KeptNote) (h : IsTaken word contents number life lives present keeps) where
  -- the seat is free once its session closed
  pub seat_closed : (sat : ℕ) (account : Account) (share : HeldFact) (begun_lives : BegunLists) (known : KnownItems) (note : Noted Account)
      → IsSessionOn word contents.registry.cpus number sat account share begun_lives known note → lives.fact ≡ share.fact
      → (book mine : HeldFact) → book ≡ holding word (life_name contents.registry.cpus number) (life_fact (steps_in share.fact ++ closed ∷ []))
      → mine ≡ book → (left : List KeptNote) → length left ≡ length keeps
      → ((cpu : ℕ) → slice_get left cpu ≡ option_map without_note (slice_get keeps cpu))
      → IsFree word contents number (life + 1) book (Some (record { share = mine; known = known })) left
  seat_closed sat account share begun_lives known note s agree book mine is mine_is left many each =
      let open_now : IsOpenAs life present.owner.row (steps_in share.fact) =
      subst (λ (l : List LifeStep). IsOpenAs life present.owner.row l) (ap steps_in agree) h.is_open in
      let same : sat ≡ life = (one_open (steps_in share.fact) sat life note.row present.owner.row s.is_open open_now).0 in
      record {
        few = h.few;
        many = many ∙ h.many;
        lives_are = says word contents.registry.cpus number book (steps_in share.fact ++ closed ∷ []) is;
        all_closed = subst (λ (l : List LifeStep). AreClosed (life + 1) l) (sym (ap (λ (b : HeldFact). steps_in b.fact) is))
            (life_closes (steps_in share.fact) life present.owner.row open_now);
        idle = record {
          share = mine_is;
          known_is = s.known_is;
          later = subst (λ (l : ℕ). AreUnknownFrom (l + 1) known.list) same s.later;
        };
        each = λ cpu. subst (λ (o : Option KeptNote). IfSome o (IsLeft word contents.registry.cpus number cpu (life + 1))) (sym (each cpu))
            (left_each word contents.registry.cpus number cpu life present.owner.row present.owner.knows (slice_get keeps cpu) (h.each cpu));
      }

module _ (word : TableId) (contents : Contents) (number life : ℕ) (lives : HeldFact) (free : Option Idle) (keeps : List KeptNote)
    (h : IsFree word contents number life lives free keeps) (idle : Idle) (i : IsIdle word contents number life lives idle)
    (row : Named Account) (book mine : HeldFact)
    (is : book ≡ holding word (life_name contents.registry.cpus number) (life_fact (steps_in idle.share.fact ++ opened row ∷ []))) (mine_is : mine ≡ book) where
  abbrev steps : List LifeStep
  steps = steps_in idle.share.fact ++ opened row ∷ []

  open_now : IsOpenAs life row steps
  open_now = life_opens (steps_in idle.share.fact) life row
      (subst (λ (s : HeldFact). AreClosed life (steps_in s.fact)) (sym i.share) h.all_closed)

  book_steps : steps_in book.fact ≡ steps
  book_steps = ap (λ (b : HeldFact). steps_in b.fact) is

  pub seat_says : SaysLives word contents.registry.cpus number book
  seat_says = says word contents.registry.cpus number book steps is

  pub seat_open : IsOpenAs life row (steps_in book.fact)
  seat_open = subst (λ (l : List LifeStep). IsOpenAs life row l) (sym book_steps) open_now

  -- the session that opens
  pub session_opened : (account : Account) (all : BegunLists) (note : Noted Account)
      → all ≡ begun word (life_name contents.registry.cpus number) (lists_in book.fact) → row.account ≡ account → note ≡ noted row 0 []
      → IsSessionOn word contents.registry.cpus number life account mine all idle.known note
  session_opened account all note begun_is whose_is first =
      let mine_steps : steps_in mine.fact ≡ steps = ap (λ (b : HeldFact). steps_in b.fact) (mine_is ∙ is) in
      let row_is : note.row ≡ row = ap (λ (n : Noted Account). n.row) first in
      record {
        mine = sym whose_is ∙ ap (λ (r : Named Account). r.account) (sym row_is);
        share_is = says word contents.registry.cpus number mine steps (mine_is ∙ is);
        is_open = subst (λ (p : Named Account × List LifeStep). IsOpenAs life p.0 p.1) (λ k. (sym row_is k, sym mine_steps k)) open_now;
        lives_are = begun_is
            ∙ ap (λ (b : HeldFact). begun word (life_name contents.registry.cpus number) (lists_in b.fact)) is
            ∙ ap (λ (l : List LifeStep). begun word (life_name contents.registry.cpus number) (growing_lists [] [] l)) (sym mine_steps);
        known_is = i.known_is;
        knows = i.later life (omega arith) ∙ ap (λ (n : Noted Account). n.knows) (sym first);
        later = λ l le. i.later l (omega (arith, le));
      }

  pub notes_dealt : (notes : List (Noted Account)) → AreNew row (contents.registry.cpus + 1) notes → (left : List KeptNote)
      → ((cpu : ℕ) → slice_get left cpu ≡ option_map (λ (k : KeptNote). kept (slice_get notes (cpu + 1)) k.book) (slice_get keeps cpu))
      → (cpu : ℕ) → IfSome (slice_get left cpu) (IsKeptFor word contents.registry.cpus number cpu life row [])
  notes_dealt notes new left each cpu =
      subst (λ (o : Option KeptNote). IfSome o (IsKeptFor word contents.registry.cpus number cpu life row [])) (sym (each cpu))
      (kept_each word contents.registry.cpus number cpu life row (slice_get notes (cpu + 1)) (slice_get keeps cpu)
      (λ k is. let within = slice_get_within keeps cpu k is in new.1 (cpu + 1) (omega (arith, within, h.many))) (h.each cpu))

no_start : (before rest : List TrailItem) (item : TrailItem) → [] ≡ (before ++ item ∷ []) ++ rest → ⊥
no_start before rest item e =
    let whole = length-append (before ++ item ∷ []) rest in
    let part = length-append before (item ∷ []) in
    let none : 0 ≡ length ((before ++ item ∷ []) ++ rest) = ap length e in
    omega (arith, whole, part, none)

-- nothing is published where there is no item
pub nothing_published : (contents : Contents) (seat life : ℕ) (account : Account) → IsPublished contents seat life account [] []
nothing_published contents seat life account = λ before item at mine go. absurd (no_start before at.0 item at.1)

-- a session that knows nothing has published nothing
pub notebook_opened : (contents : Contents) (seat life : ℕ) (row : Named Account) (note : Noted Account) (lines : List LineKept)
    → note ≡ noted row 0 [] → lines ≡ [] → IsNotebook contents seat life note lines None
notebook_opened contents seat life row note lines first none = record {
  first = ap (λ (n : Noted Account). n.number) first;
  own_lines = subst (λ (n : Noted Account). lines ≡ lines_from 0 n.knows) (sym first) none;
  published = subst (λ (n : Noted Account). IsPublished contents seat life n.row.account n.knows []) (sym first)
      (nothing_published contents seat life row.account);
}
