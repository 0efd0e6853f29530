-- What a seat becomes as a firing is offered and a line is asked.
use Rattle.std.proofs.Common.{◌≡◌, ◌≢◌, ◌<◌, ◌+◌, ℕ, Bool, true, false, cond, List, [], ◌∷◌, ◌++◌, length, refl, sym, ap, ◌∙◌, subst, arith, ne_eqb, append-nil, Option, Some, None, Result, Ok, Err, OnOk, OnErr, inl, inr, ⊎_elim, if◌then◌else◌}
use Rattle.std.proofs.lemmas.List.{length-set}
use Rattle.std.specs.List.{slice_get, slice_set}
use Rattle.atomic_table.specs.Seated.{TableId}
use Rattle.dt_consumer.specs.declared.consumer.Consumer.{Consumer}
use Rattle.dt_cred.specs.declared.account.Account.{Account}
use Rattle.dt_cred.specs.declared.firing.Firing.{Firing}
use Rattle.dt_facts.specs.Handles.{HeldFact}
use Rattle.dt_facts.specs.Facts.{last_note}
use Rattle.dt_facts.specs.Lives.{IsRowOfLife, lives_over}
use Rattle.dt_facts.specs.laws.Lives.{over_closed, over_open}
use Rattle.dt_seat.specs.Knowledge.{steps_in}
use Rattle.dt_seat.specs.declared.idle.Idle.{Idle}
use Rattle.dt_facts.specs.declared.fact.LastNote.{LastNote}
use Rattle.dt_legal.specs.Rows.{IsLegalRow, line_form_of, life_of_row}
use Rattle.dt_life.specs.Life.{is_over}
use Rattle.dt_life.specs.Sees.{Sees}
use Rattle.dt_life.specs.laws.Lists.{replaced}
use Rattle.dt_life.specs.laws.Options.{if_some_map}
use Rattle.dt_machine.specs.Registry.{Contents}
use Rattle.std.specs.Option.{option_map}
use Rattle.dt_seat.proofs.Begins.{own_of_other}
use Rattle.dt_seat.proofs.Known.{by_note, not_by_note}
use Rattle.dt_seat.proofs.Offering.{goes_on_self}
use Rattle.dt_seat.specs.Keeps.{Carries, Followed, IsKeptFor, KeptNote, known_by, known_in, known_of, noted_in, noted_of, over_of, told_in, with_note}
use Rattle.dt_seat.specs.Seats.{IsRepliedTo, ComesOfFiring, IsSeat, IsTaken, Reaches, StaysOn, TrailGoesOn, after_line_of}
use Rattle.dt_seat.specs.declared.after_line.AfterLine.{AfterLine}
use Rattle.dt_seat.specs.declared.held.Held.TheVariants.{Kept as WasKept, Unseen}
use Rattle.dt_seat.specs.Trailed.{IsDue, IsTrailed, row_after, row_offered, with_items}
use Rattle.dt_seat.specs.declared.present.Present.{Present}
use Rattle.dt_trail.specs.Items.{TrailItem, fired, own, whose}
use Rattle.dt_trail.specs.Known.{Grows, Meets, Noted, noted}
use Rattle.dt_trail.specs.declared.law.Named.{Named}
use Rattle.dt_trail.specs.laws.Starts.{starts_trans}

own_offered : (row : List TrailItem) (firing : Firing) (is_seen : Bool) (cpu : ℕ) → cpu ≢ firing.cpu
    → own (cpu + 1) (row_offered row firing is_seen) ≡ own (cpu + 1) row
own_offered row firing true cpu other =
    own_of_other (cpu + 1) row (fired firing.cpu firing.place) (λ e. other (omega (arith, e)))
own_offered row firing false cpu other = refl

-- what is kept for a processor stays right where the trail has no further item of it
kept_still : (word : TableId) (cpus seat cpu life : ℕ) (row : Named Account) (knows more : List TrailItem) (k : KeptNote)
    → own (cpu + 1) more ≡ own (cpu + 1) knows → IsKeptFor word cpus seat cpu life row knows k
    → IsKeptFor word cpus seat cpu life row more k
kept_still word cpus seat cpu life row knows more k same h = record {
  book = h.book;
  untaken = λ n is. let u = h.untaken n is in (u.0, same ∙ u.1, u.2);
  taken = h.taken;
}

-- and where its note isn't there
kept_lent : (word : TableId) (cpus seat cpu life : ℕ) (row : Named Account) (knows more : List TrailItem) (k : KeptNote)
    → k.note ≡ None → IsKeptFor word cpus seat cpu life row knows k → IsKeptFor word cpus seat cpu life row more k
kept_lent word cpus seat cpu life row knows more k none h = record {
  book = h.book;
  untaken = λ n is. absurd (let bad : None ≡ Some n = sym none ∙ is in cc);
  taken = h.taken;
}

module _ {J : Type 0} (word : TableId) (contents : Contents) (number life : ℕ) (lives : HeldFact) (present : Present J)
    (keeps : List KeptNote) (h : IsTaken word contents number life lives present keeps) where
  abbrev cpus : ℕ
  cpus = contents.registry.cpus

  -- after a firing was offered on behalf of a processor whose note isn't there
  pub taken_offered : (firing : Firing) (is_seen : Bool) (consumer : Consumer) (k : KeptNote)
      → IsTrailed contents present.account (with_items present.owner (row_offered present.owner.knows firing is_seen)) consumer
      → k.note ≡ None
      → IsKeptFor word cpus number firing.cpu life present.owner.row present.owner.knows k
      → IsTaken {J = J} word contents number life lives
      (record {
        account = present.account;
        owner = with_items present.owner (row_offered present.owner.knows firing is_seen);
        consumer = consumer;
        is_published = present.is_published;
        front = present.front;
      }) (slice_set keeps firing.cpu k)
  taken_offered firing is_seen consumer k trailed none right = record {
    few = h.few;
    many = length-set keeps firing.cpu k ∙ h.many;
    lives_are = h.lives_are;
    is_open = h.is_open;
    trailed = trailed;
    each = replaced
        (λ cpu. IsKeptFor word cpus number cpu life present.owner.row (row_offered present.owner.knows firing is_seen))
        keeps firing.cpu k
        (kept_lent word cpus number firing.cpu life present.owner.row present.owner.knows
        (row_offered present.owner.knows firing is_seen) k none right)
        (λ cpu other. if_some_map
        (IsKeptFor word cpus number cpu life present.owner.row present.owner.knows)
        (IsKeptFor word cpus number cpu life present.owner.row (row_offered present.owner.knows firing is_seen))
        (slice_get keeps cpu)
        (λ one. kept_still word cpus number cpu life present.owner.row present.owner.knows
        (row_offered present.owner.knows firing is_seen) one (own_offered present.owner.knows firing is_seen cpu other))
        (h.each cpu));
  }

module _ (contents : Contents) (life : ℕ) (firing : Firing) (old lent : Followed) (note : Noted Account)
    (took : lent.took ≡ Some (last_note life note.row)) (named : IsRowOfLife life note.row lent.lives) (has : lent.note ≡ Some note)
    (over : over_of lent ≡ life) (known : known_of life lent ≡ known_of life old) (carried : Carries old lent life) where
  elsewhere : (l : ℕ) (knows : List TrailItem) → l ≢ life → known_in l lent.took knows lent.told ≡ told_in l lent.told
  elsewhere l knows other =
      ap (λ (t : Option LastNote). known_in l t knows lent.told) took
      ∙ not_by_note life l note.row knows lent.told (λ e. other (sym e))

  unnoted : (l : ℕ) (knows : List TrailItem) → l ≢ life → noted_in l lent.took knows ≡ []
  unnoted l knows other =
      ap (λ (t : Option LastNote). noted_in l t knows) took
      ∙ ap (λ (b : Bool). cond b knows []) (ne_eqb life l (λ e. other (sym e)))

  carries_on : (new : Noted Account) → Carries old (with_note lent new) life
  carries_on new = record {
    seat = carried.seat;
    cpu = carried.cpu;
    lives = carried.lives;
    same = λ l other. ⊎_elim
        (λ (over : l < over_of lent). inl over)
        (λ (same : known_of l lent ≡ known_of l old). inr
        (elsewhere l new.knows other ∙ sym (elsewhere l (known_by lent.note) other) ∙ same))
        (carried.same l other);
    noted = λ l other. ⊎_elim
        (λ (over : l < over_of lent). inl over)
        (λ (same : noted_of l lent ≡ noted_of l old). inr
        (unnoted l new.knows other ∙ sym (unnoted l (known_by lent.note) other) ∙ same))
        (carried.noted l other);
  }

  -- what was known of the life is what the note knows
  known_before : known_of life old ≡ note.knows
  known_before =
      sym known
      ∙ ap (λ (t : Option LastNote). known_in life t (known_by lent.note) lent.told) took
      ∙ by_note life note.row (known_by lent.note) lent.told
      ∙ ap known_by has

  reaches : (trail : List TrailItem) → note.number ≡ firing.cpu + 1 → Meets trail note
      → IsLegalRow note.row.account contents trail
      → Reaches contents note.row.account firing.cpu (known_of life old) trail
  reaches trail mine met legal = record {
    begins = rw known_before met.0;
    own_same = rw (known_before, ← mine) met.1;
    legal = legal;
  }

  pub held_kept : (trail : List TrailItem) → note.number ≡ firing.cpu + 1 → Meets trail note
      → IsLegalRow note.row.account contents trail
      → Sees note.row.account contents.registry (life_of_row note.row.account contents trail) firing
      → ComesOfFiring contents life firing WasKept old
      (with_note lent (noted note.row note.number (trail ++ fired firing.cpu firing.place ∷ [])))
  held_kept trail mine met legal sees =
      let new = noted note.row note.number (trail ++ fired firing.cpu firing.place ∷ []) in
      (carries_on new, (new, trail, record { took = took; has = refl; over_is = over }, reaches trail mine met legal, sees, refl, named))

  pub held_unseen : (trail : List TrailItem) (count : ℕ) → note.number ≡ firing.cpu + 1 → Meets trail note
      → IsLegalRow note.row.account contents trail
      → (Sees note.row.account contents.registry (life_of_row note.row.account contents trail) firing → ⊥)
      → length trail ≡ count
      → ComesOfFiring contents life firing (Unseen count) old (with_note lent (noted note.row note.number trail))
  held_unseen trail count mine met legal unseen all =
      let new = noted note.row note.number trail in
      (carries_on new, (new, record { took = took; has = refl; over_is = over }, reaches trail mine met legal, unseen, all, named))

pub some_same : {X : Type 0} (x y : X) → Some x ≡ Some y → x ≡ y
some_same x y e = cc

-- a trail that is as it was goes on
pub stays_on_self : {J : Type 0} (present : Option (Present J)) → StaysOn (option_map (λ p. p.owner) present) (option_map (λ p. p.owner) present)
stays_on_self None = refl
stays_on_self (Some p) = goes_on_self p.owner

-- with a seat whose life is open, or without: which lives are over
pub seat_over : {J : Type 0} (word : TableId) (contents : Contents) (number life : ℕ) (present : Option (Present J)) (lives : HeldFact) (free : Option Idle)
    (keeps : List KeptNote) → IsSeat word contents number life present lives free keeps → lives_over (steps_in lives.fact) ≡ life
seat_over word contents number life None lives free keeps h = over_closed (steps_in lives.fact) life h.all_closed
seat_over word contents number life (Some p) lives free keeps h = over_open (steps_in lives.fact) life p.owner.row h.0.is_open

-- what is kept for processors stays right where a line is appended
own_line : (cpu : ℕ) (row : List TrailItem) (is_over : Bool) (item : TrailItem) → whose item ≡ 0
    → own (cpu + 1) (if is_over then row else (row ++ item ∷ [])) ≡ own (cpu + 1) row
own_line cpu row true item mine = refl
own_line cpu row false item mine = own_of_other (cpu + 1) row item (λ e. absurd (omega (arith, mine, e)))

module _ {J : Type 0} (word : TableId) (contents : Contents) (number life : ℕ) (lives : HeldFact) (present : Present J)
    (keeps : List KeptNote) (h : IsTaken word contents number life lives present keeps) where
  -- once a processor's note was lent to it
  pub taken_lent : (cpu : ℕ) (k : KeptNote) → IsKeptFor word contents.registry.cpus number cpu life present.owner.row present.owner.knows k
      → IsTaken word contents number life lives present (slice_set keeps cpu k)
  taken_lent cpu k right = record {
    few = h.few;
    many = length-set keeps cpu k ∙ h.many;
    lives_are = h.lives_are;
    is_open = h.is_open;
    trailed = h.trailed;
    each = replaced (λ c. IsKeptFor word contents.registry.cpus number c life present.owner.row present.owner.knows) keeps cpu k right (λ c other. h.each c);
  }

  -- where the trail has the items that it had
  taken_same : (new : Present J) → new.owner.row ≡ present.owner.row → new.owner.knows ≡ present.owner.knows
      → IsTrailed contents new.account new.owner new.consumer
      → IsTaken word contents number life lives new keeps
  taken_same new row knows trailed = record {
    few = h.few;
    many = h.many;
    lives_are = h.lives_are;
    is_open = rw row h.is_open;
    trailed = trailed;
    each = λ cpu. rw (row, knows) (h.each cpu);
  }

  -- after a line was asked
  pub taken_asked : (item : TrailItem) (new : Present J) → whose item ≡ 0
      → new.owner.row ≡ present.owner.row
      → new.owner.knows ≡ row_after present.account contents present.owner.knows item
      → IsTrailed contents new.account new.owner new.consumer
      → IsTaken word contents number life lives new keeps
  taken_asked item new mine row knows trailed = record {
    few = h.few;
    many = h.many;
    lives_are = h.lives_are;
    is_open = rw row h.is_open;
    trailed = trailed;
    each = λ cpu. if_some_map
        (IsKeptFor word contents.registry.cpus number cpu life present.owner.row present.owner.knows)
        (IsKeptFor word contents.registry.cpus number cpu life new.owner.row new.owner.knows)
        (slice_get keeps cpu)
        (λ one right. rw (row, knows)
        (kept_still word contents.registry.cpus number cpu life present.owner.row present.owner.knows
        (row_after present.account contents present.owner.knows item) one
        (own_line cpu present.owner.knows (is_over (life_of_row present.account contents present.owner.knows)) item mine) right))
        (h.each cpu);
  }

  -- whatever it came to: without memory the trail has the items that it had
  pub taken_answered : {A E : Type 0} (result : Result A E) (item : TrailItem) (new : Present J) → whose item ≡ 0
      → TrailGoesOn present.owner new.owner
      → OnOk result (new.owner.knows ≡ row_after present.account contents present.owner.knows item)
      → OnErr result (new.owner.knows ≡ present.owner.knows)
      → IsTrailed contents new.account new.owner new.consumer
      → IsTaken word contents number life lives new keeps
  taken_answered (Ok it) item new mine on appended same trailed = taken_asked item new mine on.row appended trailed
  taken_answered (Err it) item new mine on appended same trailed = taken_same new on.row same trailed

-- what a note knew, as it grew and then met its trail
pub grows_met : (old : Noted Account) (trail : List TrailItem) → Meets trail old → Grows old (noted old.row old.number trail)
grows_met old trail met = record { row = refl; number = refl; longer = met.0; same_own = met.1 }

pub grows_not : (old : Noted Account) → Grows old old
grows_not old = record { row = refl; number = refl; longer = ([], sym (append-nil old.knows)); same_own = refl }

pub answered_from : (contents : Contents) (account : Account) (old mid : Noted Account) (trail : List TrailItem) (item : TrailItem)
    (text : List ℕ) (ending : AfterLine) (after : List TrailItem) → old.number ≡ 0 → Grows old mid → Meets trail mid
    → IsLegalRow account contents trail → IsDue account contents trail (line_form_of item) text
    → ending ≡ after_line_of account contents trail item → after ≡ row_after account contents trail item
    → IsRepliedTo contents account old.knows item text ending after
answered_from contents account old mid trail item text ending after zero grows met legal due ends is = record {
  trail = trail;
  begins = starts_trans trail mid.knows old.knows met.0 grows.longer;
  lines = subst (λ (n : ℕ). own n trail ≡ own n old.knows) zero
      (subst (λ (n : ℕ). own n trail ≡ own n mid.knows) grows.number met.1 ∙ grows.same_own);
  legal = legal;
  due = due;
  after_is = is;
  ending_is = ends;
}
