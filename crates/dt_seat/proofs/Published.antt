-- What a session knows to be published stays so.
use Rattle.std.proofs.Common.{◌≡◌, ℕ, true, false, Bool, List, [], ◌∷◌, ◌++◌, refl, sym, ap, ◌∙◌, subst, arith, append-nil, ⊎_elim, Option, Some, if◌then◌else◌}
use Rattle.std.specs.List.{Contains}
use Rattle.std.specs.Option.{option_map_or}
use mathlib.Core.List.{IsPrefix}
use Rattle.dt_chain.specs.Writes.{Write}
use Rattle.dt_cred.specs.declared.account.Account.{Account}
use Rattle.dt_facts.specs.Facts.{last_note}
use Rattle.dt_facts.specs.declared.fact.LastNote.{LastNote}
use Rattle.dt_legal.specs.Rows.{life_of_row}
use Rattle.dt_life.specs.Life.{is_over}
use Rattle.dt_machine.specs.Registry.{Contents}
use Rattle.dt_seat.specs.Keeps.{Followed, known_by}
use Rattle.dt_seat.specs.Publications.{IsPublicationAfter, IsPublished}
use Rattle.dt_legal.specs.Rows.{IsGoAfter}
use Rattle.dt_cred.specs.declared.firing.Firing.{Firing}
use Rattle.dt_seat.specs.Seats.{ComesOfFiring, KnowsPublication, kept_items}
use Rattle.dt_seat.specs.declared.held.Held.{Held}
use Rattle.dt_seat.specs.declared.held.Held.TheVariants.{Gone, Kept, Unseen}
use Rattle.dt_seat.specs.Trailed.{row_after}
use Rattle.dt_seat.proofs.Begins.{own_of_other, stood_before, within_or_last}
use Rattle.dt_seat.specs.laws.Publications.{contained_still, still_published}
use Rattle.dt_trail.specs.Items.{StartsWith, TrailItem, fired, own}
use Rattle.dt_trail.specs.declared.law.Named.{Named}

module _ (contents : Contents) (seat life : ℕ) (account : Account) where
  -- where no further line came
  pub published_on : (known row : List TrailItem) (writes more : List Write) → StartsWith row known → own 0 row ≡ own 0 known
      → IsPrefix writes more → IsPublished contents seat life account known writes → IsPublished contents seat life account row more
  published_on known row writes more starts same begins h = λ before item at mine go.
      let found = h before item (stood_before 0 row known before item starts same at mine) mine go in
      (found.0, contained_still writes more found.0 begins found.1, found.2)

  abbrev Announced : List TrailItem → TrailItem → List Write → Type 0
  Announced row item writes = IsGoAfter account contents row item
      → (write : Write) × Contains writes write × IsPublicationAfter contents seat life account row write

  added : (row : List TrailItem) (item : TrailItem) (writes : List Write) → IsPublished contents seat life account row writes
      → Announced row item writes → IsPublished contents seat life account (row ++ item ∷ []) writes
  added row item writes h new = λ before other at mine go.
      ⊎_elim
      (λ (within : StartsWith row (before ++ other ∷ [])). h before other within mine go)
      (λ (last : (before ≡ row) × (other ≡ item)).
      let now : IsGoAfter account contents row item = subst (λ (p : List TrailItem × TrailItem). IsGoAfter account contents p.0 p.1) (λ i. (last.0 i, last.1 i)) go in
      let found = new now in
      (found.0, found.1, subst (λ (l : List TrailItem). IsPublicationAfter contents seat life account l found.0) (sym last.0) found.2))
      (within_or_last row before item other at)

  -- where a line came, and was published if it is a `go`
  pub published_line : (row : List TrailItem) (item : TrailItem) (writes : List Write) → IsPublished contents seat life account row writes
      → Announced row item writes → IsPublished contents seat life account (row_after account contents row item) writes
  published_line row item writes h new = by_quota (is_over (life_of_row account contents row))
    where
      by_quota : (b : Bool) → IsPublished contents seat life account (if b then row else (row ++ item ∷ [])) writes
      by_quota true = h
      by_quota false = added row item writes h new

  -- where a firing was offered
  pub still_there : (row : List TrailItem) (writes : List Write) (held : Held) (firing : Firing) → IsPublished contents seat life account row writes
      → IsPublished contents seat life account (row ++ kept_items held firing) writes
  still_there row writes Kept firing h = published_on row (row ++ fired firing.cpu firing.place ∷ []) writes writes (fired firing.cpu firing.place ∷ [], refl)
      (own_of_other 0 row (fired firing.cpu firing.place) (λ e. absurd (omega (arith, e)))) ([], append-nil writes) h
  still_there row writes (Unseen known) firing h = subst (λ (r : List TrailItem). IsPublished contents seat life account r writes) (sym (append-nil row)) h
  still_there row writes Gone firing h = subst (λ (r : List TrailItem). IsPublished contents seat life account r writes) (sym (append-nil row)) h

-- what comes of a firing at a seat, comes to what the processor has there
same_seat : (contents : Contents) (life : ℕ) (firing : Firing) (held : Held) (old new : Followed) → ComesOfFiring contents life firing held old new → new.seat ≡ old.seat
same_seat contents life firing Kept old new comes = comes.0.seat
same_seat contents life firing (Unseen known) old new comes = comes.0.seat
same_seat contents life firing Gone old new comes = ap (λ (f : Followed). f.seat) comes.0

-- so a processor that was offered a firing knows of the publication that lies under the lock, once it is told of it
pub publication_known : (contents : Contents) (firing : Firing) (life : ℕ) (held : Held) (old new : Followed) (account : Account) (row : Named Account)
    (before after : List TrailItem) (go told : List Write) → ComesOfFiring contents life firing held old new → new.took ≡ Some (last_note life row)
    → row.account ≡ account → known_by new.note ≡ after → after ≡ before ++ kept_items held firing → IsPrefix go told
    → IsPublished contents old.seat life account before go → KnowsPublication contents life new told
publication_known contents firing life held old new account row before after go told comes took whose_is whole kept_is begins there note has =
    let row_is : note.row ≡ row = ap (λ (t : Option LastNote). option_map_or (λ (l : LastNote). l.row) t note.row) (sym has.took ∙ took) in
    let mine : note.row.account ≡ account = ap (λ (r : Named Account). r.account) row_is ∙ whose_is in
    let knows : note.knows ≡ before ++ kept_items held firing = ap known_by (sym has.has) ∙ whole ∙ kept_is in
    let after_it = still_published contents old.seat life account (before ++ kept_items held firing) go told begins
    (still_there contents old.seat life account before go held firing there) in
    subst (λ (s : ℕ). IsPublished contents s life note.row.account note.knows told) (sym (same_seat contents life firing held old new comes))
    (subst (λ (a : Account). IsPublished contents old.seat life a note.knows told) (sym mine)
    (subst (λ (t : List TrailItem). IsPublished contents old.seat life account t told) (sym knows) after_it))
