-- A processor that takes its note of the life that is open.
use Rattle.std.proofs.Common.{◌≡◌, ◌≢◌, ◌<◌, ◌≤◌, ◌+◌, ℕ, Bool, cond, List, [], refl, sym, ap, ◌∙◌, subst, arith, ne_eqb, Option, Some, None, IfSome, inl, inr, ⊎_elim}
use mathlib.Core.List.{IsPrefix}
use Rattle.atomic_table.specs.Seated.{TableId}
use Rattle.dt_cred.specs.declared.account.Account.{Account}
use Rattle.dt_facts.specs.Facts.{last_note}
use Rattle.dt_facts.specs.Handles.{BegunLists, HeldFact}
use Rattle.dt_facts.specs.Lives.{IsOpenAs, IsRowOfLife, lives_over}
use Rattle.dt_facts.specs.declared.fact.LastNote.{LastNote}
use Rattle.dt_facts.specs.declared.fact.LifeStep.{LifeStep}
use Rattle.dt_facts.specs.laws.Lives.{over_open}
use Rattle.dt_seat.specs.Keeps.{Carries, IsFollower, followed, known_by, known_in, noted_in, took_in}
use Rattle.dt_seat.specs.declared.told_of.ToldOf.{ToldOf}
use Rattle.dt_seat.proofs.Known.{below_or_above, named_within, not_by_note, nothing_later}
use Rattle.dt_trail.specs.Items.{TrailItem}
use Rattle.dt_trail.specs.Known.{Noted, noted}
use Rattle.dt_trail.specs.declared.law.Named.{Named}

-- a note of another life knows nothing of this one
noted_apart : (l : ℕ) (one took : Option LastNote) (knows : List TrailItem) → took ≡ one → IfSome one (λ last. last.life ≢ l) → noted_in l took knows ≡ []
noted_apart l None took knows e apart = ap (λ (t : Option LastNote). noted_in l t knows) e
noted_apart l (Some last) took knows e apart =
    ap (λ (t : Option LastNote). noted_in l t knows) e ∙ ap (λ (b : Bool). cond b knows []) (ne_eqb last.life l apart)

-- and one of a life that isn't later nothing of a later one
noted_later : (l life : ℕ) (took : Option LastNote) (knows : List TrailItem) → IfSome took (λ last. last.life ≤ life) → life < l → noted_in l took knows ≡ []
noted_later l life None knows within above = refl
noted_later l life (Some last) knows within above =
    ap (λ (b : Bool). cond b knows []) (ne_eqb last.life l (λ e. absurd (omega (arith, within, above, e))))

module _ (lives steps : List LifeStep) (life : ℕ) (row : Named Account) (begins : IsPrefix lives steps) (is_open : IsOpenAs life row steps)
    (cpu earlier : ℕ) (took : Option LastNote) where
  -- a note that was taken is of this life or an earlier one
  taken_within : (note : Option (Noted Account))
      → ((n : Noted Account) → note ≡ Some n → (took ≡ Some (last_note earlier n.row)) × (n ≡ noted n.row (cpu + 1) n.knows) × IsRowOfLife earlier n.row lives)
      → (note ≡ None → took ≡ None) → IfSome took (λ last. last.life ≤ life)
  taken_within None one none = subst (λ (t : Option LastNote). IfSome t (λ last. last.life ≤ life)) (sym (none refl)) tt
  taken_within (Some n) one none =
      let it = one n refl in
      subst (λ (t : Option LastNote). IfSome t (λ last. last.life ≤ life)) (sym it.0)
      (named_within lives steps earlier life n.row row begins it.2 is_open)

module _ (word : TableId) (cpus seat cpu earlier : ℕ) (share : HeldFact) (lives known : BegunLists) (note : Option (Noted Account))
    (told : Option ToldOf) (h : IsFollower word cpus seat cpu earlier share lives known note told) (steps : List LifeStep) (life : ℕ)
    (row : Named Account) (begins : IsPrefix lives.lists.lives steps) (is_open : IsOpenAs life row steps) where
  -- all that was known of other lives is known, or they are over
  pub carries_taken : (mine : HeldFact) (all : BegunLists) (lent : Option (Noted Account)) → all.lists.lives ≡ steps
      → took_in mine.fact ≡ Some (last_note life row)
      → Carries (followed seat cpu share lives note told) (followed seat cpu mine all lent None) life
  carries_taken mine all lent is took = record {
    seat = refl;
    cpu = refl;
    lives = subst (λ (l : List LifeStep). IsPrefix lives.lists.lives l) (sym is) begins;
    same = λ l other. ⊎_elim
        (λ (below : l < life).
        let ended : lives_over all.lists.lives ≡ life = ap lives_over is ∙ over_open steps life row is_open in
        inl (omega (arith, below, ended)))
        (λ (above : life < l).
        let before = nothing_later lives.lists.lives steps known.lists.items life row begins is_open (took_in share.fact) (known_by note) told l
        (taken_within lives.lists.lives steps life row begins is_open cpu earlier (took_in share.fact) note h.one h.none) h.heard above in
        let now = ap (λ (t : Option LastNote). known_in l t (known_by lent) None) took
        ∙ not_by_note life l row (known_by lent) None (λ e. omega (arith, above, e)) in
        inr (now ∙ sym before))
        (below_or_above l life other);
    noted = λ l other. ⊎_elim
        (λ (below : l < life).
        let ended : lives_over all.lists.lives ≡ life = ap lives_over is ∙ over_open steps life row is_open in
        inl (omega (arith, below, ended)))
        (λ (above : life < l).
        let within = taken_within lives.lists.lives steps life row begins is_open cpu earlier (took_in share.fact) note h.one h.none in
        inr (noted_apart l (Some (last_note life row)) (took_in mine.fact) (known_by lent) took (λ e. absurd (omega (arith, above, e)))
        ∙ sym (noted_later l life (took_in share.fact) (known_by note) within above)))
        (below_or_above l life other);
  }
