-- What a processor knows of lives once it was told of one.
use Rattle.std.proofs.Common.{◌≡◌, ◌≢◌, ◌<◌, ◌≤◌, ◌==◌, ◌⊎◌, ℕ, suc, length, Bool, true, false, cond, List, [], ◌∷◌, ltb, eqb, refl, sym, ap, ◌∙◌, subst, arith, Option, Some, None, IfSome, inl, inr}
use Rattle.std.proofs.lemmas.Bool.{ltb-true}
use Rattle.std.proofs.lemmas.Bool.Decides.{nat_tests}
use Rattle.std.specs.Prelude.{nat_lt}
use mathlib.Core.List.{IsPrefix}
use Rattle.dt_facts.specs.Lives.{items_of_life, lives_over}
use Rattle.dt_facts.specs.declared.fact.LastNote.{LastNote}
use Rattle.dt_facts.specs.declared.fact.LifeItem.{LifeItem}
use Rattle.dt_facts.specs.declared.fact.LifeStep.{LifeStep}
use Rattle.dt_facts.specs.laws.Beginnings.{prefix_longer, prefix_trans}
use Rattle.dt_facts.specs.laws.Items.{items_begin}
use Rattle.dt_facts.specs.laws.Lives.{row_stays}
use Rattle.dt_seat.specs.Keeps.{IsToldOf, known_in, told_in}
use Rattle.dt_seat.specs.Receipts.{later_told, told_of}
use Rattle.dt_seat.specs.declared.told_of.ToldOf.{ToldOf}
use Rattle.dt_seat.proofs.Begins.{as_prefix, as_start}
use Rattle.dt_seat.proofs.Known.{by_telling, named_over, told_elsewhere, told_here}
use Rattle.dt_trail.specs.Items.{StartsWith, TrailItem, longer}
use Rattle.dt_trail.specs.Known.{Heard}
use Rattle.dt_trail.specs.laws.Starts.{starts_self}

same_known : (l : ℕ) (took : Option LastNote) (knows : List TrailItem) (one other : Option ToldOf) → told_in l one ≡ told_in l other
    → known_in l took knows one ≡ known_in l took knows other
same_known l None knows one other e = e
same_known l (Some last) knows one other e = ap (λ (items : List TrailItem). cond (last.life == l) knows items) e

-- the longer of nothing and some items is the items
longer_none : (row : List TrailItem) → longer [] row ≡ row
longer_none [] = refl
longer_none (x ∷ row) =
    let test : nat_lt 0 (suc (length row)) ≡ true = grind (arith, nat_tests) in
    ap (λ (b : Bool). cond b (x ∷ row) []) test

starts_none : (row : List TrailItem) → StartsWith row []
starts_none row = (row, refl)

-- what was told stays right as more lives and more items are known
pub still_told : (lives more : List LifeStep) (known others : List LifeItem) (took : Option LastNote) (t : ToldOf) → IsPrefix lives more
    → IsPrefix known others → IsToldOf lives known took t → IsToldOf more others took t
still_told lives more known others took t grown grown_items h = record {
  row = h.row;
  named = row_stays lives more t.life h.row grown h.named;
  same_row = h.same_row;
  begins = as_start (items_of_life t.life others) t.told.knows (prefix_trans t.told.knows (items_of_life t.life known) (items_of_life t.life others)
      (as_prefix (items_of_life t.life known) t.told.knows h.begins)
      (items_begin t.life known others grown_items));
  later = h.later;
}

module _ (lives : List LifeStep) (known : List LifeItem) (took : Option LastNote) (knows : List TrailItem) (l : ℕ) (heard : Heard)
    (mine : IsToldOf lives known took (told_of l heard)) (over : l ≤ lives_over lives) where
  -- what a processor knows of each life
  pub record Hears (told : Option ToldOf) (after : ToldOf) : Type 0 where
    pub right : IsToldOf lives known took after
    pub hears : (l < lives_over lives) ⊎ StartsWith (known_in l took knows (Some after)) heard.knows
    pub kept : (l < lives_over lives) ⊎ StartsWith (known_in l took knows (Some after)) (known_in l took knows told)
    pub one : (l < lives_over lives) ⊎ (known_in l took knows (Some after) ≡ longer (known_in l took knows told) heard.knows)
    pub same : (k : ℕ) → k ≢ l → (k < lives_over lives) ⊎ (known_in k took knows (Some after) ≡ known_in k took knows told)

  here : (t : ToldOf) → t.life ≡ l → known_in l took knows (Some t) ≡ t.told.knows
  here t e = by_telling l took knows (Some t) mine.later ∙ subst (λ (k : ℕ). told_in k (Some t) ≡ t.told.knows) e (told_here t)

  not_here : (told : Option ToldOf) → known_in l took knows told ≡ told_in l told
  not_here told = by_telling l took knows told mine.later

  hears_first : Hears None (told_of l heard)
  hears_first = record {
    right = mine;
    hears = inr (subst (λ (row : List TrailItem). StartsWith row heard.knows) (sym (here (told_of l heard) refl)) (starts_self heard.knows));
    kept = inr (subst (λ (row : List TrailItem). StartsWith (known_in l took knows (Some (told_of l heard))) row) (sym (not_here None))
        (starts_none (known_in l took knows (Some (told_of l heard)))));
    one = inr (here (told_of l heard) refl ∙ sym (ap (λ (row : List TrailItem). longer row heard.knows) (not_here None) ∙ longer_none heard.knows));
    same = λ k other. inr (same_known k took knows (Some (told_of l heard)) None (told_elsewhere k (told_of l heard) (λ e. other (sym e))));
  }

  hears_later : (t : ToldOf) → t.life < l → Hears (Some t) (told_of l heard)
  hears_later t below = record {
    right = mine;
    hears = inr (subst (λ (row : List TrailItem). StartsWith row heard.knows) (sym (here (told_of l heard) refl)) (starts_self heard.knows));
    kept = inr (subst (λ (row : List TrailItem). StartsWith (known_in l took knows (Some (told_of l heard))) row)
        (sym (not_here (Some t) ∙ told_elsewhere l t (λ e. omega (arith, below, e))))
        (starts_none (known_in l took knows (Some (told_of l heard)))));
    one = inr (here (told_of l heard) refl
        ∙ sym (ap (λ (row : List TrailItem). longer row heard.knows) (not_here (Some t) ∙ told_elsewhere l t (λ e. omega (arith, below, e)))
        ∙ longer_none heard.knows));
    same = λ k other. by_life k other (eqb t.life k) refl;
  }
    where
      by_life : (k : ℕ) → k ≢ l → (b : Bool) → eqb t.life k ≡ b
          → (k < lives_over lives) ⊎ (known_in k took knows (Some (told_of l heard)) ≡ known_in k took knows (Some t))
      by_life k other true is =
          let e : t.life ≡ k = grind (arith, nat_tests, is) in
          inl (omega (arith, e, below, over))
      by_life k other false is =
          inr (same_known k took knows (Some (told_of l heard)) (Some t)
          (told_elsewhere k (told_of l heard) (λ e. other (sym e)) ∙ sym (ap (λ (b : Bool). cond b t.told.knows []) is)))

  hears_over : (t : ToldOf) → IsToldOf lives known took t → l < t.life → Hears (Some t) t
  hears_over t h above =
      let ended : l < lives_over lives = let named = named_over lives t.life h.row h.named in omega (arith, named, above) in
      record { right = h; hears = inl ended; kept = inl ended; one = inl ended; same = λ k other. inr refl }

  hears_longer : (t : ToldOf) → IsToldOf lives known took t → t.life ≡ l → Hears (Some t) (told_of l (record { row = heard.row; knows = longer t.told.knows heard.knows }))
  hears_longer t h e =
      let whole = items_of_life l known in
      let begins : IsPrefix t.told.knows whole = subst (λ (k : ℕ). IsPrefix t.told.knows (items_of_life k known)) e
      (as_prefix (items_of_life t.life known) t.told.knows h.begins) in
      let all = prefix_longer t.told.knows heard.knows whole begins (as_prefix whole heard.knows mine.begins) in
      let after : ToldOf = told_of l (record { row = heard.row; knows = longer t.told.knows heard.knows }) in
      let now : known_in l took knows (Some after) ≡ longer t.told.knows heard.knows = here after refl in
      record {
        right = record { row = mine.row; named = mine.named; same_row = mine.same_row; begins = as_start whole (longer t.told.knows heard.knows) all.0; later = mine.later };
        hears = inr (subst (λ (row : List TrailItem). StartsWith row heard.knows) (sym now) (as_start (longer t.told.knows heard.knows) heard.knows all.2));
        kept = inr (subst (λ (p : List TrailItem × List TrailItem). StartsWith p.0 p.1) (λ i. (sym now i, sym (here t e) i)) (as_start (longer t.told.knows heard.knows) t.told.knows all.1));
        one = inr (now ∙ ap (λ (row : List TrailItem). longer row heard.knows) (sym (here t e)));
        same = λ k other. inr (same_known k took knows (Some after) (Some t)
            (told_elsewhere k after (λ is. other (sym is)) ∙ sym (told_elsewhere k t (λ is. other (sym is ∙ e)))));
      }

  pub hears_of : (told : Option ToldOf) → IfSome told (IsToldOf lives known took) → Hears told (later_told told (told_of l heard))
  hears_of None h = hears_first
  hears_of (Some t) h = by_tests (eqb t.life l) refl (ltb t.life l) refl
    where
      by_tests : (same : Bool) → eqb t.life l ≡ same → (below : Bool) → ltb t.life l ≡ below → Hears (Some t) (later_told (Some t) (told_of l heard))
      by_tests true is below test =
          let e : t.life ≡ l = grind (arith, nat_tests, is) in
          rw is (hears_longer t h e)
      by_tests false is true test = rw (is, test) (hears_later t (ltb-true t.life l test))
      by_tests false is false test =
          let ge : l ≤ t.life = grind (arith, nat_tests, test) in
          let apart : t.life ≢ l = grind (arith, nat_tests, is) in
          rw (is, test) (hears_over t h (omega (arith, ge, apart)))
