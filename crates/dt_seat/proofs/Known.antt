-- What is known of a life, by a note or by what was told.
use Rattle.std.proofs.Common.{◌≡◌, ◌≢◌, ◌<◌, ◌≤◌, ◌*◌, ◌⊎◌, ℕ, Bool, true, false, cond, List, [], length, ltb, refl, ap, ◌∙◌, arith, eq-eqb, ne_eqb, Option, Some, None, IfSome, inl, inr}
use Rattle.std.proofs.lemmas.Bool.{ltb-true}
use Rattle.std.proofs.lemmas.Bool.Decides.{nat_tests}
use Rattle.std.proofs.lemmas.Option.{slice_get_within}
use mathlib.Core.List.{IsPrefix}
use Rattle.dt_cred.specs.declared.account.Account.{Account}
use Rattle.dt_facts.specs.Facts.{last_note}
use Rattle.dt_facts.specs.Lives.{IsOpenAs, IsRowOfLife, lives_over, opened}
use Rattle.dt_facts.specs.declared.fact.LastNote.{LastNote}
use Rattle.dt_facts.specs.declared.fact.LifeItem.{LifeItem}
use Rattle.dt_facts.specs.declared.fact.LifeStep.{LifeStep}
use Rattle.dt_facts.specs.laws.Lives.{row_stays}
use Rattle.dt_seat.specs.Keeps.{IsEarlier, IsToldOf, known_in, told_in}
use Rattle.dt_seat.specs.declared.told_of.ToldOf.{ToldOf}
use Rattle.dt_trail.specs.Items.{TrailItem}
use Rattle.dt_trail.specs.declared.law.Named.{Named}

pub below_or_above : (l life : ℕ) → l ≢ life → (l < life) ⊎ (life < l)
below_or_above l life other = by_test (ltb l life) refl
  where
    by_test : (b : Bool) → ltb l life ≡ b → (l < life) ⊎ (life < l)
    by_test true e = inl (ltb-true l life e)
    by_test false e =
        let ge : life ≤ l = grind (arith, nat_tests, e) in
        inr (omega (arith, ge, other))

-- what is known by the note of this life, and of any other life
pub by_note : (life : ℕ) (row : Named Account) (knows : List TrailItem) (told : Option ToldOf)
    → known_in life (Some (last_note life row)) knows told ≡ knows
by_note life row knows told = ap (λ (b : Bool). cond b knows (told_in life told)) (eq-eqb life life refl)

pub not_by_note : (life l : ℕ) (row : Named Account) (knows : List TrailItem) (told : Option ToldOf) → life ≢ l
    → known_in l (Some (last_note life row)) knows told ≡ told_in l told
not_by_note life l row knows told other = ap (λ (b : Bool). cond b knows (told_in l told)) (ne_eqb life l other)

pub told_here : (t : ToldOf) → told_in t.life (Some t) ≡ t.told.knows
told_here t = ap (λ (b : Bool). cond b t.told.knows []) (eq-eqb t.life t.life refl)

pub told_elsewhere : (l : ℕ) (t : ToldOf) → t.life ≢ l → told_in l (Some t) ≡ []
told_elsewhere l t other = ap (λ (b : Bool). cond b t.told.knows []) (ne_eqb t.life l other)

-- what is known of a life whose note wasn't taken
pub by_telling : (life : ℕ) (took : Option LastNote) (knows : List TrailItem) (told : Option ToldOf) → IsEarlier life took
    → known_in life took knows told ≡ told_in life told
by_telling life None knows told earlier = refl
by_telling life (Some last) knows told earlier =
    ap (λ (b : Bool). cond b knows (told_in life told)) (ne_eqb last.life life (λ e. omega (arith, earlier, e)))

-- a life that a list of lives names is none behind the one that is open
pub named_within : (lives steps : List LifeStep) (l life : ℕ) (named row : Named Account) → IsPrefix lives steps → IsRowOfLife l named lives
    → IsOpenAs life row steps → l ≤ life
named_within lives steps l life named row begins is open_as =
    let within : 2 * l < length steps = slice_get_within steps (2 * l) (opened named) (row_stays lives steps l named begins is) in
    omega (arith, within, open_as.0)

-- a life that a list of lives names is over, or is the next to end
pub named_over : (lives : List LifeStep) (l : ℕ) (named : Named Account) → IsRowOfLife l named lives → l ≤ lives_over lives
named_over lives l named is =
    let within : 2 * l < length lives = slice_get_within lives (2 * l) (opened named) is in
    omega (arith, within)

module _ (lives steps : List LifeStep) (known : List LifeItem) (life : ℕ) (row : Named Account) (begins : IsPrefix lives steps)
    (open_as : IsOpenAs life row steps) where
  told_later : (took : Option LastNote) (told : Option ToldOf) (l : ℕ) → IfSome told (IsToldOf lives known took) → life < l → told_in l told ≡ []
  told_later took None l heard above = refl
  told_later took (Some t) l heard above =
      let within = named_within lives steps t.life life heard.row row begins heard.named open_as in
      told_elsewhere l t (λ e. omega (arith, within, above, e))

  -- nothing is known of a life that doesn't begin until later
  pub nothing_later : (took : Option LastNote) (knows : List TrailItem) (told : Option ToldOf) (l : ℕ)
      → IfSome took (λ last. last.life ≤ life) → IfSome told (IsToldOf lives known took) → life < l → known_in l took knows told ≡ []
  nothing_later None knows told l taken heard above = told_later None told l heard above
  nothing_later (Some last) knows told l taken heard above =
      ap (λ (b : Bool). cond b knows (told_in l told)) (ne_eqb last.life l (λ e. omega (arith, taken, above, e)))
      ∙ told_later (Some last) told l heard above
