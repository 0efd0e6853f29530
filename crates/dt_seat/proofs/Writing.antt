-- What a seat wrote, as it publishes and withdraws, as its trail goes on, and as lives open and close.
use Rattle.std.proofs.Common.{◌≡◌, ◌≢◌, ◌≤◌, ◌<◌, ◌+◌, ℕ, Bool, true, false, cond, List, [], ◌∷◌, ◌++◌, Option, Some, None, MatchOption, refl, sym, ap, ◌∙◌, subst, arith, append-nil, ⊎_elim, inl, inr, ◌⊎◌}
use mathlib.Core.List.{IsPrefix}
use Rattle.std.proofs.lemmas.Bool.{ne_eqb}
use Rattle.std.specs.Prelude.{fold}
use Rattle.atomic_table.specs.Seated.{TableId}
use Rattle.dt_chain.specs.Writes.{Write, published, withdrawn, writes_of}
use Rattle.dt_cred.specs.declared.account.Account.{Account}
use Rattle.dt_facts.specs.Facts.{writes_fact}
use Rattle.dt_facts.specs.Handles.{HeldFact, holding}
use Rattle.dt_legal.specs.Rows.{AreOfEcbs, IsLegalRow, life_of_row}
use Rattle.dt_life.specs.Life.{is_stopped, phase}
use Rattle.dt_machine.specs.Registry.{Contents}
use Rattle.dt_meeting.specs.Stages.{Stage, named, never, next_stage, stage}
use Rattle.dt_meeting.specs.laws.Ordering.{in_order_ended, in_order_new, in_order_published, in_order_trail}
use Rattle.dt_meeting.specs.laws.Staging.{stage_both}
use Rattle.dt_seat.specs.Names.{book_name}
use Rattle.dt_seat.specs.Publications.{writes_seen}
use Rattle.dt_seat.specs.Seats.{Wrote}
use Rattle.dt_seat.specs.declared.present.Present.{Present}
use Rattle.dt_seat.specs.Written.{AreUnnamedFrom, AreWritesOf, HasNotNamed, HasWritten, MayEndWith, writes_in}
use Rattle.dt_trail.specs.Items.{StartsWith, TrailItem}

-- what may end with a write has what both have
pub either_way : (P : List Write → Type 0) (write : Write) (old new : List Write) → MayEndWith write old new → P old → P (old ++ write ∷ []) → P new
either_way P write old new may as_was ended =
    ⊎_elim (λ (t : new ≡ old). subst P (sym t) as_was) (λ (t : new ≡ old ++ write ∷ []). subst P (sym t) ended) may

-- what may end with a write begins with what was there
pub may_begin : (write : Write) (old new : List Write) → MayEndWith write old new → IsPrefix old new
may_begin write old new may = either_way (IsPrefix old) write old new may ([], append-nil old) (write ∷ [], refl)

pub unnamed_more : (life : ℕ) (writes : List Write) → AreUnnamedFrom life writes → AreUnnamedFrom (life + 1) writes
unnamed_more life writes h = λ l le. h l (omega (arith, le))

unnamed_by : (life : ℕ) (writes : List Write) (seat : ℕ) → AreUnnamedFrom life writes → AreUnnamedFrom life (writes ++ withdrawn seat ∷ [])
unnamed_by life writes seat h = λ l le.
    stage_both l writes (withdrawn seat ∷ []) ∙ ap (λ (s : Stage). fold (next_stage l) s (withdrawn seat ∷ [])) (h l le)

-- a withdrawal names no life
pub unnamed_withdrawn : (life seat : ℕ) (old new : List Write) → MayEndWith (withdrawn seat) old new → AreUnnamedFrom life old → AreUnnamedFrom life new
unnamed_withdrawn life seat old new may h = either_way (AreUnnamedFrom life) (withdrawn seat) old new may h (unnamed_by life old seat h)

-- and a publication no later one
unnamed_published : (life : ℕ) (writes : List Write) (seat : ℕ) (account : Account) (probes : List Bool) → AreUnnamedFrom (life + 1) writes
    → AreUnnamedFrom (life + 1) (writes ++ published seat life account probes ∷ [])
unnamed_published life writes seat account probes h = λ l le.
    let apart : life ≢ l = λ e. absurd (omega (arith, le, e)) in
    let by = published seat life account probes in
    stage_both l writes (by ∷ []) ∙ ap (λ (s : Stage). fold (next_stage l) s (by ∷ [])) (h l le)
    ∙ ap (λ (b : Bool). cond b (named probes) never) (ne_eqb life l apart)

module _ (contents : Contents) (account : Account) (life : ℕ) where
  abbrev HasStopped : List TrailItem → Bool
  HasStopped trail = is_stopped (phase account contents.registry (life_of_row account contents trail))

  -- a life opens
  pub writes_opened : (trail : List TrailItem) (writes : List Write) → AreUnnamedFrom life writes → AreWritesOf contents account life trail writes
  writes_opened trail writes h = record {
    in_order = in_order_new account contents life writes trail (h life (omega arith));
    later = unnamed_more life writes h;
  }

  -- its trail goes on
  pub writes_on : (trail more : List TrailItem) (writes : List Write) → StartsWith more trail → IsLegalRow account contents more
      → AreWritesOf contents account life trail writes → AreWritesOf contents account life more writes
  writes_on trail more writes begins legal h = record {
    in_order = in_order_trail account contents life writes trail more begins legal h.in_order;
    later = h.later;
  }

  module _ (trail : List TrailItem) (old : List Write) (h : AreWritesOf contents account life trail old) where
    -- it is published, as long as it hasn't stopped
    pub writes_published : (seat : ℕ) (probes : List Bool) (new : List Write) → AreOfEcbs account contents trail probes → HasStopped trail ≡ false
        → MayEndWith (published seat life account probes) old new → AreWritesOf contents account life trail new
    writes_published seat probes new exact going may =
        either_way (AreWritesOf contents account life trail) (published seat life account probes) old new may h (record {
          in_order = in_order_published account contents life old trail seat probes exact going h.in_order;
          later = unnamed_published life old seat account probes h.later;
        })

    -- it is withdrawn, once it has stopped
    pub writes_withdrawn : (seat : ℕ) (new : List Write) → HasStopped trail ≡ true → MayEndWith (withdrawn seat) old new
        → AreWritesOf contents account life trail new
    writes_withdrawn seat new off may =
        either_way (AreWritesOf contents account life trail) (withdrawn seat) old new may h (record {
          in_order = in_order_ended account contents life old trail (withdrawn seat) tt off h.in_order;
          later = unnamed_by (life + 1) old seat h.later;
        })

-- what the share under the lock says, as the trail goes on
pub has_written_on : (word : TableId) (contents : Contents) (number life : ℕ) (account : Account) (trail more : List TrailItem) (held : HeldFact)
    → StartsWith more trail → IsLegalRow account contents more → HasWritten word contents number life account trail held
    → HasWritten word contents number life account more held
has_written_on word contents number life account trail more held begins legal h = record {
  says = h.says;
  are = writes_on contents account life trail more (writes_in held.fact) begins legal h.are;
}

-- a seat that wrote nothing
pub not_named : (word : TableId) (seat : ℕ) (held : HeldFact) → held ≡ holding word (book_name seat) (writes_fact []) → HasNotNamed word seat 0 held
not_named word seat held e =
    let none : writes_in held.fact ≡ [] = ap (λ (h : HeldFact). writes_in h.fact) e in
    record {
      says = e ∙ ap (λ (l : List Write). holding word (book_name seat) (writes_fact l)) (sym none);
      later = λ l le. ap (stage l) none;
    }

-- the writes of a seat in the longer of two fronts begin what it wrote, as those in both do
pub front_begins : (seat : ℕ) (old now front : Option (List Write)) (writes : List Write) → (front ≡ old) ⊎ (front ≡ now)
    → IsPrefix (writes_of (writes_seen old) seat) writes → IsPrefix (writes_of (writes_seen now) seat) writes
    → IsPrefix (writes_of (writes_seen front) seat) writes
front_begins seat old now front writes one a b =
    let P : Option (List Write) → Type 0 = λ f. IsPrefix (writes_of (writes_seen f) seat) writes in
    ⊎_elim (λ (e : front ≡ old). subst P (sym e) a) (λ (e : front ≡ now). subst P (sym e) b) one

-- what a seat wrote before it withdrew, or didn't
pub retired : (seat : ℕ) (old new : List Write) (front : Option (List Write))
    → MatchOption front (MayEndWith (withdrawn seat) old new) (λ _. new ≡ old ++ withdrawn seat ∷ []) → IsPrefix old new
retired seat old new None h = may_begin (withdrawn seat) old new h
retired seat old new (Some front) h = may_begin (withdrawn seat) old new (inr h)

-- what a seat wrote names no life that wasn't open yet
pub not_begun : {J : Type 0} (word : TableId) (contents : Contents) (number life later : ℕ) (present : Option (Present J)) (held : HeldFact)
    → Wrote word contents number life present held → (life < later) ⊎ ((present ≡ None) × (life ≤ later)) → stage later (writes_in held.fact) ≡ never
not_begun word contents number life later None held h (inl above) = h.later later (omega (arith, above))
not_begun word contents number life later None held h (inr at) = h.later later at.1
not_begun word contents number life later (Some p) held h (inl above) = h.are.later later (omega (arith, above))
not_begun word contents number life later (Some p) held h (inr at) = absurd (let bad : Some p ≡ None = at.0 in cc bad)
