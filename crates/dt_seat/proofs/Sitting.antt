-- What a session has, as its life opens, goes on and closes.
use Rattle.std.proofs.Common.{◌≡◌, ◌+◌, ℕ, List, [], Option, sym, ap, ◌∙◌, subst, arith, append-nil}
use Rattle.atomic_table.specs.Seated.{TableId}
use Rattle.dt_cred.specs.declared.account.Account.{Account}
use Rattle.dt_facts.specs.Handles.{BegunLists, HeldFact}
use Rattle.dt_facts.specs.Lives.{IsOpenAs, IsRowOfLife, known_more}
use Rattle.dt_facts.specs.declared.fact.Fact.{Fact}
use Rattle.dt_facts.specs.declared.fact.LifeItem.{LifeItem}
use Rattle.dt_facts.specs.declared.fact.LifeStep.{LifeStep}
use Rattle.dt_facts.specs.laws.Items.{items_known, items_of_others}
use Rattle.dt_facts.specs.laws.Lives.{one_row}
use Rattle.dt_machine.specs.Registry.{Contents}
use Rattle.dt_seat.specs.Knowledge.{AreUnknownFrom, KnownItems, known_items, steps_in}
use Rattle.dt_seat.specs.Sessions.{IsNotebook, IsSessionOn, lines_from}
use Rattle.dt_seat.specs.declared.line_kept.LineKept.{LineKept}
use Rattle.dt_seat.proofs.Begins.{as_prefix, lines_met}
use Rattle.dt_seat.proofs.Published.{published_line, published_on}
use Rattle.dt_chain.specs.Writes.{Write}
use Rattle.dt_seat.specs.Publications.{IsPublicationAfter, IsPublished, writes_seen}
use Rattle.dt_legal.specs.Rows.{IsGoAfter}
use Rattle.dt_seat.specs.Trailed.{row_after}
use Rattle.dt_trail.specs.Items.{StartsWith, TrailItem, own}
use Rattle.dt_trail.specs.Known.{Grows, Meets, Noted, noted}
use Rattle.dt_trail.specs.declared.law.Named.{Named}
use Rattle.std.specs.List.{Contains}
use mathlib.Core.List.{IsPrefix}
use Rattle.dt_trail.specs.laws.Starts.{starts_trans}

-- one list has one open life
pub one_open : (steps : List LifeStep) (life other : ℕ) (row theirs : Named Account) → IsOpenAs life row steps → IsOpenAs other theirs steps
    → (life ≡ other) × (row ≡ theirs)
one_open steps life other row theirs a b =
    let same : life ≡ other = omega (arith, a.0, b.0) in
    (same, one_row steps other row theirs (subst (λ (l : ℕ). IsRowOfLife l row steps) same a.1) b.1)

-- the life of the session that is open on a seat is the seat's, as both hold one fact
pub one_life : (book share : Fact) (life other : ℕ) (row theirs : Named Account) → book ≡ share → IsOpenAs life row (steps_in book)
    → IsOpenAs other theirs (steps_in share) → other ≡ life
one_life book share life other row theirs same here there =
    (one_open (steps_in share) other life theirs row there (subst (λ (f : Fact). IsOpenAs life row (steps_in f)) same here)).0

-- and so is its trail
pub one_owner : (book share : Fact) (life other : ℕ) (row theirs : Named Account) → book ≡ share → IsOpenAs life row (steps_in book)
    → IsOpenAs other theirs (steps_in share) → theirs ≡ row
one_owner book share life other row theirs same here there =
    (one_open (steps_in share) other life theirs row there (subst (λ (f : Fact). IsOpenAs life row (steps_in f)) same here)).1

pub unknown_on : (life : ℕ) (list : List LifeItem) (knows : List TrailItem) → AreUnknownFrom (life + 1) list
    → AreUnknownFrom (life + 1) (known_more life knows list)
unknown_on life list knows h = λ l le. items_of_others life l list knows (λ e. omega (arith, le, e)) ∙ h l le

-- a session whose note has grown, once that is known
pub session_goes_on : (word : TableId) (cpus seat life : ℕ) (account : Account) (share : HeldFact) (lives : BegunLists) (known : KnownItems)
    (note new : Noted Account) → IsSessionOn word cpus seat life account share lives known note → new.row ≡ note.row
    → StartsWith new.knows note.knows
    → IsSessionOn word cpus seat life account share lives (known_items known.word known.name (known_more life new.knows known.list)) new
session_goes_on word cpus seat life account share lives known note new h row longer = record {
  mine = h.mine ∙ ap (λ (r : Named Account). r.account) (sym row);
  share_is = h.share_is;
  is_open = subst (λ (r : Named Account). IsOpenAs life r (steps_in share.fact)) (sym row) h.is_open;
  lives_are = h.lives_are;
  known_is = ap (λ (k : KnownItems). known_items k.word k.name (known_more life new.knows known.list)) h.known_is;
  knows = items_known life known.list new.knows
      (subst (λ (items : List TrailItem). IsPrefix items new.knows) (sym h.knows) (as_prefix new.knows note.knows longer));
  later = unknown_on life known.list new.knows h.later;
}

-- a session that has caught up has its lines, and what it published
pub notebook_goes_on : (contents : Contents) (seat life : ℕ) (note new : Noted Account) (lines : List LineKept) (front : Option (List Write))
    → IsNotebook contents seat life note lines front → Grows note new → IsNotebook contents seat life new lines front
notebook_goes_on contents seat life note new lines front h grows =
    let same : own 0 new.knows ≡ own 0 note.knows = subst (λ (n : ℕ). own n new.knows ≡ own n note.knows) h.first grows.same_own in
    record {
      first = grows.number ∙ h.first;
      own_lines = h.own_lines ∙ sym (lines_met new.knows note.knows grows.longer same);
      published = subst (λ (r : Named Account). IsPublishedBy r) (sym grows.row)
          (published_on contents seat life note.row.account note.knows new.knows (writes_seen front) (writes_seen front) grows.longer same
          ([], append-nil (writes_seen front)) h.published);
    }
  where
    IsPublishedBy : Named Account → Type 0
    IsPublishedBy r = IsPublished contents seat life r.account new.knows (writes_seen front)

-- a session whose note has grown has the lines that it had
pub lines_grown : (contents : Contents) (seat life : ℕ) (old mid : Noted Account) (lines : List LineKept) (front : Option (List Write))
    → IsNotebook contents seat life old lines front → Grows old mid → lines ≡ lines_from 0 mid.knows
lines_grown contents seat life old mid lines front h grows =
    h.own_lines
    ∙ sym (lines_met mid.knows old.knows grows.longer (subst (λ (n : ℕ). own n mid.knows ≡ own n old.knows) h.first grows.same_own))

-- a session that asked a line, which was published if it is a `go` and accepted
module _ (contents : Contents) (seat life : ℕ) (account : Account) (old mid : Noted Account) (lines : List LineKept)
    (front after : Option (List Write)) (whose_is : old.row.account ≡ account)
    (h : IsNotebook contents seat life old lines front) (grows : Grows old mid) (trail : List TrailItem) (met : Meets trail mid) where
  pub begins : StartsWith trail old.knows
  begins = starts_trans trail mid.knows old.knows met.0 grows.longer

  no_line : own 0 trail ≡ own 0 old.knows
  no_line =
      subst (λ (n : ℕ). own n trail ≡ own n mid.knows) (grows.number ∙ h.first) met.1
      ∙ subst (λ (n : ℕ). own n mid.knows ≡ own n old.knows) h.first grows.same_own

  pub notebook_asked : (item : TrailItem) (new : Noted Account) (now : List LineKept) → IsPrefix (writes_seen front) (writes_seen after)
      → (IsGoAfter account contents trail item → (write : Write) × Contains (writes_seen after) write
      × IsPublicationAfter contents seat life account trail write)
      → new ≡ noted old.row 0 (row_after account contents trail item) → now ≡ lines_from 0 new.knows
      → IsNotebook contents seat life new now after
  notebook_asked item new now kept announced is lines_now =
      let known = subst (λ (a : Account). IsPublished contents seat life a old.knows (writes_seen front)) whose_is h.published in
      let whole = published_line contents seat life account trail item (writes_seen after)
      (published_on contents seat life account old.knows trail (writes_seen front) (writes_seen after) begins no_line kept known)
      announced in
      record {
        first = ap (λ (n : Noted Account). n.number) is;
        own_lines = lines_now;
        published = subst (λ (n : Noted Account). IsPublished contents seat life n.row.account n.knows (writes_seen after)) (sym is)
            (subst (λ (a : Account). IsPublished contents seat life a (row_after account contents trail item) (writes_seen after)) (sym whose_is) whole);
      }
