-- A processor that is told of a session.
use Rattle.std.proofs.Common.{◌≡◌, ◌<◌, ◌≤◌, ◌+◌, ℕ, List, refl, sym, ap, ◌∙◌, subst, arith, Option, Some, None, IfSome, inl, inr}
use mathlib.Core.List.{IsPrefix}
use Rattle.atomic_table.specs.Seated.{TableId}
use Rattle.dt_chain.specs.Writes.{Write}
use Rattle.dt_cred.specs.declared.account.Account.{Account}
use Rattle.dt_facts.specs.Handles.{BegunLists, HeldFact}
use Rattle.dt_facts.specs.Lives.{IsRowOfLife, items_of_life, lives_over}
use Rattle.dt_facts.specs.declared.fact.LastNote.{LastNote}
use Rattle.dt_facts.specs.declared.fact.LifeItem.{LifeItem}
use Rattle.dt_facts.specs.declared.fact.LifeStep.{LifeStep}
use Rattle.dt_facts.specs.laws.Items.{items_begin}
use Rattle.dt_facts.specs.laws.Lives.{one_row, over_open, over_stays, row_stays}
use Rattle.dt_seat.specs.Keeps.{IsEarlier, IsFollower, IsToldOf, followed, known_by, took_in}
use Rattle.dt_seat.specs.Receipts.{IsReceipt, HasHeard, later_told, told_of}
use Rattle.dt_seat.specs.declared.told_of.ToldOf.{ToldOf}
use Rattle.dt_seat.proofs.Begins.{as_start}
use Rattle.dt_seat.proofs.Hearing.{Hears, still_told}
use Rattle.dt_trail.specs.Items.{TrailItem}
use Rattle.dt_trail.specs.Known.{Heard, Noted, noted}
use Rattle.dt_trail.specs.declared.law.Named.{Named}

-- two lists that begin one say one trail of a life
pub same_row : (lives theirs whole : List LifeStep) (l k : ℕ) (row other : Named Account) → IsPrefix lives whole → IsPrefix theirs whole
    → l ≡ k → IsRowOfLife l row lives → IsRowOfLife k other theirs → row ≡ other
same_row lives theirs whole l k row other a b e mine named =
    one_row whole k row other (subst (λ (n : ℕ). IsRowOfLife n row whole) e (row_stays lives whole l row a mine)) (row_stays theirs whole k other b named)

some_is : {X : Type 0} (x y : X) → Some x ≡ Some y → x ≡ y
some_is x y e = cc

-- what was told of a life and the receipt name one trail
pub rows_agree : (lives theirs whole : List LifeStep) (known : List LifeItem) (took : Option LastNote) (l : ℕ) (row : Named Account) (heard : Heard)
    (told : Option ToldOf) → IsPrefix lives whole → IsPrefix theirs whole → IsRowOfLife l row theirs → heard.row ≡ row.id
    → IfSome told (IsToldOf lives known took) → IfSome told (λ t. t.life ≡ l → t.told.row ≡ heard.row)
rows_agree lives theirs whole known took l row heard None a b named id h = tt
rows_agree lives theirs whole known took l row heard (Some t) a b named id h = λ e.
    h.same_row ∙ ap (λ (r : Named Account). r.id) (same_row lives theirs whole t.life l h.row row a b e h.named named) ∙ sym id

module _ (word : TableId) (cpus seat cpu life : ℕ) (share : HeldFact) (lives known : BegunLists) (note : Option (Noted Account))
    (told : Option ToldOf) (h : IsFollower word cpus seat cpu life share lives known note told) where
  still_heard : (more : List LifeStep) (others : List LifeItem) (t : Option ToldOf) → IsPrefix lives.lists.lives more
      → IsPrefix known.lists.items others → IfSome t (IsToldOf lives.lists.lives known.lists.items (took_in share.fact))
      → IfSome t (IsToldOf more others (took_in share.fact))
  still_heard more others None a b heard = tt
  still_heard more others (Some t) a b heard = still_told lives.lists.lives more known.lists.items others (took_in share.fact) t a b heard

  -- a processor that knows more of the seat's lives and items
  pub follower_learnt : (more others : BegunLists) → more.word ≡ word → more.name ≡ lives.name → others.word ≡ word → others.name ≡ known.name
      → IsPrefix lives.lists.lives more.lists.lives → IsPrefix known.lists.items others.lists.items
      → IsFollower word cpus seat cpu life share more others note told
  follower_learnt more others word_of_lives name_of_lives word_of_items name_of_items a b = record {
    share_is = h.share_is;
    lives_of = (word_of_lives, name_of_lives ∙ h.lives_of.1);
    known_of_seat = (word_of_items, name_of_items ∙ h.known_of_seat.1);
    one = λ n is. let one = h.one n is in (one.0, one.1, row_stays lives.lists.lives more.lists.lives life n.row a one.2);
    none = h.none;
    heard = still_heard more.lists.lives others.lists.items told a b h.heard;
  }

  -- and that was told of a life whose note it didn't take
  pub follower_told : (t : ToldOf) → IsToldOf lives.lists.lives known.lists.items (took_in share.fact) t
      → IsFollower word cpus seat cpu life share lives known note (Some t)
  follower_told t right = record {
    share_is = h.share_is;
    lives_of = h.lives_of;
    known_of_seat = h.known_of_seat;
    one = h.one;
    none = h.none;
    heard = right;
  }

-- and whose note learnt
pub follower_noted : (word : TableId) (cpus seat cpu life : ℕ) (share : HeldFact) (lives known : BegunLists) (old new : Noted Account)
    (told : Option ToldOf) → IsFollower word cpus seat cpu life share lives known (Some old) told → new.row ≡ old.row → new.number ≡ old.number
    → IsFollower word cpus seat cpu life share lives known (Some new) told
follower_noted word cpus seat cpu life share lives known old new told h row number = record {
  share_is = h.share_is;
  lives_of = h.lives_of;
  known_of_seat = h.known_of_seat;
  one = λ n is.
      let same : new ≡ n = some_is new n is in
      let one = h.one old refl in
      subst (λ (m : Noted Account). (took_in share.fact ≡ Some (record { life = life; row = m.row })) × (m ≡ noted m.row (cpu + 1) m.knows)
      × IsRowOfLife life m.row lives.lists.lives) same (
        one.0 ∙ ap (λ (r : Named Account). Some (record { life = life; row = r })) (sym row),
        ap (λ (k : ℕ). noted new.row k new.knows) (number ∙ ap (λ (m : Noted Account). m.number) one.1),
        subst (λ (r : Named Account). IsRowOfLife life r lives.lists.lives) (sym row) one.2,
      );
  none = λ is. absurd (let bad : Some new ≡ None = is in cc bad);
  heard = h.heard;
}

-- what a processor is told by a receipt, of a life whose note it didn't take
pub receipt_told : (word : TableId) (cpus seat life : ℕ) (account : Account) (heard : Heard) (theirs others : BegunLists)
    → IsReceipt word cpus seat life account heard theirs others → (lives : List LifeStep) (known : List LifeItem) (took : Option LastNote)
    → IsPrefix theirs.lists.lives lives → IsPrefix others.lists.items known → IsEarlier life took → IsToldOf lives known took (told_of life heard)
receipt_told word cpus seat life account heard theirs others h lives known took a b earlier = record {
  row = h.row;
  named = row_stays theirs.lists.lives lives life h.row a h.is_open.1;
  same_row = h.same_row;
  begins = as_start (items_of_life life known) heard.knows
      (subst (λ (items : List TrailItem). IsPrefix items (items_of_life life known)) h.knows (items_begin life others.lists.items known b));
  later = earlier;
}

pub receipt_over : (word : TableId) (cpus seat life : ℕ) (account : Account) (heard : Heard) (theirs others : BegunLists)
    → IsReceipt word cpus seat life account heard theirs others → (lives : List LifeStep) → IsPrefix theirs.lists.lives lives → life ≤ lives_over lives
receipt_over word cpus seat life account heard theirs others h lives a =
    let before = over_open theirs.lists.lives life h.row h.is_open in
    let grown = over_stays theirs.lists.lives lives a in
    omega (arith, before, grown)

module _ (seat cpu : ℕ) (share : HeldFact) (lives more : BegunLists) (note : Option (Noted Account)) (told : Option ToldOf)
    (grown : IsPrefix lives.lists.lives more.lists.lives) where
  -- the life is over
  pub told_over : (at life : ℕ) (account : Account) (knows : List TrailItem) (writes : List Write) → life < lives_over more.lists.lives
      → HasHeard (record { seat = at; life = life; account = account; knows = knows; published = writes }) (followed seat cpu share lives note told) (followed seat cpu share more note told)
  told_over at life account knows writes over = record {
    seat = refl;
    cpu = refl;
    took = refl;
    lives = grown;
    told = inl over;
    kept = inl over;
    one = inl over;
    same = λ k other. inr refl;
    own_same = refl;
  }

  -- it is one whose note wasn't taken
  pub told_heard : (at life : ℕ) (account : Account) (heard : Heard) (writes : List Write) (known : List LifeItem)
      (mine : IsToldOf more.lists.lives known (took_in share.fact) (told_of life heard)) (over : life ≤ lives_over more.lists.lives)
      → Hears more.lists.lives known (took_in share.fact) (known_by note) life heard mine over told (later_told told (told_of life heard))
      → HasHeard (record { seat = at; life = life; account = account; knows = heard.knows; published = writes }) (followed seat cpu share lives note told)
      (followed seat cpu share more note (Some (later_told told (told_of life heard))))
  told_heard at life account heard writes known mine over h = record {
    seat = refl;
    cpu = refl;
    took = refl;
    lives = grown;
    told = h.hears;
    kept = h.kept;
    one = h.one;
    same = h.same;
    own_same = refl;
  }
