-- What a processor keeps track of at a seat, once it was offered a firing there.
use Rattle.std.proofs.Common.{◌≡◌, ◌≢◌, ◌<◌, ◌+◌, ◌⊎◌, ℕ, true, List, [], ◌∷◌, ◌++◌, length, refl, sym, ap, ◌∙◌, subst, arith, append-nil, Option, Some, inl, inr, ⊎_elim}
use Rattle.std.proofs.lemmas.Bool.{cases_eq}
use Rattle.std.proofs.lemmas.List.{append_cancel_right}
use Rattle.std.specs.List.{Contains}
use Rattle.std.specs.Option.{option_map_or}
use mathlib.Core.List.{IsPrefix}
use Rattle.dt_chain.specs.Chains.{IsMaskAfter}
use Rattle.dt_chain.specs.Seats.{life_at}
use Rattle.dt_chain.specs.Writes.{Write, writes_of}
use Rattle.dt_chain.specs.declared.seat_mask.SeatMask.{SeatMask}
use Rattle.dt_cred.specs.declared.account.Account.{Account}
use Rattle.dt_cred.specs.declared.firing.Firing.{Firing}
use Rattle.dt_facts.specs.Facts.{last_note}
use Rattle.dt_facts.specs.Lives.{IsRowOfLife}
use Rattle.dt_facts.specs.declared.fact.LastNote.{LastNote}
use Rattle.dt_facts.specs.laws.Lives.{one_row, over_stays}
use Rattle.dt_legal.specs.Rows.{IsLegalRow, life_of_row}
use Rattle.dt_life.specs.Sees.{Sees}
use Rattle.dt_machine.specs.Registry.{Contents, firing_at}
use Rattle.dt_meeting.specs.Keeping.{GoIsPublished, KeepsTrack}
use Rattle.dt_meeting.specs.Order.{IsInOrder}
use Rattle.dt_meeting.specs.Sharing.{is_seen_after}
use Rattle.dt_meeting.specs.laws.Announcing.{published_among_own, published_longer}
use Rattle.dt_meeting.specs.laws.Keeping.{keeps_kept, keeps_offered, keeps_unseen, keeps_writes}
use Rattle.dt_meeting.specs.laws.Seen.{seen_after_to, unseen_after_to}
use Rattle.dt_publisher.specs.laws.OwnWrites.{own_begin}
use Rattle.dt_seat.proofs.Known.{by_note}
use Rattle.dt_seat.proofs.Owning.{own_fired}
use Rattle.dt_seat.specs.Keeps.{Carries, Followed, known_by, known_in, known_of, noted_of, over_of, with_lives}
use Rattle.dt_seat.specs.Publications.{IsPublished}
use Rattle.dt_seat.specs.Seats.{ComesOfFiring, HasNote, Reaches, kept_items}
use Rattle.dt_seat.specs.Tracked.{AreTracked, IsAllowed, IsToldLater, IsTracked, count_of, counts_with}
use Rattle.dt_seat.specs.Written.{HasPublished}
use Rattle.dt_seat.specs.declared.held.Held.{Held}
use Rattle.dt_seat.specs.declared.held.Held.TheVariants.{Gone, Kept as WasKept, Unseen}
use Rattle.dt_seat.specs.laws.Notes.{noted_here, noted_within}
use Rattle.dt_seat.specs.laws.Tracked.{allowed_before, counted, life_moved, life_passed, life_writes}
use Rattle.dt_trail.specs.Items.{StartsWith, TrailItem, fired, own}
use Rattle.dt_trail.specs.Known.{Noted}
use Rattle.dt_trail.specs.declared.law.Named.{Named}

-- a publication that a session knows of is there
pub go_published : (contents : Contents) (seat life : ℕ) (account : Account) (row : List TrailItem) (writes : List Write)
    → IsPublished contents seat life account row writes → GoIsPublished account contents seat life row writes
go_published contents seat life account row writes h before item starts mine go =
    let there = h before item starts mine go in
    (there.2.0, subst (λ (w : Write). Contains writes w) there.2.1 there.1, there.2.2)

module _ (contents : Contents) (seen told : List Write) (firing : Firing) (mask : SeatMask) (knew : ℕ → List ℕ) (old new : Followed) (life : ℕ)
    (found : firing_at contents.scripts firing.cpu firing.place ≡ Some firing) (cpu : old.cpu ≡ firing.cpu)
    (look : IsMaskAfter contents.registry seen firing mask) (named : life_at mask old.seat ≡ Some life)
    (places : (l : ℕ) → length (knew l) ≡ firing.place) (further : IsPrefix seen told) (h : AreTracked contents seen knew old) where
  found_old : firing_at contents.scripts old.cpu firing.place ≡ Some firing
  found_old = subst (λ (c : ℕ). firing_at contents.scripts c firing.place ≡ Some firing) (sym cpu) found

  -- of each other life
  other_life : Carries old new life → (l : ℕ) (account : Account) → l ≢ life → IsAllowed l account new.lives
      → IsTracked contents told new l account (counts_with knew old l)
  other_life carries l account apart allowed =
      life_moved contents told old new l account (counts_with knew old l) carries.seat carries.cpu carries.lives (carries.same l apart)
      (⊎_elim (λ (over : l < over_of new). inl over) (λ (same : noted_of l new ≡ noted_of l old). inr (ap (own (old.cpu + 1)) same)) (carries.noted l apart))
      (life_writes contents seen told old l account (counts_with knew old l) further
      (life_passed contents seen firing mask firing.place knew old found_old look places h l account
      (allowed_before l account old.lives new.lives carries.lives allowed)
      (λ e. let same : Some life ≡ Some l = sym named ∙ e in apart (sym (some_of life l same)))))
    where
      some_of : (a b : ℕ) → Some a ≡ Some b → a ≡ b
      some_of a b e = cc

  -- the life is over
  pub held_gone : new ≡ with_lives old new.lives → IsPrefix old.lives new.lives → life < over_of new → IsToldLater new
      → AreTracked contents told (counts_with knew old) new
  held_gone is begins over orderly = record {
    orderly = orderly;
    each = λ l account allowed. ⊎_elim
        (λ (same : l ≡ life). inl (omega (arith, same, over)))
        (λ (apart : l ≢ life). other_life carries l account apart allowed)
        (cases_eq l life);
  }
    where
      carries : Carries old new life
      carries = record {
        seat = ap (λ (f : Followed). f.seat) is;
        cpu = ap (λ (f : Followed). f.cpu) is;
        lives = begins;
        same = λ l apart. inr (ap (known_of l) is);
        noted = λ l apart. inr (ap (noted_of l) is);
      }

  module _ (note : Noted Account) (has : HasNote life new note) (row : IsRowOfLife life note.row new.lives) (orderly : IsToldLater new)
      (carries : Carries old new life) (trail : List TrailItem) (reaches : Reaches contents note.row.account firing.cpu (known_of life old) trail)
      (go : List Write) (go_told : IsPrefix go told) (published_go : IsPublished contents old.seat life note.row.account trail go) where
    abbrev account : Account
    account = note.row.account

    abbrev mine : List TrailItem
    mine = own (old.cpu + 1) (noted_of life old)

    known_new : known_of life new ≡ note.knows
    known_new =
        ap (λ (t : Option LastNote). known_in life t (known_by new.note) new.told) has.took
        ∙ by_note life note.row (known_by new.note) new.told
        ∙ ap known_by has.has

    noted_new : noted_of life new ≡ note.knows
    noted_new = noted_here life note.row new.took (known_by new.note) has.took ∙ ap known_by has.has

    allowed_old : IsAllowed life account old.lives
    allowed_old = allowed_before life account old.lives new.lives carries.lives
        (λ r is. ap (λ (n : Named Account). n.account) (one_row new.lives life note.row r row is))

    not_over : life < over_of old → ⊥
    not_over over = let more = over_stays old.lives new.lives carries.lives in omega (arith, over, more, has.over_is)

    kept_before : KeepsTrack account contents old.cpu life (writes_of seen old.seat) (known_of life old) mine (knew life)
    kept_before = elim (h.each life account allowed_old) [
      | inl over ↦ absurd (not_over over)
      | inr keeps ↦ keeps
    ]

    count : count_of old life ≡ length (known_of life old)
    count = elim (counted old life h.orderly) [
      | inl over ↦ absurd (not_over over)
      | inr same ↦ same
    ]

    by_seat : (writes : List Write) → IsPrefix go writes → GoIsPublished account contents old.seat life trail (writes_of writes old.seat)
    by_seat writes begins = published_among_own account contents old.seat life trail writes
        (published_longer account contents old.seat life trail go writes begins (go_published contents old.seat life account trail go published_go))

    begins_cpu : own (old.cpu + 1) trail ≡ own (old.cpu + 1) (known_of life old)
    begins_cpu = subst (λ (c : ℕ). own (c + 1) trail ≡ own (c + 1) (known_of life old)) (sym cpu) reaches.own_same

    within : StartsWith (own (old.cpu + 1) (known_of life old)) mine
    within = noted_within old.cpu life old

    -- of this life, once it keeps track of it by what is told
    at_life : (known now : List TrailItem) → note.knows ≡ known → own (old.cpu + 1) note.knows ≡ now
        → KeepsTrack account contents old.cpu life (writes_of told old.seat) known now (knew life ++ length (known_of life old) ∷ [])
        → (other : Account) → IsAllowed life other new.lives → IsTracked contents told new life other (counts_with knew old life)
    at_life known now is own_is keeps other allowed =
        let as_known = subst (λ (l : List TrailItem). KeepsTrack account contents old.cpu life (writes_of told old.seat) l now
        (knew life ++ length (known_of life old) ∷ [])) (sym (known_new ∙ is)) keeps in
        let as_noted = subst (λ (l : List TrailItem). KeepsTrack account contents old.cpu life (writes_of told old.seat) (known_of life new) l
        (knew life ++ length (known_of life old) ∷ [])) (sym (ap (own (old.cpu + 1)) noted_new ∙ own_is)) as_known in
        let as_counted = subst (λ (n : ℕ). KeepsTrack account contents old.cpu life (writes_of told old.seat) (known_of life new)
        (own (old.cpu + 1) (noted_of life new)) (knew life ++ n ∷ [])) (sym count) as_noted in
        let at_cpu = subst (λ (c : ℕ). KeepsTrack account contents c life (writes_of told old.seat) (known_of life new)
        (own (c + 1) (noted_of life new)) (counts_with knew old life)) (sym carries.cpu) as_counted in
        let at_seat = subst (λ (s : ℕ). KeepsTrack account contents new.cpu life (writes_of told s) (known_of life new)
        (own (new.cpu + 1) (noted_of life new)) (counts_with knew old life)) (sym carries.seat) at_cpu in
        inr (subst (λ (a : Account). KeepsTrack a contents new.cpu life (writes_of told new.seat) (known_of life new)
        (own (new.cpu + 1) (noted_of life new)) (counts_with knew old life)) (sym (allowed note.row row)) at_seat)

    all : ((other : Account) → IsAllowed life other new.lives → IsTracked contents told new life other (counts_with knew old life))
        → AreTracked contents told (counts_with knew old) new
    all this = record {
      orderly = orderly;
      each = λ l other allowed. ⊎_elim
          (λ (same : l ≡ life). subst (λ (k : ℕ). IsTracked contents told new k other (counts_with knew old k)) (sym same)
          (this other (subst (λ (k : ℕ). IsAllowed k other new.lives) same allowed)))
          (λ (apart : l ≢ life). other_life carries l other apart allowed)
          (cases_eq l life);
    }

    place : firing_at contents.scripts old.cpu (length (knew life)) ≡ Some firing
    place = subst (λ (p : ℕ). firing_at contents.scripts old.cpu p ≡ Some firing) (sym (places life)) found_old

    -- it isn't seen
    pub held_unseen : note.knows ≡ trail → own (firing.cpu + 1) (noted_of life new) ≡ own (firing.cpu + 1) (noted_of life old) ++ []
        → (Sees account contents.registry (life_of_row account contents trail) firing → ⊥)
        → AreTracked contents told (counts_with knew old) new
    held_unseen is own_is unseen =
        let own_trail : own (old.cpu + 1) trail ≡ mine =
        ap (own (old.cpu + 1)) (sym (noted_new ∙ is))
        ∙ subst (λ (c : ℕ). own (c + 1) (noted_of life new) ≡ own (c + 1) (noted_of life old)) (sym cpu)
        (own_is ∙ append-nil (own (firing.cpu + 1) (noted_of life old))) in
        let hidden = unseen_after_to account contents trail old.cpu (length (knew life))
        (λ (f : Firing) there sees. unseen (subst (Sees account contents.registry (life_of_row account contents trail)) (one_firing f there) sees)) in
        let keeps = keeps_unseen account contents old.cpu old.seat life (writes_of told old.seat) (known_of life old) mine trail (knew life)
        reaches.begins within own_trail reaches.legal hidden (by_seat told go_told)
        (keeps_writes account contents old.cpu life (writes_of seen old.seat) (writes_of told old.seat) (known_of life old) mine (knew life)
        (own_begin seen told old.seat further) kept_before) in
        all (at_life trail mine is (ap (own (old.cpu + 1)) is ∙ own_trail) keeps)
      where
        one_firing : (f : Firing) → firing_at contents.scripts old.cpu (length (knew life)) ≡ Some f → f ≡ firing
        one_firing f there = let same : Some f ≡ Some firing = sym there ∙ place in cc same

    -- it is kept
    module _ (is : note.knows ≡ trail ++ fired firing.cpu firing.place ∷ [])
        (own_is : own (firing.cpu + 1) (noted_of life new) ≡ own (firing.cpu + 1) (noted_of life old) ++ fired firing.cpu firing.place ∷ [])
        (sees : Sees account contents.registry (life_of_row account contents trail) firing)
        (longer : IsLegalRow account contents (trail ++ fired firing.cpu firing.place ∷ [])) where
      abbrev item : TrailItem
      item = fired old.cpu (length (knew life))

      item_is : fired firing.cpu firing.place ≡ item
      item_is = rw (cpu, places life) refl

      own_item : own (old.cpu + 1) note.knows ≡ mine ++ item ∷ []
      own_item =
          ap (own (old.cpu + 1)) (sym noted_new)
          ∙ subst (λ (c : ℕ). own (c + 1) (noted_of life new) ≡ own (c + 1) (noted_of life old) ++ fired firing.cpu firing.place ∷ []) (sym cpu) own_is
          ∙ ap (λ (i : TrailItem). mine ++ i ∷ []) item_is

      known_item : note.knows ≡ trail ++ item ∷ []
      known_item = is ∙ ap (λ (i : TrailItem). trail ++ i ∷ []) item_is

      own_trail : own (old.cpu + 1) trail ≡ mine
      own_trail = append_cancel_right (own (old.cpu + 1) trail) mine (item ∷ [])
          (sym (own_fired old.cpu (length (knew life)) trail) ∙ ap (own (old.cpu + 1)) (sym known_item) ∙ own_item)

      shown : is_seen_after account contents trail old.cpu (length (knew life)) ≡ true
      shown = seen_after_to account contents trail old.cpu (length (knew life)) firing place sees

      legal_item : IsLegalRow account contents (trail ++ item ∷ [])
      legal_item = subst (λ (i : TrailItem). IsLegalRow account contents (trail ++ i ∷ [])) item_is longer

      -- by a look that had the publication
      pub held_looked : IsPrefix go seen → AreTracked contents told (counts_with knew old) new
      held_looked begins =
          let keeps = keeps_offered account contents old.cpu old.seat life seen (known_of life old) mine trail (knew life) firing mask look named
          reaches.begins within own_trail reaches.legal sees.active shown legal_item (by_seat seen begins) kept_before in
          all (at_life (trail ++ item ∷ []) (mine ++ item ∷ []) known_item own_item
          (keeps_writes account contents old.cpu life (writes_of seen old.seat) (writes_of told old.seat) (trail ++ item ∷ []) (mine ++ item ∷ [])
          (knew life ++ length (known_of life old) ∷ []) (own_begin seen told old.seat further) keeps))

      -- by the publication, which came after the look
      pub held_published : IsPrefix seen go → (whole : List Write) → IsPrefix (writes_of go old.seat) whole → IsInOrder account contents life whole trail
          → AreTracked contents told (counts_with knew old) new
      held_published later whole begins order =
          let before = keeps_writes account contents old.cpu life (writes_of seen old.seat) (writes_of go old.seat) (known_of life old) mine (knew life)
          (own_begin seen go old.seat later) kept_before in
          let keeps = keeps_kept account contents old.cpu old.seat life (writes_of go old.seat) whole (known_of life old) mine trail (knew life) begins order
          reaches.begins within own_trail reaches.legal shown legal_item (by_seat go ([], append-nil go)) before in
          all (at_life (trail ++ item ∷ []) (mine ++ item ∷ []) known_item own_item
          (keeps_writes account contents old.cpu life (writes_of go old.seat) (writes_of told old.seat) (trail ++ item ∷ []) (mine ++ item ∷ [])
          (knew life ++ length (known_of life old) ∷ []) (own_begin go told old.seat go_told) keeps))

  -- whatever came of it, by what lies under the lock: the life's trail before and after it, and what the session published
  module _ (account : Account) (row : Named Account) (before after : List TrailItem) (held : Held) (took : new.took ≡ Some (last_note life row))
      (whose_is : row.account ≡ account) (whole : known_by new.note ≡ after) (kept_is : after ≡ before ++ kept_items held firing)
      (legal : IsLegalRow account contents after) (orderly : IsToldLater new)
      (rows : (l : ℕ) (note : Noted Account) → new.note ≡ Some note → new.took ≡ Some (last_note l note.row) → IsRowOfLife l note.row new.lives)
      (go : List Write) (go_told : IsPrefix go told) (order : IsPrefix go seen ⊎ IsPrefix seen go) (all_writes : List Write)
      (go_is : HasPublished contents old.seat life account before go all_writes) (in_order : IsInOrder account contents life all_writes before) where
    row_same : (note : Noted Account) → HasNote life new note → note.row ≡ row
    row_same note has =
        ap (λ (t : Option LastNote). option_map_or (λ (l : LastNote). l.row) t note.row) (sym has.took ∙ took)

    account_same : (note : Noted Account) → HasNote life new note → note.row.account ≡ account
    account_same note has = ap (λ (r : Named Account). r.account) (row_same note has) ∙ whose_is

    knows_same : (note : Noted Account) → HasNote life new note → note.knows ≡ before ++ kept_items held firing
    knows_same note has = ap known_by (sym has.has) ∙ whole ∙ kept_is

    published_at : (note : Noted Account) → HasNote life new note → (trail : List TrailItem) → trail ≡ before
        → IsPublished contents old.seat life note.row.account trail go
    published_at note has trail is =
        subst (λ (a : Account). IsPublished contents old.seat life a trail go) (sym (account_same note has))
        (subst (λ (t : List TrailItem). IsPublished contents old.seat life account t go) (sym is) go_is.there)

  module _ (account : Account) (row : Named Account) (before after : List TrailItem) (took : new.took ≡ Some (last_note life row))
      (whose_is : row.account ≡ account) (whole : known_by new.note ≡ after)
      (legal : IsLegalRow account contents after) (orderly : IsToldLater new)
      (rows : (l : ℕ) (note : Noted Account) → new.note ≡ Some note → new.took ≡ Some (last_note l note.row) → IsRowOfLife l note.row new.lives)
      (go : List Write) (go_told : IsPrefix go told) (order : IsPrefix go seen ⊎ IsPrefix seen go) (all_writes : List Write)
      (go_is : HasPublished contents old.seat life account before go all_writes) (in_order : IsInOrder account contents life all_writes before) where
    pub tracked_held : (held : Held) → after ≡ before ++ kept_items held firing → ComesOfFiring contents life firing held old new
        → own (firing.cpu + 1) (noted_of life new) ≡ own (firing.cpu + 1) (noted_of life old) ++ kept_items held firing
        → AreTracked contents told (counts_with knew old) new
    tracked_held Gone kept_is comes own_is = held_gone comes.0 comes.1 comes.2 orderly
    tracked_held (Unseen known) kept_is comes own_is =
        let note = comes.1.0 in
        let has = comes.1.1 in
        let is : note.knows ≡ before = knows_same account row before after (Unseen known) took whose_is whole kept_is legal orderly rows go go_told order all_writes go_is
        in_order note has ∙ append-nil before in
        let there = published_at account row before after (Unseen known) took whose_is whole kept_is legal orderly rows go go_told order all_writes go_is in_order note has
        note.knows is in
        held_unseen note has (rows life note has.has has.took) orderly comes.0 note.knows comes.1.2 go go_told there refl own_is comes.1.3
    tracked_held WasKept kept_is comes own_is =
        let note = comes.1.0 in
        let trail = comes.1.1 in
        let has = comes.1.2 in
        let item = fired firing.cpu firing.place in
        let knows : note.knows ≡ before ++ item ∷ [] = knows_same account row before after WasKept took whose_is whole kept_is legal orderly rows go go_told order
        all_writes go_is in_order note has in
        let is : trail ≡ before = append_cancel_right trail before (item ∷ []) (sym comes.1.5 ∙ knows) in
        let mine = account_same account row before after WasKept took whose_is whole kept_is legal orderly rows go go_told order all_writes go_is in_order note has in
        let there = published_at account row before after WasKept took whose_is whole kept_is legal orderly rows go go_told order all_writes go_is in_order note has
        trail is in
        let longer = subst (λ (a : Account). IsLegalRow a contents (trail ++ item ∷ [])) (sym mine)
        (subst (IsLegalRow account contents) (kept_is ∙ ap (λ (t : List TrailItem). t ++ item ∷ []) (sym is)) legal) in
        let ordered = subst (λ (a : Account). IsInOrder a contents life all_writes trail) (sym mine)
        (subst (IsInOrder account contents life all_writes) (sym is) in_order) in
        ⊎_elim
        (λ (earlier : IsPrefix go seen).
        held_looked note has (rows life note has.has has.took) orderly comes.0 trail comes.1.3 go go_told there comes.1.5 own_is comes.1.4 longer earlier)
        (λ (later : IsPrefix seen go).
        held_published note has (rows life note has.has has.took) orderly comes.0 trail comes.1.3 go go_told there comes.1.5 own_is comes.1.4 longer later
        all_writes go_is.begins ordered)
        order
