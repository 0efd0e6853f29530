-- What a look says of a life, where the seat's writes publish it for its account.
use Rattle.std.proofs.Common.{◌≡◌, ◌≢◌, ◌==◌, ℕ, Bool, true, false, cond, List, [], ◌∷◌, ◌++◌, Option, Some, None, IsSomeAnd, reverse, refl, sym, ap, ◌∙◌, subst, ⊎_elim, append-nil}
use Rattle.std.proofs.lemmas.Bool.{eq-eqb, eqb-true}
use Rattle.std.proofs.lemmas.Bool.Decides.{eqb_tells}
use Rattle.std.proofs.lemmas.List.{reverse-append, reverse-reverse}
use Rattle.std.proofs.lemmas.List.Elements.{filter-append}
use mathlib.Core.List.{IsPrefix}
use Rattle.dt_chain.specs.Chains.{IsMaskAfter}
use Rattle.dt_chain.specs.Look.{NamesFiring}
use Rattle.dt_chain.specs.Seats.{life_at}
use Rattle.dt_chain.specs.Writes.{Published, Write, published, published_on, seat_of, withdrawn, writes_of}
use Rattle.dt_chain.specs.declared.seat_mask.SeatMask.{SeatMask}
use Rattle.dt_cred.specs.declared.account.Account.{Account}
use Rattle.dt_cred.specs.declared.firing.Firing.{Firing}
use Rattle.dt_machine.specs.Registry.{Contents, firing_at}
use Rattle.dt_machine.specs.Shown.{IsShown}
use Rattle.dt_meeting.specs.Order.{IsOfOthers}
use Rattle.dt_meeting.specs.Stages.{Stage, named, past, never, stage}
use Rattle.dt_meeting.specs.Tracking.{IsPassedBy}
use Rattle.dt_meeting.specs.laws.Staging.{IsBegun, named_by_last, prefix_self, stage_begun, unnamed_by_last}

same_probes : (some other : List Bool) → named some ≡ named other → some ≡ other
same_probes some other e = cc e

abbrev published_as : ℕ → Account → List Bool → Published
published_as life by probes = record { life = life; account = by; probes = probes }

-- Where its own writes name a life, the seat's last write is the publication, and is what is published of the seat.
record IsNamedLast (life seat : ℕ) (newest : List Write) (probes : List Bool) : Type 0 where
  before : List Write
  by : Account
  ends : writes_of (reverse newest) seat ≡ before ++ published seat life by probes ∷ []
  shows : published_on newest seat ≡ Some (published_as life by probes)

named_last : (life seat : ℕ) (newest : List Write) (probes : List Bool) → stage life (writes_of (reverse newest) seat) ≡ named probes
    → IsNamedLast life seat newest probes
named_last life seat [] probes e = absurd (let bad : never ≡ named probes = e in cc bad)
named_last life seat (write ∷ earlier) probes e =
    by_seat (λ t. named_last life seat earlier probes t) write refl (seat_of write == seat) refl
  where
    older : List Write
    older = writes_of (reverse earlier) seat

    both : writes_of (reverse (write ∷ earlier)) seat ≡ older ++ writes_of (write ∷ []) seat
    both = ap (λ (l : List Write). writes_of l seat) (reverse-append (write ∷ []) earlier)
        ∙ filter-append (λ (w : Write). seat_of w == seat) (reverse earlier) (write ∷ [])

    of_seat : (b : Bool) → seat_of write == seat ≡ b → writes_of (reverse (write ∷ earlier)) seat ≡ older ++ cond b (write ∷ []) []
    of_seat b is = both ∙ ap (λ (c : Bool). older ++ cond c (write ∷ []) []) is

    by_life : (at other : ℕ) (by : Account) (found : List Bool) → write ≡ published at other by found → at ≡ seat
        → writes_of (reverse (write ∷ earlier)) seat ≡ older ++ write ∷ [] → other ≡ life
        → IsNamedLast life seat (write ∷ earlier) probes
    by_life at other by found is here own same =
        let w : write ≡ published seat life by found = cc (is, here, same) in
        let all = own ∙ ap (λ (v : Write). older ++ v ∷ []) w in
        let says : stage life (older ++ published seat life by found ∷ []) ≡ named probes = sym (ap (stage life) all) ∙ e in
        let ps : found ≡ probes = ⊎_elim
        (λ (t : stage life (older ++ published seat life by found ∷ []) ≡ named found). same_probes found probes (sym t ∙ says))
        (λ (t : (stage life older ≡ past) × (stage life (older ++ published seat life by found ∷ []) ≡ past)).
        absurd (let bad : past ≡ named probes = sym t.1 ∙ says in cc bad))
        (named_by_last life older seat by found) in
        record {
          before = older;
          by = by;
          ends = all ∙ ap (λ (l : List Bool). older ++ published seat life by l ∷ []) ps;
          shows =
              ap (λ (v : Write). published_on (v ∷ earlier) seat) w
              ∙ ap (λ (b : Bool). cond b (Some (published_as life by found)) (published_on earlier seat)) (eq-eqb seat seat refl)
              ∙ ap (λ (l : List Bool). Some (published_as life by l)) ps;
        }

    by_write : (w : Write) → seat_of w == seat ≡ false → published_on (w ∷ earlier) seat ≡ published_on earlier seat
    by_write (published at other by found) mine =
        ap (λ (b : Bool). cond b (Some (published_as other by found)) (published_on earlier seat)) mine
    by_write (withdrawn at) mine = ap (λ (b : Bool). cond b None (published_on earlier seat)) mine

    by_seat : (stage life older ≡ named probes → IsNamedLast life seat earlier probes) → (w : Write) → write ≡ w → (b : Bool) → seat_of write == seat ≡ b → IsNamedLast life seat (write ∷ earlier) probes
    by_seat rest_of (published at other by found) is true mine =
        let here : at ≡ seat = eqb-true at seat (ap (λ (v : Write). seat_of v == seat) (sym is) ∙ mine) in
        ⊎_elim (λ (t : (other == life ≡ true) × (other ≡ life)). by_life at other by found is here (of_seat true mine) t.1)
        (λ (t : (other == life ≡ false) × (other ≢ life)).
        absurd (unnamed_by_last life older (published at other by found) probes t.1
        (ap (λ (v : Write). stage life (older ++ v ∷ [])) (sym is) ∙ sym (ap (stage life) (of_seat true mine)) ∙ e)))
        (eqb_tells other life)
    by_seat rest_of (withdrawn at) is true mine =
        absurd (unnamed_by_last life older (withdrawn at) probes tt
        (ap (λ (v : Write). stage life (older ++ v ∷ [])) (sym is) ∙ sym (ap (stage life) (of_seat true mine)) ∙ e))
    by_seat rest_of w is false mine =
        let same = of_seat false mine ∙ append-nil older in
        let rest = rest_of (sym (ap (stage life) same) ∙ e) in
        record {
          before = rest.before;
          by = rest.by;
          ends = same ∙ rest.ends;
          shows = by_write write mine ∙ rest.shows;
        }

-- Where a seat is published, its last write is the publication.
published_last : (seat : ℕ) (newest : List Write) (p : Published) → published_on newest seat ≡ Some p
    → (before : List Write) × (writes_of (reverse newest) seat ≡ before ++ published seat p.life p.account p.probes ∷ [])
published_last seat [] p e = absurd (let bad : None ≡ Some p = e in cc bad)
published_last seat (write ∷ earlier) p e =
    by_seat (λ t. published_last seat earlier p t) write refl (seat_of write == seat) refl
  where
    Ends : List Write → Type 0
    Ends own = (before : List Write) × (own ≡ before ++ published seat p.life p.account p.probes ∷ [])

    older : List Write
    older = writes_of (reverse earlier) seat

    of_seat : (b : Bool) → seat_of write == seat ≡ b → writes_of (reverse (write ∷ earlier)) seat ≡ older ++ cond b (write ∷ []) []
    of_seat b is =
        ap (λ (l : List Write). writes_of l seat) (reverse-append (write ∷ []) earlier)
        ∙ filter-append (λ (w : Write). seat_of w == seat) (reverse earlier) (write ∷ [])
        ∙ ap (λ (c : Bool). older ++ cond c (write ∷ []) []) is

    passed : (published_on earlier seat ≡ Some p → Ends (writes_of (reverse earlier) seat))
        → writes_of (reverse (write ∷ earlier)) seat ≡ older → published_on (write ∷ earlier) seat ≡ published_on earlier seat
        → Ends (writes_of (reverse (write ∷ earlier)) seat)
    passed rest_of own shows = let rest = rest_of (sym shows ∙ e) in (rest.0, own ∙ rest.1)

    by_seat : (published_on earlier seat ≡ Some p → Ends (writes_of (reverse earlier) seat)) → (w : Write) → write ≡ w → (b : Bool)
        → seat_of write == seat ≡ b → Ends (writes_of (reverse (write ∷ earlier)) seat)
    by_seat rest_of (published at other by found) is true mine =
        let at_seat : at == seat ≡ true = ap (λ (v : Write). seat_of v == seat) (sym is) ∙ mine in
        let here : at ≡ seat = eqb-true at seat at_seat in
        let shown : Some (published_as other by found) ≡ Some p =
        sym (ap (λ (v : Write). published_on (v ∷ earlier) seat) is
        ∙ ap (λ (b : Bool). cond b (Some (published_as other by found)) (published_on earlier seat)) at_seat)
        ∙ e in
        let same : published_as other by found ≡ p = cc shown in
        let one : write ≡ published seat other by found = is ∙ ap (λ (n : ℕ). published n other by found) here in
        let two : published seat other by found ≡ published seat p.life p.account p.probes =
        ap (λ (q : Published). published seat q.life q.account q.probes) same in
        (older, of_seat true mine ∙ ap (λ (v : Write). older ++ v ∷ []) (one ∙ two))
    by_seat rest_of (withdrawn at) is true mine =
        let at_seat : at == seat ≡ true = ap (λ (v : Write). seat_of v == seat) (sym is) ∙ mine in
        let none : None ≡ Some p =
        sym (ap (λ (v : Write). published_on (v ∷ earlier) seat) is ∙ ap (λ (b : Bool). cond b None (published_on earlier seat)) at_seat) ∙ e in
        absurd (cc none)
    by_seat rest_of (published at other by found) is false mine =
        let off : at == seat ≡ false = ap (λ (v : Write). seat_of v == seat) (sym is) ∙ mine in
        passed rest_of (of_seat false mine ∙ append-nil older)
        (ap (λ (v : Write). published_on (v ∷ earlier) seat) is
        ∙ ap (λ (b : Bool). cond b (Some (published_as other by found)) (published_on earlier seat)) off)
    by_seat rest_of (withdrawn at) is false mine =
        let off : at == seat ≡ false = ap (λ (v : Write). seat_of v == seat) (sym is) ∙ mine in
        passed rest_of (of_seat false mine ∙ append-nil older)
        (ap (λ (v : Write). published_on (v ∷ earlier) seat) is ∙ ap (λ (b : Bool). cond b None (published_on earlier seat)) off)

-- A look names a seat with a life: the seat's last write is a publication of the life.
mask_publishes : (contents : Contents) (life seat : ℕ) (writes : List Write) (firing : Firing) (mask : SeatMask)
    → IsMaskAfter contents.registry writes firing mask → life_at mask seat ≡ Some life
    → (before : List Write) × (by : Account) × (probes : List Bool)
    × (writes_of writes seat ≡ before ++ published seat life by probes ∷ [])
mask_publishes contents life seat writes firing mask look named_there =
    by_option (published_on (reverse writes) seat) refl ((look.exactly seat life).0 named_there)
  where
    Shows : Option Published → Type 0
    Shows o = IsSomeAnd o (λ publication. (publication.life ≡ life) × NamesFiring contents.registry publication firing)

    Ends : Type 0
    Ends = (before : List Write) × (by : Account) × (probes : List Bool)
        × (writes_of writes seat ≡ before ++ published seat life by probes ∷ [])

    mine : writes_of (reverse (reverse writes)) seat ≡ writes_of writes seat
    mine = ap (λ (l : List Write). writes_of l seat) (reverse-reverse writes)

    by_option : (o : Option Published) → published_on (reverse writes) seat ≡ o → Shows o → Ends
    by_option None e h = absurd h
    by_option (Some p) e h =
        let last = published_last seat (reverse writes) p e in (
          last.0,
          p.account,
          p.probes,
          sym mine ∙ last.1 ∙ ap (λ (l : ℕ). last.0 ++ published seat l p.account p.probes ∷ []) h.0,
        )

-- A look names a seat with a life: all writes of the seat, which begin with the look's, name it or are past it.
pub mask_is_begun : (contents : Contents) (seat life : ℕ) (writes all : List Write) (firing : Firing) (mask : SeatMask)
    → IsMaskAfter contents.registry writes firing mask → life_at mask seat ≡ Some life → IsPrefix (writes_of writes seat) all
    → stage life all ≢ never
mask_is_begun contents seat life writes all firing mask look named_there begins unnamed =
    subst IsBegun unnamed (stage_begun life (writes_of writes seat) all begins (subst IsBegun (sym (ap (stage life) last.3)) begun))
  where
    last : (before : List Write) × (by : Account) × (probes : List Bool)
        × (writes_of writes seat ≡ before ++ published seat life by probes ∷ [])
    last = mask_publishes contents life seat writes firing mask look named_there

    begun : IsBegun (stage life (last.0 ++ published seat life last.1 last.2 ∷ []))
    begun =
        ⊎_elim
        (λ (t : stage life (last.0 ++ published seat life last.1 last.2 ∷ []) ≡ named last.2). subst IsBegun (sym t) tt)
        (λ (t : (stage life last.0 ≡ past) × (stage life (last.0 ++ published seat life last.1 last.2 ∷ []) ≡ past)).
        subst IsBegun (sym t.1) tt)
        (named_by_last life last.0 seat last.1 last.2)

-- A look that names a seat with a life hasn't come past it, if a life that is past isn't published again.
pub mask_names : (contents : Contents) (life seat : ℕ) (writes : List Write) (firing : Firing) (mask : SeatMask)
    → IsMaskAfter contents.registry writes firing mask → life_at mask seat ≡ Some life
    → ((before : List Write) (write : Write) → IsPrefix (before ++ write ∷ []) (writes_of writes seat) → stage life before ≡ past
    → IsOfOthers life write)
    → stage life (writes_of writes seat) ≢ past
mask_names contents life seat writes firing mask look named_there once over =
    ⊎_elim
    (λ (t : stage life with_last ≡ named last.2). let bad : named last.2 ≡ past = sym t ∙ there in cc bad)
    (λ (t : (stage life last.0 ≡ past) × (stage life with_last ≡ past)).
    once last.0 (published seat life last.1 last.2) (subst (IsPrefix with_last) (sym last.3) (prefix_self with_last)) t.0 refl)
    (named_by_last life last.0 seat last.1 last.2)
  where
    last : (before : List Write) × (by : Account) × (probes : List Bool)
        × (writes_of writes seat ≡ before ++ published seat life by probes ∷ [])
    last = mask_publishes contents life seat writes firing mask look named_there

    with_last : List Write
    with_last = last.0 ++ published seat life last.1 last.2 ∷ []

    there : stage life with_last ≡ past
    there = sym (ap (stage life) last.3) ∙ over

module _ (account : Account) (contents : Contents) where
  -- a look that doesn't name the seat with the life passes the life by
  pub look_passes : (cpu place life seat : ℕ) (writes : List Write) (firing : Firing) (mask : SeatMask)
      → firing_at contents.scripts cpu place ≡ Some firing → IsMaskAfter contents.registry writes firing mask → life_at mask seat ≢ Some life
      → ((before : List Write) (at : ℕ) (by : Account) (probes : List Bool)
      → IsPrefix (before ++ published at life by probes ∷ []) (writes_of writes seat) → by ≡ account)
      → IsPassedBy account contents cpu place (stage life (writes_of writes seat))
  look_passes cpu place life seat writes firing mask found look unnamed own_account = by_case (stage life (writes_of writes seat)) refl
    where
      mine : writes_of (reverse (reverse writes)) seat ≡ writes_of writes seat
      mine = ap (λ (l : List Write). writes_of l seat) (reverse-reverse writes)

      by_case : (at : Stage) → stage life (writes_of writes seat) ≡ at → IsPassedBy account contents cpu place (stage life (writes_of writes seat))
      by_case never e = subst (IsPassedBy account contents cpu place) (sym e) tt
      by_case past e = subst (IsPassedBy account contents cpu place) (sym e) tt
      by_case (named probes) e = subst (IsPassedBy account contents cpu place) (sym e) (λ other there belongs names shown.
          let last = named_last life seat (reverse writes) probes (ap (stage life) mine ∙ e) in
          let by : last.by ≡ account = own_account last.before seat last.by probes
          (subst (IsPrefix (last.before ++ published seat life last.by probes ∷ [])) (sym last.ends ∙ mine)
          (prefix_self (last.before ++ published seat life last.by probes ∷ []))) in
          let same : other ≡ firing = cc (there, found) in
          let names_it : NamesFiring contents.registry (published_as life last.by probes) firing =
          subst (NamesFiring contents.registry (published_as life last.by probes)) same (record {
            belongs = belongs;
            interested = names;
            admitted = subst (λ (a : Account). IsShown a contents.registry other) (sym by) shown;
          }) in
          unnamed ((look.exactly seat life).1 (subst
          (λ (o : Option Published). IsSomeAnd o (λ publication. (publication.life ≡ life) × NamesFiring contents.registry publication firing))
          (sym last.shows) (refl, names_it))))
