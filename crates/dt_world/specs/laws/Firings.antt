-- A look and its offers leave an orderly world orderly.
use Rattle.std.proofs.Common.{◌≡◌, ◌≢◌, ℕ, ◌+◌, ◌<◌, ◌≤◌, ◌==◌, ◌&&◌, Bool, true, false, cond, Option, Some, None}
use Rattle.std.proofs.Common.{◌⊎◌, nat_lt, length, refl, sym, ap, ◌∙◌, subst, arith, inl, inr}
use Rattle.std.proofs.lemmas.Bool.{cond_both, both_ways, eqb-true, eq-eqb}
use Rattle.std.proofs.lemmas.Bool.Decides.{eqb_tells}
use Rattle.std.specs.List.{AllByRecursion}
use Rattle.std.specs.Option.{option_map, option_map_or}
use Rattle.dt_chain.specs.Tests.{mask_of}
use Rattle.dt_cred.specs.declared.firing.Firing.{Firing}
use Rattle.dt_machine.specs.Registry.{Registry, Contents, firing_at}
use Rattle.dt_proto.specs.Alone.{firing_made}
use Rattle.dt_proto.specs.Brought.{IsLower}
use Rattle.dt_steps.specs.Steps.{is_done, passed, looking_at, looking, offered, offering_of, offering}
use Rattle.dt_steps.specs.World.{World, Session, Place, DueOffer, reached}
use Rattle.dt_world.specs.Orderly.{IsOrderly, IsOrderlyOffer, IsOrderlySeat, IsOrderlyWorld}
use Rattle.dt_world.specs.laws.Orderly.{opt_case, seat_raised}

same_due : (a b : DueOffer) → Some a ≡ Some b → a ≡ b
same_due a b e = ap (λ o. option_map_or (λ d. d) o a) e

same_session : (a b : Session) → Some a ≡ Some b → a ≡ b
same_session a b e = ap (λ o. option_map_or (λ s. s) o a) e

-- A firing of a processor is no firing of another.
module _ (firing : Firing) (cpu : ℕ) (own : firing.cpu ≡ cpu) where
  of_other : (other place : ℕ) → other ≢ cpu → IsLower other place (firing_made firing)
  of_other other place differs = λ same. absurd (differs (sym same ∙ own))

  of_own : (other : ℕ) (place : ℕ → ℕ) → firing.place < place cpu → IsLower other (place other) (firing_made firing)
  of_own other place less = λ same. subst (λ n. firing.place < place n) (sym own ∙ same) less

module _ (contents : Contents) (taken : ℕ → ℕ) where
  -- fewer offers are due
  fewer : (due fewer_due : (cpu : ℕ) → Option DueOffer) (place : Place)
      → ((cpu : ℕ) (one : DueOffer) → fewer_due cpu ≡ Some one → due cpu ≡ Some one)
      → IsOrderlySeat contents taken due place → IsOrderlySeat contents taken fewer_due place
  fewer due fewer_due place still h = record {
    present = h.present;
    earlier = h.earlier;
    offers = λ cpu one owed. h.offers cpu one (still cpu one owed);
  }

  -- a firing of a processor reaches the session on a seat, to which no offer of that processor is due then
  module _ (place : Place) (session : Session) (is : place.present ≡ Some session) (firing : Firing) (cpu : ℕ)
      (own : firing.cpu ≡ cpu) (there : firing_at contents.scripts cpu firing.place ≡ Some firing)
      (before : firing.place < taken cpu) (next : AllByRecursion (IsLower cpu firing.place) session.view) where
    reached_orderly : IsOrderly contents taken session → IsOrderly contents taken (reached session (firing_made firing))
    reached_orderly h = record {
      name = h.name;
      account = h.account;
      brought = (
        h.brought,
        subst (λ n. firing_at contents.scripts n firing.place ≡ Some firing) (sym own) there,
        subst (λ n. AllByRecursion (IsLower n firing.place) session.view) (sym own) next,
      );
      only_lines = (tt, h.only_lines);
      below = λ other. (of_own firing cpu own other taken before, h.below other);
      pending = h.pending;
    }

    reached_seat : (due : (cpu : ℕ) → Option DueOffer)
        → ((one : DueOffer) → due cpu ≡ Some one → one.life ≡ length place.earlier → ⊥)
        → IsOrderlySeat contents taken due place
        → IsOrderlySeat contents taken due (record place { present = Some (reached session (firing_made firing)) })
    reached_seat due none h = record {
      present = λ other same.
          subst (IsOrderly contents taken) (same_session (reached session (firing_made firing)) other same)
          (reached_orderly (h.present session is));
      earlier = h.earlier;
      offers = λ other one owed.
          let offer = h.offers other one owed in
          record {
            own = offer.own;
            there = offer.there;
            before = offer.before;
            next = λ new same life.
                subst (λ (s : Session). AllByRecursion (IsLower other one.firing.place) s.view)
                (same_session (reached session (firing_made firing)) new same) (
                  of_other firing cpu own other one.firing.place
                      (λ equal. none one (subst (λ n. due n ≡ Some one) equal owed) life),
                  offer.next session is life,
                );
          };
    }

  -- Offer
  module _ (world : World) (h : IsOrderlyWorld contents taken world) where
    abbrev left : (cpu seat at other : ℕ) → Option DueOffer
    left cpu seat at other = cond (other == cpu && at == seat) None (world.due other at)

    left_is : (cpu seat at other : ℕ) (one : DueOffer) → left cpu seat at other ≡ Some one → world.due other at ≡ Some one
    left_is cpu seat at other one = by_both (other == cpu && at == seat) where
      by_both : (b : Bool) → cond b None (world.due other at) ≡ Some one → world.due other at ≡ Some one
      by_both true e = cc
      by_both false e = e

    gone : (cpu seat : ℕ) (one : DueOffer) → left cpu seat seat cpu ≡ Some one → ⊥
    gone cpu seat one e =
        let mine : left cpu seat seat cpu ≡ None =
        ap (λ b. cond (b && seat == seat) None (world.due cpu seat)) (eq-eqb cpu cpu refl)
        ∙ ap (λ b. cond b None (world.due cpu seat)) (eq-eqb seat seat refl) in
        let no : None ≡ Some one = sym mine ∙ e in cc

    offered_orderly : (cpu seat : ℕ) (due : DueOffer) → world.due cpu seat ≡ Some due
        → IsOrderlySeat contents taken (left cpu seat seat) (offered due (world.places seat))
    offered_orderly cpu seat due owed =
        let place = world.places seat in
        let offer = (h seat).offers cpu due owed in
        let kept = fewer (λ other. world.due other seat) (left cpu seat seat) place (left_is cpu seat seat) (h seat) in
        opt_case (IsOrderlySeat contents taken (left cpu seat seat))
        (λ session. cond (due.life == length place.earlier)
        (record place { present = Some (reached session (firing_made due.firing)) }) place)
        place.present place kept
        (λ session is. cond_both (due.life == length place.earlier)
        (record place { present = Some (reached session (firing_made due.firing)) }) place
        (IsOrderlySeat contents taken (left cpu seat seat))
        (λ same. reached_seat place session is due.firing cpu offer.own offer.there offer.before
        (offer.next session is (eqb-true due.life (length place.earlier) same)) (left cpu seat seat)
        (λ one more life. gone cpu seat one more) kept)
        (λ _. kept))

    pub offering_orderly : (cpu seat : ℕ) → IsOrderlyWorld contents taken (offering world cpu seat)
    unfolding offering
    offering_orderly cpu seat =
        opt_case (IsOrderlyWorld contents taken) (λ due. offering_of world cpu seat due) (world.due cpu seat) world h
        (λ due owed. λ at. by_seat due owed at (seat == at) refl)
      where
        by_seat : (due : DueOffer) → world.due cpu seat ≡ Some due → (at : ℕ) (b : Bool) → (seat == at) ≡ b
            → IsOrderlySeat contents taken (λ other. left cpu seat at other)
            (cond b (offered due (world.places seat)) (world.places at))
        by_seat due owed at true is =
            subst (λ n. IsOrderlySeat contents taken (λ other. left cpu seat n other) (offered due (world.places seat)))
            (eqb-true seat at is) (offered_orderly cpu seat due owed)
        by_seat due owed at false is =
            fewer (λ other. world.due other at) (λ other. left cpu seat at other) (world.places at)
            (left_is cpu seat at) (h at)

-- Look: the processor takes the next firing of its script.
abbrev pub one_more : (ℕ → ℕ) → (cpu : ℕ) → (ℕ → ℕ)
one_more taken cpu other = cond (other == cpu) (taken other + 1) (taken other)

module _ (contents : Contents) (taken : ℕ → ℕ) (cpu : ℕ) (firing : Firing) (own : firing.cpu ≡ cpu)
    (row : firing.place ≡ taken cpu) (there : firing_at contents.scripts cpu (taken cpu) ≡ Some firing) where
  abbrev later : ℕ → ℕ
  later = one_more taken cpu

  more : (other : ℕ) → taken other ≤ later other
  more other = by_cpu (other == cpu) where
    by_cpu : (b : Bool) → taken other ≤ cond b (taken other + 1) (taken other)
    by_cpu true = omega arith
    by_cpu false = omega arith

  below_later : firing.place < later cpu
  below_later =
      let one : later cpu ≡ taken cpu + 1 =
      ap (λ b. cond b (taken cpu + 1) (taken cpu)) (eq-eqb cpu cpu refl) in
      omega (arith, one, row)

  there_now : firing_at contents.scripts cpu firing.place ≡ Some firing
  there_now = subst (λ n. firing_at contents.scripts cpu n ≡ Some firing) (sym row) there

  -- the offers of a seat after the look named this life of it, or none
  abbrev due_then : ((other : ℕ) → Option DueOffer) → Option ℕ → (other : ℕ) → Option DueOffer
  due_then due named other = cond (other == cpu) (option_map (λ life. record { life = life; firing = firing }) named)
      (due other)

  module _ (place : Place) (due : (other : ℕ) → Option DueOffer) (named : Option ℕ)
      (h : IsOrderlySeat contents taken due place) where
    is_due : (one : DueOffer) → option_map (λ (life : ℕ). record { life = life; firing = firing }) named ≡ Some one
        → (one.firing ≡ firing) × (named ≡ Some one.life)
    is_due one = by_name named where
      by_name : (o : Option ℕ) → option_map (λ (life : ℕ). record { life = life; firing = firing }) o ≡ Some one
          → (one.firing ≡ firing) × (o ≡ Some one.life)
      by_name None e = cc
      by_name (Some life) e =
          let same = same_due (record { life = life; firing = firing }) one e in
          (sym (ap (λ (d : DueOffer). d.firing) same), ap (λ (d : DueOffer). Some d.life) same)

    new_offer : (one : DueOffer) → one.firing ≡ firing → IsOrderlyOffer contents later place cpu one
    new_offer one is = record {
      own = ap (λ (f : Firing). f.cpu) is ∙ own;
      there = subst (λ (f : Firing). firing_at contents.scripts cpu f.place ≡ Some f) (sym is) there_now;
      before = subst (λ (f : Firing). f.place < later cpu) (sym is) below_later;
      next = λ session present life.
          subst (λ n. AllByRecursion (IsLower cpu n) session.view)
          (sym (ap (λ (f : Firing). f.place) is ∙ row)) ((h.present session present).below cpu);
    }

    -- what is on the seat stays as it is
    kept_seat : IsOrderlySeat contents later (due_then due named) place
    kept_seat =
        let raised = seat_raised contents taken later more due place h in
        record {
          present = raised.present;
          earlier = raised.earlier;
          offers = λ other one owed. by_cpu raised other one owed (eqb_tells other cpu);
        }
      where
        by_cpu : IsOrderlySeat contents later due place → (other : ℕ) (one : DueOffer) → due_then due named other ≡ Some one
            → (((other == cpu) ≡ true) × (other ≡ cpu)) ⊎ (((other == cpu) ≡ false) × (other ≢ cpu))
            → IsOrderlyOffer contents later place other one
        by_cpu raised other one owed (inl is) =
            let mine : option_map (λ (life : ℕ). record { life = life; firing = firing }) named ≡ Some one =
            sym (ap (λ b. cond b (option_map (λ (life : ℕ). record { life = life; firing = firing }) named) (due other)) is.0)
            ∙ owed in
            subst (λ n. IsOrderlyOffer contents later place n one) (sym is.1) (new_offer one (is_due one mine).0)
        by_cpu raised other one owed (inr is) =
            raised.offers other one
            (sym (ap (λ b. cond b (option_map (λ (life : ℕ). record { life = life; firing = firing }) named) (due other)) is.0)
            ∙ owed)

    -- the offer that is due now is to another session
    none_due : option_map_or (λ life. life == length place.earlier) named false ≡ false → (one : DueOffer)
        → due_then due named cpu ≡ Some one → one.life ≡ length place.earlier → ⊥
    none_due unnamed one owed life =
        let mine : option_map (λ (life : ℕ). record { life = life; firing = firing }) named ≡ Some one =
        sym (ap (λ b. cond b (option_map (λ (life : ℕ). record { life = life; firing = firing }) named) (due cpu))
        (eq-eqb cpu cpu refl)) ∙ owed in
        let yes : option_map_or (λ life. life == length place.earlier) named false ≡ true =
        ap (λ o. option_map_or (λ life. life == length place.earlier) o false) (is_due one mine).1
        ∙ eq-eqb one.life (length place.earlier) life in
        both_ways (option_map_or (λ life. life == length place.earlier) named false) unnamed yes

    passed_seat : IsOrderlySeat contents later (due_then due named) (passed firing named place)
    passed_seat =
        opt_case (IsOrderlySeat contents later (due_then due named))
        (λ session. cond (option_map_or (λ life. life == length place.earlier) named false) place
        (record place { present = Some (reached session (firing_made firing)) }))
        place.present place kept_seat
        (λ session is. cond_both (option_map_or (λ life. life == length place.earlier) named false) place
        (record place { present = Some (reached session (firing_made firing)) })
        (IsOrderlySeat contents later (due_then due named))
        (λ _. kept_seat)
        (λ unnamed. reached_seat contents later place session is firing cpu own there_now below_later
        (subst (λ n. AllByRecursion (IsLower cpu n) session.view) (sym row) ((h.present session is).below cpu))
        (due_then due named) (none_due unnamed) kept_seat))

  pub looking_orderly : (registry : Registry) (world : World) → IsOrderlyWorld contents taken world
      → IsOrderlyWorld contents (one_more taken cpu) (looking registry world cpu firing)
  unfolding looking
  looking_orderly registry world h =
      cond_both (nat_lt cpu registry.cpus && (firing.cpu == cpu && is_done (world.due cpu)))
      (looking_at world cpu firing (mask_of registry world.writes firing)) world (IsOrderlyWorld contents later)
      (λ _. λ seat. passed_seat (world.places seat) (λ other. world.due other seat)
      (mask_of registry world.writes firing seat) (h seat))
      (λ _. λ seat. seat_raised contents taken later more (λ other. world.due other seat) (world.places seat) (h seat))
