-- Each step leaves an orderly world orderly.
use Rattle.std.proofs.Common.{◌≡◌, ℕ, ◌≤◌, ◌==◌, ◌&&◌, Bool, true, false, cond, List, [], ◌∷◌, Option, Some, None}
use Rattle.std.proofs.Common.{is_none, nat_lt, refl, ap, subst, arith}
use Rattle.std.proofs.lemmas.Bool.{cond_both, eqb-true}
use Rattle.std.specs.List.{AllByRecursion}
use Rattle.std.specs.Option.{option_map_or}
use Rattle.dt_chain.specs.Limits.{seat_count}
use Rattle.dt_cred.specs.declared.account.Account.{Account}
use Rattle.dt_machine.specs.Registry.{Registry, Contents}
use Rattle.dt_proto.specs.Alone.{Reached, own_line, firing_made}
use Rattle.dt_proto.specs.Brought.{IsInForm, IsLower, IsOneLine}
use Rattle.dt_proto.specs.Lines.{LineForm}
use Rattle.dt_proto.specs.Session.{session_account}
use Rattle.dt_steps.specs.Steps.{with_place, with_session, answering, opening, asking, publishing, publishing_of, finishing}
use Rattle.dt_steps.specs.Steps.{withdrawing, closing}
use Rattle.dt_steps.specs.World.{World, Session, Place, Pending, DueOffer, new_session, answered, waiting, may_ask}
use Rattle.dt_steps.specs.World.{accepts_go, may_withdraw}
use Rattle.dt_world.specs.Orderly.{IsOrderly, IsOrderlyOffer, IsOrderlySeat, IsOrderlyWorld}

pub all_weaker : {X : Type 0} (P Q : X → Type 0) → ((x : X) → P x → Q x) → (xs : List X) → AllByRecursion P xs
    → AllByRecursion Q xs
all_weaker P Q f [] h = tt
all_weaker P Q f (x ∷ xs) h = (f x h.0, all_weaker P Q f xs h.1)

pub opt_case : {A B : Type 0} (P : B → Type 0) (f : A → B) (o : Option A) (b : B) → P b
    → ((a : A) → o ≡ Some a → P (f a)) → P (option_map_or f o b)
opt_case P f None b h k = h
opt_case P f (Some a) b h k = k a refl

same_session : (a b : Session) → Some a ≡ Some b → a ≡ b
same_session a b e = ap (λ o. option_map_or (λ s. s) o a) e

-- what is lower than a place is lower than a higher one
lower_more : (cpu low high : ℕ) → low ≤ high → (event : Reached) → IsLower cpu low event → IsLower cpu high event
lower_more cpu low high le (own_line line) h = tt
lower_more cpu low high le (firing_made firing) h = λ own. let less = h own in omega (arith, less, le)

pub all_lower_more : (cpu low high : ℕ) → low ≤ high → (view : List Reached) → AllByRecursion (IsLower cpu low) view
    → AllByRecursion (IsLower cpu high) view
all_lower_more cpu low high le view h =
    all_weaker (IsLower cpu low) (IsLower cpu high) (lower_more cpu low high le) view h

-- where more firings were taken
module _ (contents : Contents) (taken later : ℕ → ℕ) (more : (cpu : ℕ) → taken cpu ≤ later cpu) where
  session_raised : (session : Session) → IsOrderly contents taken session → IsOrderly contents later session
  session_raised session h = record {
    name = h.name;
    account = h.account;
    brought = h.brought;
    only_lines = h.only_lines;
    below = λ cpu. all_lower_more cpu (taken cpu) (later cpu) (more cpu) session.view (h.below cpu);
    pending = h.pending;
  }

  offer_raised : (place : Place) (cpu : ℕ) (due : DueOffer) → IsOrderlyOffer contents taken place cpu due
      → IsOrderlyOffer contents later place cpu due
  offer_raised place cpu due h =
      let le = more cpu in
      let before = h.before in
      record { own = h.own; there = h.there; before = omega (arith, before, le); next = h.next }

  pub seat_raised : (due : (cpu : ℕ) → Option DueOffer) (place : Place) → IsOrderlySeat contents taken due place
      → IsOrderlySeat contents later due place
  seat_raised due place h = record {
    present = λ session is. session_raised session (h.present session is);
    earlier = all_weaker (IsOrderly contents taken) (IsOrderly contents later) session_raised place.earlier h.earlier;
    offers = λ cpu one is. offer_raised place cpu one (h.offers cpu one is);
  }

module _ (contents : Contents) (taken : ℕ → ℕ) where
  abbrev Orderly : World → Type 0
  Orderly world = IsOrderlyWorld contents taken world

  -- one seat is another
  placed : (world : World) (at : ℕ) (place : Place) → Orderly world
      → IsOrderlySeat contents taken (λ cpu. world.due cpu at) place → Orderly (with_place world at place)
  placed world at place h new seat = by_seat (at == seat) refl where
    by_seat : (b : Bool) → (at == seat) ≡ b
        → IsOrderlySeat contents taken (λ cpu. world.due cpu seat) (cond b place (world.places seat))
    by_seat true is = subst (λ n. IsOrderlySeat contents taken (λ cpu. world.due cpu n) place) (eqb-true at seat is) new
    by_seat false is = h seat

  -- the session on a seat is another
  changed : (due : (cpu : ℕ) → Option DueOffer) (place : Place) (session new : Session) → place.present ≡ Some session
      → IsOrderlySeat contents taken due place → IsOrderly contents taken new
      → ((cpu n : ℕ) → AllByRecursion (IsLower cpu n) session.view → AllByRecursion (IsLower cpu n) new.view)
      → IsOrderlySeat contents taken due (record { present = Some new; earlier = place.earlier })
  changed due place session new is h orderly keeps = record {
    present = λ other same. subst (IsOrderly contents taken) (same_session new other same) orderly;
    earlier = h.earlier;
    offers = λ cpu one owed.
        let offer = h.offers cpu one owed in
        record {
          own = offer.own;
          there = offer.there;
          before = offer.before;
          next = λ other same life.
              subst (λ (s : Session). AllByRecursion (IsLower cpu one.firing.place) s.view) (same_session new other same)
              (keeps cpu one.firing.place (offer.next session is life));
        };
  }

  answered_orderly : (session : Session) (line : LineForm) → IsInForm line → IsOneLine line
      → IsOrderly contents taken session → IsOrderly contents taken (answered session line)
  answered_orderly session line form one h = record {
    name = h.name;
    account = h.account;
    brought = (h.brought, form);
    only_lines = (one, h.only_lines);
    below = λ cpu. (tt, h.below cpu);
    pending = λ go no. cc;
  }

  waiting_orderly : (session : Session) (line : LineForm) (published : Bool) → IsInForm line → IsOneLine line
      → IsOrderly contents taken session → IsOrderly contents taken (waiting session line published)
  waiting_orderly session line published form one h = record {
    name = h.name;
    account = h.account;
    brought = h.brought;
    only_lines = h.only_lines;
    below = h.below;
    pending = λ go is.
        let same : line ≡ go.line = ap (λ o. option_map_or (λ (p : Pending). p.line) o line) is in
        (subst IsInForm same form, subst IsOneLine same one);
  }

  module _ (registry : Registry) (world : World) (h : Orderly world) where
    answering_orderly : (seat : ℕ) (session : Session) (line : LineForm) → (world.places seat).present ≡ Some session
        → IsInForm line → IsOneLine line → Orderly (answering world seat session line)
    answering_orderly seat session line is form one =
        placed world seat (record { present = Some (answered session line); earlier = (world.places seat).earlier }) h
        (changed (λ cpu. world.due cpu seat) (world.places seat) session (answered session line) is (h seat)
        (answered_orderly session line form one ((h seat).present session is)) (λ cpu n lower. (tt, lower)))

    waiting_world : (seat : ℕ) (session : Session) (line : LineForm) (published : Bool)
        → (world.places seat).present ≡ Some session → IsInForm line → IsOneLine line
        → Orderly (with_session world seat (waiting session line published))
    waiting_world seat session line published is form one =
        placed world seat
        (record { present = Some (waiting session line published); earlier = (world.places seat).earlier }) h
        (changed (λ cpu. world.due cpu seat) (world.places seat) session (waiting session line published) is (h seat)
        (waiting_orderly session line published form one ((h seat).present session is)) (λ cpu n lower. lower))

    new_orderly : (account : Account) (name : List ℕ) → session_account contents.registry name ≡ Some account
        → IsOrderly contents taken (new_session account)
    new_orderly account name is = record {
      name = name;
      account = is;
      brought = tt;
      only_lines = tt;
      below = λ cpu. tt;
      pending = λ go no. cc;
    }

    opened : (seat : ℕ) (account : Account) (name : List ℕ) → session_account contents.registry name ≡ Some account
        → IsOrderlySeat contents taken (λ cpu. world.due cpu seat)
        (record { present = Some (new_session account); earlier = (world.places seat).earlier })
    opened seat account name is = record {
      present = λ other same.
          subst (IsOrderly contents taken) (same_session (new_session account) other same) (new_orderly account name is);
      earlier = (h seat).earlier;
      offers = λ cpu one owed.
          let offer = (h seat).offers cpu one owed in
          record {
            own = offer.own;
            there = offer.there;
            before = offer.before;
            next = λ other same life.
                subst (λ (s : Session). AllByRecursion (IsLower cpu one.firing.place) s.view)
                (same_session (new_session account) other same) tt;
          };
    }

    pub opening_orderly : (seat : ℕ) (name : List ℕ) → Orderly (opening contents.registry world seat name)
    unfolding opening
    opening_orderly seat name =
        cond_both (nat_lt seat seat_count && is_none (world.places seat).present)
        (option_map_or (λ account. with_session world seat (new_session account))
        (session_account contents.registry name) world)
        world Orderly
        (λ _. opt_case Orderly (λ account. with_session world seat (new_session account))
        (session_account contents.registry name) world h
        (λ account found. placed world seat
        (record { present = Some (new_session account); earlier = (world.places seat).earlier }) h
        (opened seat account name found)))
        (λ _. h)

    pub asking_orderly : (seat : ℕ) (line : LineForm) → IsInForm line → IsOneLine line
        → Orderly (asking registry world seat line)
    unfolding asking
    asking_orderly seat line form one =
        opt_case Orderly
        (λ session. cond (may_ask registry session) (cond (accepts_go registry session line)
        (with_session world seat (waiting session line false)) (answering world seat session line)) world)
        (world.places seat).present world h
        (λ session is. cond_both (may_ask registry session) (cond (accepts_go registry session line)
        (with_session world seat (waiting session line false)) (answering world seat session line)) world Orderly
        (λ _. cond_both (accepts_go registry session line) (with_session world seat (waiting session line false))
        (answering world seat session line) Orderly
        (λ _. waiting_world seat session line false is form one)
        (λ _. answering_orderly seat session line is form one))
        (λ _. h))

    pub publishing_orderly : (seat : ℕ) → Orderly (publishing registry world seat)
    unfolding publishing
    publishing_orderly seat =
        opt_case Orderly
        (λ session. option_map_or (λ pending. cond pending.published world
        (publishing_of registry world seat session pending)) session.go world)
        (world.places seat).present world h
        (λ session is. opt_case Orderly
        (λ pending. cond pending.published world (publishing_of registry world seat session pending))
        session.go world h
        (λ pending waits. cond_both pending.published world (publishing_of registry world seat session pending) Orderly
        (λ _. h)
        (λ _. let line = ((h seat).present session is).pending pending waits in
        waiting_world seat session pending.line true is line.0 line.1)))

    pub finishing_orderly : (seat : ℕ) → Orderly (finishing world seat)
    unfolding finishing
    finishing_orderly seat =
        opt_case Orderly
        (λ session. option_map_or (λ pending. cond pending.published (answering world seat session pending.line) world)
        session.go world)
        (world.places seat).present world h
        (λ session is. opt_case Orderly
        (λ pending. cond pending.published (answering world seat session pending.line) world) session.go world h
        (λ pending waits. cond_both pending.published (answering world seat session pending.line) world Orderly
        (λ _. let line = ((h seat).present session is).pending pending waits in
        answering_orderly seat session pending.line is line.0 line.1)
        (λ _. h)))

    pub withdrawing_orderly : (seat : ℕ) → Orderly (withdrawing registry world seat)
    unfolding withdrawing
    withdrawing_orderly seat =
        cond_both (option_map_or (may_withdraw registry) (world.places seat).present true) _ world Orderly
        (λ _. h) (λ _. h)

    pub closing_orderly : (seat : ℕ) → Orderly (closing world seat)
    unfolding closing
    closing_orderly seat =
        opt_case Orderly
        (λ session. with_place world seat (record { present = None; earlier = session ∷ (world.places seat).earlier }))
        (world.places seat).present world h
        (λ session is. placed world seat (record { present = None; earlier = session ∷ (world.places seat).earlier }) h
        (record {
          present = λ other no. cc;
          earlier = ((h seat).present session is, (h seat).earlier);
          offers = λ cpu one owed.
              let offer = (h seat).offers cpu one owed in
              record {
                own = offer.own;
                there = offer.there;
                before = offer.before;
                next = λ other no life. cc;
              };
        }))
