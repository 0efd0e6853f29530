-- What each step answers, and how many sessions there are after it.
use Rattle.std.proofs.Common.{◌≡◌, ℕ, ◌+◌, ◌≤◌, ◌&&◌, ◌==◌, Bool, true, false, cond, List, [], ◌∷◌, ◌++◌, Option, Some, None}
use Rattle.std.proofs.Common.{is_none, nat_lt, length, fold, Vec, Global, option_map, refl, sym, ap, ◌∙◌, subst, arith}
use Rattle.std.proofs.lemmas.Bool.{cond_both, eq-eqb}
use Rattle.std.specs.Option.{option_map_or}
use Rattle.dt_machine.specs.Registry.{Registry}
use Rattle.dt_cred.specs.declared.firing.Firing.{Firing}
use Rattle.dt_chain.specs.Seats.{life_at}
use Rattle.dt_chain.specs.declared.seat.TheConstants.{SEATS}
use Rattle.dt_chain.specs.declared.seat_mask.SeatMask.{SeatMask}
use Rattle.dt_proto.specs.Lines.{LineForm}
use Rattle.dt_proto.specs.Session.{session_account}
use Rattle.dt_steps.specs.Ran.{SeatReply, IsReply, AreReplies, AreMasks, HasTold}
use Rattle.dt_steps.specs.Stands.{IsAnswered, IsLooked}
use Rattle.dt_steps.specs.Steps.{StepForm, opens, asks, publishes, finishes, withdraws, looks, offers, closes, after_step}
use Rattle.dt_steps.specs.Steps.{world_after, with_session, answering, opening, asking, publishing, publishing_of}
use Rattle.dt_steps.specs.Steps.{finishing, withdrawing, passed, looking_at, may_look, looking, is_done, offered, offering}
use Rattle.dt_steps.specs.Steps.{closing}
use Rattle.dt_steps.specs.Telling.{IsTelling}
use Rattle.dt_chain.specs.Tests.{mask_of}
use Rattle.dt_steps.specs.World.{World, Place, DueOffer, Question, new_world, number_on, new_session, answered, waiting}
use Rattle.dt_steps.specs.World.{may_ask, accepts_go, may_withdraw}
use Rattle.dt_steps.specs.declared.outcome.StepAnswer.TheVariants.{Quiet, Replied, Looked}
use Rattle.dt_steps.proofs.Soundness.{updated, option_case}

module _ (registry : Registry) (world : World) where
  -- nothing was answered
  abbrev pub IsQuiet : World → Type 0
  IsQuiet later = (later.questions ≡ world.questions) × (later.looks ≡ world.looks)

  pub quiet-opening : (seat : ℕ) (name : List ℕ) → IsQuiet (opening registry world seat name)
  unfolding opening
  quiet-opening seat name =
      cond_both (nat_lt seat SEATS && is_none (world.places seat).present) _ world IsQuiet
      (λ may. option_case IsQuiet _ world (session_account registry name) (refl, refl) (λ account is. (refl, refl)))
      (λ no. (refl, refl))

  pub looks-asking : (seat : ℕ) (line : LineForm) → (asking registry world seat line).looks ≡ world.looks
  unfolding asking
  looks-asking seat line =
      option_case (λ (w : World). w.looks ≡ world.looks) _ world (world.places seat).present refl (λ session is.
      cond_both (may_ask registry session) _ world (λ w. w.looks ≡ world.looks)
      (λ may. cond_both (accepts_go registry session line) (with_session world seat (waiting session line false))
      (answering world seat session line) (λ w. w.looks ≡ world.looks) (λ yes. refl) (λ no. refl))
      (λ no. refl))

  pub quiet-publishing : (seat : ℕ) → IsQuiet (publishing registry world seat)
  unfolding publishing
  quiet-publishing seat =
      option_case IsQuiet _ world (world.places seat).present (refl, refl) (λ session is.
      option_case IsQuiet _ world session.go (refl, refl) (λ pending pends.
      cond_both pending.published world (publishing_of registry world seat session pending) IsQuiet
      (λ done. (refl, refl)) (λ due. (refl, refl))))

  pub looks-finishing : (seat : ℕ) → (finishing world seat).looks ≡ world.looks
  unfolding finishing
  looks-finishing seat =
      option_case (λ (w : World). w.looks ≡ world.looks) _ world (world.places seat).present refl (λ session is.
      option_case (λ (w : World). w.looks ≡ world.looks) _ world session.go refl (λ pending pends.
      cond_both pending.published (answering world seat session pending.line) world
      (λ w. w.looks ≡ world.looks) (λ due. refl) (λ no. refl)))

  pub quiet-withdrawing : (seat : ℕ) → IsQuiet (withdrawing registry world seat)
  unfolding withdrawing
  quiet-withdrawing seat =
      cond_both (option_map_or (may_withdraw registry) (world.places seat).present true) _ world IsQuiet
      (λ may. (refl, refl)) (λ no. (refl, refl))

  pub questions-looking : (cpu : ℕ) (firing : Firing) → (looking registry world cpu firing).questions ≡ world.questions
  unfolding looking
  questions-looking cpu firing =
      cond_both (nat_lt cpu registry.cpus && (firing.cpu == cpu && is_done (world.due cpu)))
      (looking_at world cpu firing (mask_of registry world.writes firing)) world
      (λ w. w.questions ≡ world.questions) (λ may. refl) (λ no. refl)

  pub quiet-looking : (cpu : ℕ) (firing : Firing) → may_look registry world cpu firing ≡ false
      → IsQuiet (looking registry world cpu firing)
  unfolding looking
  quiet-looking cpu firing off = rw off (refl, refl)

  looking_may : (cpu : ℕ) (firing : Firing) → may_look registry world cpu firing ≡ true
      → looking registry world cpu firing ≡ looking_at world cpu firing (mask_of registry world.writes firing)
  unfolding looking
  looking_may cpu firing may = rw may refl

  life_due : (own : Bool) (named : Option ℕ) (firing : Firing) (other : Option DueOffer) → own ≡ true
      → option_map (λ due. due.life) (cond own (option_map (λ life. record { life = life; firing = firing }) named) other)
      ≡ named
  life_due own None firing other is = rw is refl
  life_due own (Some life) firing other is = rw is refl

  -- a look named the lives that are due then
  pub looked-looking : (cpu : ℕ) (firing : Firing) (mask : SeatMask) → may_look registry world cpu firing ≡ true
      → ((seat : ℕ) → life_at mask seat
      ≡ option_map (λ due. due.life) ((looking registry world cpu firing).due cpu seat))
      → IsLooked world (looking registry world cpu firing) (Some mask)
  looked-looking cpu firing mask may h =
      let is = looking_may cpu firing may in (
        mask_of registry world.writes firing,
        ap (λ (w : World). w.looks) is,
        λ seat. h seat ∙ ap (λ (w : World). option_map (λ due. due.life) (w.due cpu seat)) is
            ∙ life_due (cpu == cpu) (mask_of registry world.writes firing seat) firing (world.due cpu seat)
            (eq-eqb cpu cpu refl),
      )

  pub quiet-offering : (cpu seat : ℕ) → IsQuiet (offering world cpu seat)
  unfolding offering
  quiet-offering cpu seat =
      option_case IsQuiet _ world (world.due cpu seat) (refl, refl) (λ due is. (refl, refl))

  pub quiet-closing : (seat : ℕ) → IsQuiet (closing world seat)
  unfolding closing
  quiet-closing seat =
      option_case IsQuiet _ world (world.places seat).present (refl, refl) (λ session is. (refl, refl))

  -- one session more at the most
  abbrev Grows : World → Type 0
  Grows later = (seat : ℕ) → number_on later seat ≤ number_on world seat + 1

  abbrev GrowsTo : ℕ → Place → Type 0
  GrowsTo seat place = length place.earlier ≤ number_on world seat + 1

  grows_same : Grows world
  grows_same seat = omega arith

  grows_place : (seat : ℕ) (place : Place) → length place.earlier ≤ number_on world seat + 1
      → (other : ℕ) → GrowsTo other (cond (seat == other) place (world.places other))
  grows_place seat place h = updated GrowsTo world.places seat place (λ other. grows_same other) h

  grows-opening : (seat : ℕ) (name : List ℕ) → Grows (opening registry world seat name)
  unfolding opening
  grows-opening seat name =
      cond_both (nat_lt seat SEATS && is_none (world.places seat).present) _ world Grows
      (λ may. option_case Grows _ world (session_account registry name) grows_same (λ account is.
      grows_place seat (record { present = Some (new_session account); earlier = (world.places seat).earlier })
      (grows_same seat)))
      (λ no. grows_same)

  grows-asking : (seat : ℕ) (line : LineForm) → Grows (asking registry world seat line)
  unfolding asking
  grows-asking seat line =
      option_case Grows _ world (world.places seat).present grows_same (λ session is.
      cond_both (may_ask registry session) _ world Grows
      (λ may. cond_both (accepts_go registry session line) (with_session world seat (waiting session line false))
      (answering world seat session line) Grows
      (λ yes. grows_place seat (record {
        present = Some (waiting session line false);
        earlier = (world.places seat).earlier;
      }) (grows_same seat))
      (λ no. grows_place seat (record {
        present = Some (answered session line);
        earlier = (world.places seat).earlier;
      }) (grows_same seat)))
      (λ no. grows_same))

  grows-publishing : (seat : ℕ) → Grows (publishing registry world seat)
  unfolding publishing
  grows-publishing seat =
      option_case Grows _ world (world.places seat).present grows_same (λ session is.
      option_case Grows _ world session.go grows_same (λ pending pends.
      cond_both pending.published world (publishing_of registry world seat session pending) Grows (λ done. grows_same)
      (λ due. grows_place seat (record {
        present = Some (waiting session pending.line true);
        earlier = (world.places seat).earlier;
      }) (grows_same seat))))

  grows-finishing : (seat : ℕ) → Grows (finishing world seat)
  unfolding finishing
  grows-finishing seat =
      option_case Grows _ world (world.places seat).present grows_same (λ session is.
      option_case Grows _ world session.go grows_same (λ pending pends.
      cond_both pending.published (answering world seat session pending.line) world Grows
      (λ due. grows_place seat (record {
        present = Some (answered session pending.line);
        earlier = (world.places seat).earlier;
      }) (grows_same seat))
      (λ no. grows_same)))

  grows-withdrawing : (seat : ℕ) → Grows (withdrawing registry world seat)
  unfolding withdrawing
  grows-withdrawing seat =
      cond_both (option_map_or (may_withdraw registry) (world.places seat).present true) _ world Grows
      (λ may. grows_same) (λ no. grows_same)

  grows_passed : (seat : ℕ) (place : Place) (firing : Firing) (named : Option ℕ) → GrowsTo seat place
      → GrowsTo seat (passed firing named place)
  grows_passed seat place firing named h =
      option_case (GrowsTo seat) _ place place.present h (λ session is.
      cond_both (option_map_or (λ life. life == length place.earlier) named false) _ _ (GrowsTo seat)
      (λ own. h) (λ other. h))

  grows_offered : (seat : ℕ) (place : Place) (due : DueOffer) → GrowsTo seat place → GrowsTo seat (offered due place)
  grows_offered seat place due h =
      option_case (GrowsTo seat) _ place place.present h (λ session is.
      cond_both (due.life == length place.earlier) _ _ (GrowsTo seat) (λ own. h) (λ other. h))

  grows-looking : (cpu : ℕ) (firing : Firing) → Grows (looking registry world cpu firing)
  unfolding looking
  grows-looking cpu firing =
      cond_both (nat_lt cpu registry.cpus && (firing.cpu == cpu && is_done (world.due cpu))) _ world Grows
      (λ may seat. grows_passed seat (world.places seat) firing (mask_of registry world.writes firing seat)
      (grows_same seat))
      (λ no. grows_same)

  grows-offering : (cpu seat : ℕ) → Grows (offering world cpu seat)
  unfolding offering
  grows-offering cpu seat =
      option_case Grows _ world (world.due cpu seat) grows_same (λ due is.
      grows_place seat (offered due (world.places seat))
      (grows_offered seat (world.places seat) due (grows_same seat)))

  grows-closing : (seat : ℕ) → Grows (closing world seat)
  unfolding closing
  grows-closing seat =
      option_case Grows _ world (world.places seat).present grows_same (λ session is.
      grows_place seat (record { present = None; earlier = session ∷ (world.places seat).earlier }) (omega arith))

  grows-happens : (step : StepForm) → Grows (after_step registry world step)
  grows-happens (opens seat name) = grows-opening seat name
  grows-happens (asks seat line) = grows-asking seat line
  grows-happens (publishes seat) = grows-publishing seat
  grows-happens (finishes seat) = grows-finishing seat
  grows-happens (withdraws seat) = grows-withdrawing seat
  grows-happens (looks cpu firing) = grows-looking cpu firing
  grows-happens (offers cpu seat) = grows-offering cpu seat
  grows-happens (closes seat) = grows-closing seat

few_fold : (registry : Registry) (world : World) (steps : List StepForm) (seat : ℕ)
    → number_on (fold (after_step registry) world steps) seat ≤ number_on world seat + length steps
few_fold registry world [] seat = omega arith
few_fold registry world (step ∷ steps) seat =
    let one = grows-happens registry world step seat in
    let more = few_fold registry (after_step registry world step) steps seat in
    omega (arith, one, more)

-- no more sessions on a seat than there were steps
pub few_after : (registry : Registry) (steps : List StepForm) (seat : ℕ)
    → number_on (world_after registry steps) seat ≤ length steps
few_after registry steps seat = let h = few_fold registry new_world steps seat in omega (arith, h)

fold_end : (registry : Registry) (world : World) (steps : List StepForm) (step : StepForm)
    → fold (after_step registry) world (steps ++ step ∷ [])
    ≡ after_step registry (fold (after_step registry) world steps) step
fold_end registry world [] step = refl
fold_end registry world (first ∷ steps) step = fold_end registry (after_step registry world first) steps step

-- one step more
pub world_after-end : (registry : Registry) (steps : List StepForm) (step : StepForm)
    → world_after registry (steps ++ step ∷ []) ≡ after_step registry (world_after registry steps) step
world_after-end registry steps step = fold_end registry new_world steps step

-- a reply, if there is one
pub telling_replied : {A : Type 0} (text_of : A → Vec ℕ Global) (registry : Registry) (before after : World) (seat : ℕ)
    (reply : Option A) → IsAnswered registry before after seat (option_map (λ a. (text_of a).items) reply)
    → after.looks ≡ before.looks
    → IsTelling registry before after (option_map_or (λ a. Replied seat (text_of a)) reply Quiet)
telling_replied text_of registry before after seat None h same = (h, same)
telling_replied text_of registry before after seat (Some a) h same = (h, same)

-- one reply more, one mask more
replies_more : (registry : Registry) (questions : List Question) (question : Question) (told : List SeatReply) (one : SeatReply)
    → AreReplies registry questions told → IsReply registry question one
    → AreReplies registry (questions ++ question ∷ []) (told ++ one ∷ [])
replies_more registry [] question [] one h last = (last, tt)
replies_more registry [] question (t ∷ told) one h last = absurd h
replies_more registry (q ∷ questions) question [] one h last = absurd h
replies_more registry (q ∷ questions) question (t ∷ told) one h last =
    (h.0, replies_more registry questions question told one h.1 last)

masks_more : (named : List (ℕ → Option ℕ)) (look : ℕ → Option ℕ) (masks : List SeatMask) (mask : SeatMask)
    → AreMasks named masks → ((seat : ℕ) → life_at mask seat ≡ look seat)
    → AreMasks (named ++ look ∷ []) (masks ++ mask ∷ [])
masks_more [] look [] mask h last = (last, tt)
masks_more [] look (m ∷ masks) mask h last = absurd h
masks_more (l ∷ named) look [] mask h last = absurd h
masks_more (l ∷ named) look (m ∷ masks) mask h last = (h.0, masks_more named look masks mask h.1 last)

module _ (registry : Registry) (before after : World) (told : List SeatReply) (masks : List SeatMask)
    (h : HasTold registry before told masks) where
  pub told-quiet : IsTelling registry before after Quiet → HasTold registry after told masks
  told-quiet same = record {
    replies = subst (λ qs. AreReplies registry qs told) (sym same.0) h.replies;
    masks = subst (λ ls. AreMasks ls masks) (sym same.1) h.masks;
  }

  pub told-replied : (seat : ℕ) (text : Vec ℕ Global) → IsTelling registry before after (Replied seat text)
      → HasTold registry after (told ++ (seat, text.items) ∷ []) masks
  told-replied seat text telling = record {
    replies = subst (λ qs. AreReplies registry qs (told ++ (seat, text.items) ∷ [])) (sym telling.0.1)
        (replies_more registry before.questions telling.0.0 told (seat, text.items) h.replies telling.0.2);
    masks = subst (λ ls. AreMasks ls masks) (sym telling.1) h.masks;
  }

  pub told-looked : (mask : SeatMask) → IsTelling registry before after (Looked mask)
      → HasTold registry after told (masks ++ mask ∷ [])
  told-looked mask telling = record {
    replies = subst (λ qs. AreReplies registry qs told) (sym telling.0) h.replies;
    masks = subst (λ ls. AreMasks ls (masks ++ mask ∷ [])) (sym telling.1.1)
        (masks_more before.looks telling.1.0 masks mask h.masks telling.1.2);
  }
