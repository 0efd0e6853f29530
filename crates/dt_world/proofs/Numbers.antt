-- How many sessions were closed on a seat: one more for each line at most.
use Rattle.std.proofs.Common.{◌≡◌, ℕ, ◌+◌, ◌≤◌, ◌==◌, ◌&&◌, Bool, true, false, cond, List, [], ◌∷◌, Option, Some, None}
use Rattle.std.proofs.Common.{is_none, nat_lt, length, map, fold, refl, subst, arith}
use Rattle.std.proofs.lemmas.Bool.{eqb-true, cond_both}
use Rattle.std.specs.Option.{option_map_or}
use Rattle.dt_machine.specs.Registry.{Registry, Contents}
use Rattle.dt_cred.specs.declared.firing.Firing.{Firing}
use Rattle.dt_chain.specs.declared.seat.TheConstants.{SEATS}
use Rattle.dt_proto.specs.Lines.{LineForm, line_form}
use Rattle.dt_proto.specs.Session.{session_account}
use Rattle.dt_world.specs.Replay.{Replayed, after_step_line, replayed, steps_of_line, firing_steps, next_of, seats_due}
use Rattle.dt_world.specs.Replay.{beginning}
use Rattle.dt_world.specs.StepLine.{StepLineForm, open_line, close_line, withdraw_line, ask_line, publish_line}
use Rattle.dt_world.specs.StepLine.{finish_line, look_line, offer_line, call_line, fire_line}
use Rattle.dt_steps.specs.Steps.{StepForm, opens, asks, publishes, finishes, withdraws, looks, offers, closes, after_step}
use Rattle.dt_steps.specs.Steps.{with_place, with_session, answering, opening, asking, publishing, publishing_of}
use Rattle.dt_steps.specs.Steps.{finishing, withdrawing, passed, looking_at, looking, is_done, offered, offering_of}
use Rattle.dt_steps.specs.Steps.{offering, closing}
use Rattle.dt_chain.specs.Tests.{mask_of}
use Rattle.dt_steps.specs.World.{World, Session, Place, DueOffer, number_on, new_session, answered, waiting, may_ask, accepts_go}
use Rattle.dt_steps.specs.World.{may_withdraw, waits, has_closed}

-- what a step adds to the number of closed sessions, at most
abbrev adds : StepForm → ℕ
adds (closes seat) = 1
adds (opens seat name) = 0
adds (asks seat line) = 0
adds (publishes seat) = 0
adds (finishes seat) = 0
adds (withdraws seat) = 0
adds (looks cpu firing) = 0
adds (offers cpu seat) = 0

abbrev all_add : List StepForm → ℕ
all_add [] = 0
all_add (step ∷ steps) = adds step + all_add steps

either : {A B : Type 0} (P : B → Type 0) (f : A → B) (b : B) (o : Option A) → P b → ((a : A) → P (f a))
    → P (option_map_or f o b)
either P f b None h k = h
either P f b (Some a) h k = k a

module _ (world : World) (seat : ℕ) where
  -- no more sessions were closed on the seat than before and `more`
  abbrev pub AtMost : ℕ → World → Type 0
  AtMost more after = number_on after seat ≤ number_on world seat + more

  same : AtMost 0 world
  same = omega arith

  placed_at : (at : ℕ) (place : Place) (more : ℕ) (own : Bool) → (at == seat) ≡ own
      → length place.earlier ≤ length (world.places at).earlier + more
      → length (cond own place (world.places seat)).earlier ≤ number_on world seat + more
  placed_at at place more true is h =
      let e : at ≡ seat = eqb-true at seat is in
      subst (λ n. length place.earlier ≤ length (world.places n).earlier + more) e h
  placed_at at place more false is h = omega arith

  placed : (at : ℕ) (place : Place) (more : ℕ) → length place.earlier ≤ length (world.places at).earlier + more
      → AtMost more (with_place world at place)
  placed at place more h = placed_at at place more (at == seat) refl h

  kept : (at : ℕ) (session : Session) → AtMost 0 (with_session world at session)
  kept at session = placed at (record { present = Some session; earlier = (world.places at).earlier }) 0 (omega arith)

  after-opening : (registry : Registry) (at : ℕ) (name : List ℕ) → AtMost 0 (opening registry world at name)
  unfolding opening
  after-opening registry at name =
      cond_both (nat_lt at SEATS && is_none (world.places at).present)
      (option_map_or (λ account. with_session world at (new_session account)) (session_account registry name) world)
      world (AtMost 0)
      (λ _. either (AtMost 0) (λ account. with_session world at (new_session account)) world
      (session_account registry name) same (λ account. kept at (new_session account)))
      (λ _. same)

  pub after-asking : (registry : Registry) (at : ℕ) (line : LineForm) → AtMost 0 (asking registry world at line)
  unfolding asking
  after-asking registry at line =
      either (AtMost 0) _ world (world.places at).present same
      (λ session. cond_both (may_ask registry session) _ world (AtMost 0)
      (λ _. cond_both (accepts_go registry session line) (with_session world at (waiting session line false))
      (answering world at session line) (AtMost 0)
      (λ _. kept at (waiting session line false)) (λ _. kept at (answered session line)))
      (λ _. same))

  after-publishing : (registry : Registry) (at : ℕ) → AtMost 0 (publishing registry world at)
  unfolding publishing
  after-publishing registry at =
      either (AtMost 0) _ world (world.places at).present same
      (λ session. either (AtMost 0) _ world session.go same
      (λ pending. cond_both pending.published world (publishing_of registry world at session pending) (AtMost 0)
      (λ _. same) (λ _. kept at (waiting session pending.line true))))

  after-finishing : (at : ℕ) → AtMost 0 (finishing world at)
  unfolding finishing
  after-finishing at =
      either (AtMost 0) _ world (world.places at).present same
      (λ session. either (AtMost 0) _ world session.go same
      (λ pending. cond_both pending.published (answering world at session pending.line) world (AtMost 0)
      (λ _. kept at (answered session pending.line)) (λ _. same)))

  pub after-withdrawing : (registry : Registry) (at : ℕ) → AtMost 0 (withdrawing registry world at)
  unfolding withdrawing
  after-withdrawing registry at =
      cond_both (option_map_or (may_withdraw registry) (world.places at).present true) _ world (AtMost 0)
      (λ _. same) (λ _. same)

  passed_number : (firing : Firing) (named : Option ℕ) (place : Place)
      → length (passed firing named place).earlier ≤ length place.earlier + 0
  passed_number firing named place =
      either (λ after. length after.earlier ≤ length place.earlier + 0) _ place place.present (omega arith)
      (λ session. cond_both (option_map_or (λ life. life == length place.earlier) named false) place _
      (λ after. length after.earlier ≤ length place.earlier + 0) (λ _. omega arith) (λ _. omega arith))

  after-looking : (registry : Registry) (cpu : ℕ) (firing : Firing) → AtMost 0 (looking registry world cpu firing)
  unfolding looking
  after-looking registry cpu firing =
      cond_both (nat_lt cpu registry.cpus && (firing.cpu == cpu && is_done (world.due cpu)))
      (looking_at world cpu firing (mask_of registry world.writes firing)) world (AtMost 0)
      (λ _. passed_number firing (mask_of registry world.writes firing seat) (world.places seat))
      (λ _. same)

  offered_number : (due : DueOffer) (place : Place) → length (offered due place).earlier ≤ length place.earlier + 0
  offered_number due place =
      either (λ after. length after.earlier ≤ length place.earlier + 0) _ place place.present (omega arith)
      (λ session. cond_both (due.life == length place.earlier) _ place
      (λ after. length after.earlier ≤ length place.earlier + 0) (λ _. omega arith) (λ _. omega arith))

  after-offering : (cpu at : ℕ) → AtMost 0 (offering world cpu at)
  unfolding offering
  after-offering cpu at =
      either (AtMost 0) (λ due. offering_of world cpu at due) world (world.due cpu at) same
      (λ due. placed at (offered due (world.places at)) 0 (offered_number due (world.places at)))

  after-closing : (at : ℕ) → AtMost 1 (closing world at)
  unfolding closing
  after-closing at =
      either (AtMost 1) _ world (world.places at).present (omega arith)
      (λ session. placed at (record { present = None; earlier = session ∷ (world.places at).earlier }) 1 (omega arith))

  after-step : (registry : Registry) (step : StepForm) → AtMost (adds step) (after_step registry world step)
  after-step registry (opens at name) = after-opening registry at name
  after-step registry (asks at line) = after-asking registry at line
  after-step registry (publishes at) = after-publishing registry at
  after-step registry (finishes at) = after-finishing at
  after-step registry (withdraws at) = after-withdrawing registry at
  after-step registry (looks cpu firing) = after-looking registry cpu firing
  after-step registry (offers cpu at) = after-offering cpu at
  after-step registry (closes at) = after-closing at

after-steps : (registry : Registry) (seat : ℕ) (world : World) (steps : List StepForm)
    → number_on (fold (after_step registry) world steps) seat ≤ number_on world seat + all_add steps
after-steps registry seat world [] = omega arith
after-steps registry seat world (step ∷ steps) =
    let one = after-step world seat registry step in
    let more = after-steps registry seat (after_step registry world step) steps in
    omega (arith, one, more)

offers_add : (cpu : ℕ) (seats : List ℕ) → all_add (map (offers cpu) seats) ≡ 0
offers_add cpu [] = refl
offers_add cpu (seat ∷ seats) = let more = offers_add cpu seats in omega (arith, more)

module _ (contents : Contents) where
  line_adds : (now : Replayed) (form : StepLineForm) → all_add (steps_of_line contents now form) ≤ 1
  line_adds now (open_line seat account) = omega arith
  line_adds now (close_line seat) = omega arith
  line_adds now (withdraw_line seat) = omega arith
  line_adds now (ask_line seat line) = omega arith
  line_adds now (publish_line seat) = omega arith
  line_adds now (finish_line seat) = omega arith
  line_adds now (look_line cpu) =
      either (λ steps. all_add steps ≤ 1) (λ firing. looks cpu firing ∷ []) [] (next_of contents now cpu) (omega arith)
      (λ firing. omega arith)
  line_adds now (offer_line cpu seat) = omega arith
  line_adds now (call_line seat line) =
      let world = asking contents.registry now.world seat (line_form line) in
      cond_both (waits (world.places seat)) (publishes seat ∷ finishes seat ∷ [])
      (cond (has_closed contents.registry (world.places seat)) (withdraws seat ∷ closes seat ∷ []) [])
      (λ steps. all_add (asks seat (line_form line) ∷ steps) ≤ 1)
      (λ _. omega arith)
      (λ _. cond_both (has_closed contents.registry (world.places seat)) (withdraws seat ∷ closes seat ∷ []) []
      (λ steps. all_add (asks seat (line_form line) ∷ steps) ≤ 1) (λ _. omega arith) (λ _. omega arith))
  line_adds now (fire_line cpu) =
      either (λ steps. all_add steps ≤ 1) (firing_steps contents.registry now.world cpu) [] (next_of contents now cpu)
      (omega arith)
      (λ firing. let none = offers_add cpu (seats_due (looking contents.registry now.world cpu firing) cpu) in
      omega (arith, none))

  from : (seat : ℕ) (now : Replayed) (forms : List StepLineForm)
      → number_on (fold (after_step_line contents) now forms).world seat ≤ number_on now.world seat + length forms
  from seat now [] = omega arith
  from seat now (form ∷ forms) =
      let one = after-steps contents.registry seat now.world (steps_of_line contents now form) in
      let adds_one = line_adds now form in
      let more = from seat (after_step_line contents now form) forms in
      omega (arith, one, adds_one, more)

  -- no more sessions were closed on a seat than there were lines
  pub few_closed : (seat : ℕ) (forms : List StepLineForm)
      → number_on (replayed contents forms).world seat ≤ length forms
  few_closed seat forms = let all = from seat beginning forms in omega (arith, all)
