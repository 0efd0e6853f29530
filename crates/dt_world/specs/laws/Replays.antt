-- The sessions of a replay are orderly, so the trail of one is the trail of a view that the machine can bring.
use Rattle.std.proofs.Common.{◌≡◌, ◌≢◌, ℕ, ◌+◌, ◌==◌, ◌&&◌, Bool, true, false, cond, List, [], ◌∷◌, ◌++◌, codes, decimal, Option, Some, None}
use Rattle.std.proofs.Common.{filter, fold, is_some, length, map, nat_lt, refl, sym, ap, subst}
use Rattle.std.proofs.lemmas.Bool.{ltb-false}
use Rattle.std.proofs.Math.Seq.{drop-append_seam}
use Rattle.std.proofs.lemmas.List.Elements.{All-drop}
use Rattle.std.specs.List.{AllByRecursion}
use Rattle.std.specs.Option.{option_map_or}
use Rattle.dt_cred.specs.declared.firing.Firing.{Firing}
use Rattle.dt_machine.specs.Registry.{Registry, Contents, IsSound, IsInScript, firing_at}
use Rattle.dt_proto.specs.Brought.{IsInForm, IsOneLine}
use Rattle.dt_proto.specs.Limits.{line_max}
use Rattle.dt_proto.specs.Lines.{short_line, long_line, line_form}
use Rattle.dt_proto.specs.Splits.{HasNoNewline}
use Rattle.dt_proto.specs.laws.Splitting.{splits}
use Rattle.dt_steps.specs.Steps.{offers, looks, publishes, finishes, withdraws, closes, after_step, asking, looking, is_done}
use Rattle.dt_steps.specs.Steps.{publishing, withdrawing}
use Rattle.dt_steps.specs.World.{World, Session, Place, DueOffer, session_numbered, sessions_on, session_of, waits, has_closed}
use Rattle.dt_world.specs.Input.{AreStepLines, input_lines, is_written}
use Rattle.dt_world.specs.Orderly.{IsOrderly, IsOrderlySeat, IsOrderlyWorld}
use Rattle.dt_world.specs.Replay.{Replayed, beginning, seats_due, firing_steps, next_of, after_step_line, replayed}
use Rattle.dt_world.specs.StepLine.{StepLineForm, open_line, close_line, withdraw_line, ask_line, publish_line, finish_line}
use Rattle.dt_world.specs.StepLine.{look_line, offer_line, call_line, fire_line, step_line_text}
use Rattle.dt_world.specs.laws.Firings.{one_more, offering_orderly, looking_orderly}
use Rattle.dt_world.specs.laws.Orderly.{opening_orderly, asking_orderly, publishing_orderly, finishing_orderly}
use Rattle.dt_world.specs.laws.Orderly.{withdrawing_orderly, closing_orderly, opt_case}

-- the form of a line that stands in an input
pub in_form : (bytes : List ℕ) → IsInForm (line_form bytes)
in_form bytes = by_length (nat_lt line_max (length bytes)) refl where
  by_length : (b : Bool) → nat_lt line_max (length bytes) ≡ b → IsInForm (cond b long_line (short_line bytes))
  by_length true is = tt
  by_length false is = ltb-false line_max (length bytes) is

one_line : (bytes : List ℕ) → HasNoNewline bytes → IsOneLine (line_form bytes)
one_line bytes none = by_length (nat_lt line_max (length bytes)) where
  by_length : (b : Bool) → IsOneLine (cond b long_line (short_line bytes))
  by_length true = tt
  by_length false = none

-- the lines of an input have no newlines
asked_line : (word : List ℕ) (seat : ℕ) (line : List ℕ)
    → HasNoNewline (word ++ (decimal seat ++ (codes " " ++ line))) → HasNoNewline line
asked_line word seat line none = after (codes " ") line (after (decimal seat) (codes " " ++ line) (after word (decimal seat ++ (codes " " ++ line)) none))
  where
    after : (front back : List ℕ) → HasNoNewline (front ++ back) → HasNoNewline back
    after front back h = subst HasNoNewline (drop-append_seam front back) (All-drop (λ byte. byte ≢ 10) (length front) (front ++ back) h)

module _ (contents : Contents) (sound : IsSound contents) where
  abbrev registry : Registry
  registry = contents.registry

  -- where a replay stands, in order
  abbrev IsInOrder : Replayed → Type 0
  IsInOrder now = IsOrderlyWorld contents now.taken now.world

  -- the firing that a processor takes is its own, at the place that it comes to
  found : (now : Replayed) (cpu : ℕ) (firing : Firing) → next_of contents now cpu ≡ Some firing
      → firing_at contents.scripts cpu (now.taken cpu) ≡ Some firing
  found now cpu firing = by_done (is_done (now.world.due cpu)) where
    by_done : (b : Bool) → cond b (firing_at contents.scripts cpu (now.taken cpu)) None ≡ Some firing
        → firing_at contents.scripts cpu (now.taken cpu) ≡ Some firing
    by_done true e = e
    by_done false e = cc

  placed_firing : (cpu place : ℕ) (firing : Firing) → firing_at contents.scripts cpu place ≡ Some firing
      → IsInScript contents.registry cpu place firing
  placed_firing cpu place firing is = rw is at (sound.placed cpu place)

  looked : (now : Replayed) (cpu : ℕ) (firing : Firing) → next_of contents now cpu ≡ Some firing → IsInOrder now
      → IsOrderlyWorld contents (one_more now.taken cpu) (looking registry now.world cpu firing)
  looked now cpu firing is h =
      let there = found now cpu firing is in
      let at = placed_firing cpu (now.taken cpu) firing there in
      looking_orderly contents now.taken cpu firing at.processor at.row there registry now.world h

  -- what was taken after a line that takes a firing, and after one that takes none
  taken_some : (now : Replayed) (cpu : ℕ) (firing : Firing) (world : World) → next_of contents now cpu ≡ Some firing
      → IsOrderlyWorld contents (one_more now.taken cpu) world
      → IsOrderlyWorld contents (λ other. cond (is_some (next_of contents now cpu) && other == cpu)
      (now.taken other + 1) (now.taken other)) world
  taken_some now cpu firing world is h =
      subst (λ o. IsOrderlyWorld contents (λ other. cond (is_some o && other == cpu)
      (now.taken other + 1) (now.taken other)) world) (sym is) h

  taken_none : (now : Replayed) (cpu : ℕ) (world : World) → next_of contents now cpu ≡ None
      → IsOrderlyWorld contents now.taken world
      → IsOrderlyWorld contents (λ other. cond (is_some (next_of contents now cpu) && other == cpu)
      (now.taken other + 1) (now.taken other)) world
  taken_none now cpu world is h =
      subst (λ o. IsOrderlyWorld contents (λ other. cond (is_some o && other == cpu)
      (now.taken other + 1) (now.taken other)) world) (sym is) h

  offered_all : (taken : ℕ → ℕ) (cpu : ℕ) (seats : List ℕ) (world : World) → IsOrderlyWorld contents taken world
      → IsOrderlyWorld contents taken (fold (after_step registry) world (map (offers cpu) seats))
  offered_all taken cpu [] world h = h
  offered_all taken cpu (seat ∷ seats) world h =
      offered_all taken cpu seats _ (offering_orderly contents taken world h cpu seat)

  -- a line more
  after_look : (now : Replayed) (cpu : ℕ) → IsInOrder now → IsInOrder (after_step_line contents now (look_line cpu))
  after_look now cpu h = by_next (next_of contents now cpu) refl where
    by_next : (next : Option Firing) → next_of contents now cpu ≡ next
        → IsInOrder (after_step_line contents now (look_line cpu))
    by_next None is =
        subst (λ o. IsOrderlyWorld contents (λ other. cond (is_some o && other == cpu) (now.taken other + 1)
        (now.taken other)) (fold (after_step registry) now.world (option_map_or (λ firing. looks cpu firing ∷ []) o [])))
        (sym is) h
    by_next (Some firing) is =
        subst (λ o. IsOrderlyWorld contents (λ other. cond (is_some o && other == cpu) (now.taken other + 1)
        (now.taken other)) (fold (after_step registry) now.world (option_map_or (λ firing. looks cpu firing ∷ []) o [])))
        (sym is) (looked now cpu firing is h)

  after_fire : (now : Replayed) (cpu : ℕ) → IsInOrder now → IsInOrder (after_step_line contents now (fire_line cpu))
  after_fire now cpu h = by_next (next_of contents now cpu) refl where
    by_next : (next : Option Firing) → next_of contents now cpu ≡ next
        → IsInOrder (after_step_line contents now (fire_line cpu))
    by_next None is =
        subst (λ o. IsOrderlyWorld contents (λ other. cond (is_some o && other == cpu) (now.taken other + 1)
        (now.taken other)) (fold (after_step registry) now.world
        (option_map_or (firing_steps registry now.world cpu) o []))) (sym is) h
    by_next (Some firing) is =
        subst (λ o. IsOrderlyWorld contents (λ other. cond (is_some o && other == cpu) (now.taken other + 1)
        (now.taken other)) (fold (after_step registry) now.world
        (option_map_or (firing_steps registry now.world cpu) o []))) (sym is)
        (offered_all (one_more now.taken cpu) cpu (seats_due (looking registry now.world cpu firing) cpu)
        (looking registry now.world cpu firing) (looked now cpu firing is h))

  after_call : (now : Replayed) (seat : ℕ) (line : List ℕ) → HasNoNewline line → IsInOrder now
      → IsInOrder (after_step_line contents now (call_line seat line))
  after_call now seat line none h =
      let asked = asking registry now.world seat (line_form line) in
      let fair = asking_orderly contents now.taken registry now.world h seat (line_form line) (in_form line) (one_line line none) in
      called asked fair (waits (asked.places seat)) (has_closed registry (asked.places seat))
    where
      called : (asked : World) → IsOrderlyWorld contents now.taken asked → (waiting closed : Bool)
          → IsOrderlyWorld contents now.taken (fold (after_step registry) asked
          (cond waiting (publishes seat ∷ finishes seat ∷ []) (cond closed (withdraws seat ∷ closes seat ∷ []) [])))
      called asked fair true closed =
          finishing_orderly contents now.taken registry (publishing registry asked seat)
          (publishing_orderly contents now.taken registry asked fair seat) seat
      called asked fair false true =
          closing_orderly contents now.taken registry (withdrawing registry asked seat)
          (withdrawing_orderly contents now.taken registry asked fair seat) seat
      called asked fair false false = fair

  after_one : (now : Replayed) (line : StepLineForm) → HasNoNewline (step_line_text line) → IsInOrder now
      → IsInOrder (after_step_line contents now line)
  after_one now (open_line seat name) none h = opening_orderly contents now.taken registry now.world h seat name
  after_one now (close_line seat) none h = closing_orderly contents now.taken registry now.world h seat
  after_one now (withdraw_line seat) none h = withdrawing_orderly contents now.taken registry now.world h seat
  after_one now (ask_line seat line) none h =
      asking_orderly contents now.taken registry now.world h seat (line_form line) (in_form line)
      (one_line line (asked_line (codes "ask ") seat line none))
  after_one now (publish_line seat) none h = publishing_orderly contents now.taken registry now.world h seat
  after_one now (finish_line seat) none h = finishing_orderly contents now.taken registry now.world h seat
  after_one now (look_line cpu) none h = after_look now cpu h
  after_one now (offer_line cpu seat) none h = offering_orderly contents now.taken now.world h cpu seat
  after_one now (call_line seat line) none h = after_call now seat line (asked_line (codes "call ") seat line none) h
  after_one now (fire_line cpu) none h = after_fire now cpu h

  after_all : (forms : List StepLineForm) (now : Replayed)
      → AllByRecursion (λ form. HasNoNewline (step_line_text form)) forms → IsInOrder now
      → IsInOrder (fold (after_step_line contents) now forms)
  after_all [] now none h = h
  after_all (form ∷ forms) now none h = after_all forms (after_step_line contents now form) none.1 (after_one now form none.0 h)

  nothing_yet : IsInOrder beginning
  nothing_yet seat = record {
    present = λ session no. cc;
    earlier = tt;
    offers = λ cpu one no. cc;
  }

  -- each line that is written has no newline
  kept_lines : (lines : List (List ℕ)) → AllByRecursion HasNoNewline lines
      → AllByRecursion HasNoNewline (filter is_written lines)
  kept_lines [] h = tt
  kept_lines (line ∷ lines) h = either (is_written line) (kept_lines lines h.1) where
    either : (b : Bool) → AllByRecursion HasNoNewline (filter is_written lines)
        → AllByRecursion HasNoNewline (cond b (line ∷ filter is_written lines) (filter is_written lines))
    either true more = (h.0, more)
    either false more = more

  of_map : (forms : List StepLineForm) → AllByRecursion HasNoNewline (map step_line_text forms)
      → AllByRecursion (λ form. HasNoNewline (step_line_text form)) forms
  of_map [] h = tt
  of_map (form ∷ forms) h = (h.0, of_map forms h.1)

  pub replay_orderly : (text : List ℕ) (forms : List StepLineForm) → AreStepLines registry (input_lines text) forms
      → IsInOrder (replayed contents forms)
  replay_orderly text forms lines =
      after_all forms beginning
      (of_map forms (subst (AllByRecursion HasNoNewline) lines.spelled
      (kept_lines (input_lines text) (splits text).each))) nothing_yet

  numbered : (taken : ℕ → ℕ) (sessions : List Session) (n : ℕ) (session : Session)
      → AllByRecursion (IsOrderly contents taken) sessions → session_numbered sessions n ≡ Some session
      → IsOrderly contents taken session
  numbered taken [] n session h = λ e. cc
  numbered taken (one ∷ earlier) n session h = by_number (length earlier == n) (numbered taken earlier n session h.1)
    where
      by_number : (b : Bool) → (session_numbered earlier n ≡ Some session → IsOrderly contents taken session)
          → cond b (Some one) (session_numbered earlier n) ≡ Some session → IsOrderly contents taken session
      by_number true later e = subst (IsOrderly contents taken) (ap (λ o. option_map_or (λ s. s) o one) e) h.0
      by_number false later e = later e

  all_on : (taken : ℕ → ℕ) (due : ℕ → Option DueOffer) (place : Place) → IsOrderlySeat contents taken due place
      → AllByRecursion (IsOrderly contents taken) (sessions_on place)
  all_on taken due place h = opt_case (AllByRecursion (IsOrderly contents taken)) (λ session. session ∷ place.earlier)
      place.present place.earlier h.earlier (λ session is. (h.present session is, h.earlier))

  -- Each session of a replay is orderly.
  pub session_orderly : (text : List ℕ) (forms : List StepLineForm) → AreStepLines registry (input_lines text) forms
      → (seat n : ℕ) (session : Session) → session_of (replayed contents forms).world seat n ≡ Some session
      → IsOrderly contents (replayed contents forms).taken session
  session_orderly text forms lines seat n session is =
      let now = replayed contents forms in
      numbered now.taken (sessions_on (now.world.places seat)) n session
      (all_on now.taken (λ cpu. now.world.due cpu seat) (now.world.places seat) (replay_orderly text forms lines seat)) is
