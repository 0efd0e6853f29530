-- One ECB more was taken, and then all.
use Rattle.std.proofs.Common.{◌+◌, ◌-◌, ◌*◌, ◌<◌, ◌≤◌, ◌++◌, ◌∷◌, [], length, map, take, refl, sym, ap, ◌∙◌}
use Rattle.std.proofs.Common.{subst, arith}
use Rattle.std.specs.Option.{is_some}
use Rattle.std.proofs.lemmas.Bool.{true≢false}
use Rattle.std.proofs.lemmas.List.{take_all}
use Rattle.dt_alone.specs.Happened.{Brings}
use Rattle.dt_alone.specs.Kept.{IsKeptAt}
use Rattle.dt_alone.proofs.Firing.{exit_is, exit_there, steps_step, taken_all, taken_through}
use Rattle.dt_ecb.specs.Forms.{shapes_of}
use Rattle.dt_ecb.specs.declared.limits.TheConstants.{ECBS_MAX}
use Rattle.dt_lang.specs.Program.{form_of_clause}
use Rattle.dt_locals.specs.declared.limits.TheConstants.{LOCAL_DROPS_LIMIT}
use Rattle.dt_machine.specs.Context.{form_of_context}
use Rattle.dt_program.specs.declared.clause.TheConstants.{STATEMENTS_MAX}
use Rattle.dt_life.specs.Takings.{first_exit}
use Rattle.dt_life.specs.TracingSteps.{steps_and, takes}
use Rattle.dt_life.specs.laws.Rows.{of_row, stays_more, taken_there}
use Rattle.dt_life.specs.laws.TracingSteps.{steps_none}
use Rattle.dt_alone.proofs.programs.Programs.take.Goals as goal
use Rattle.dt_alone.proofs.programs.Programs.take.Goals.{else-is_some-via-then-is_some+else-not-in_end, else-is_some-via-else-is_some}

pub loop-ecb-init : goal.loop-ecb-init
loop-ecb-init c = record {
  kept = λ options steps kept brings. (
    subst (λ xs. IsKeptAt options xs c.args.kept.now) (sym (steps_none steps)) kept,
    subst (Brings c.args.kept.now.cpus (shapes_of c.args.self.now.shapes) options c.args.happened.now.items) (sym (steps_none steps))
        brings,
  );
  stays = λ ordinary options steps kept brings. refl;
  few = omega arith;
  counts = λ n h. (omega (arith, h.0), omega (arith, h.1));
  cpus = refl;
}

pub take_one-requires-clause-counts : goal.take_one-requires-clause-counts
take_one-requires-clause-counts c =
    let at = c.loop-ecb.invariant.counts (LOCAL_DROPS_LIMIT - ECBS_MAX * STATEMENTS_MAX) c.requires.counts in
    let inside : c.loop-ecb.ecb-index < ECBS_MAX =
    omega (arith, c.loop-ecb-test.true, ap length c.deref-ecb-items.ensures.value, c.in_ok-row.ensures.few) in
    (omega (arith, at.0, inside), omega (arith, at.1, inside))

pub loop-ecb-preserved : goal.loop-ecb-preserved
loop-ecb-preserved c =
    let in_end = c.args.in_end in
    let m = form_of_context c.args.context.now in
    let cs = map form_of_clause c.args.self.now.clauses.items in
    let shapes = shapes_of c.args.self.now.shapes in
    let row = c.deref-ecb-items.result.now in
    let i = c.loop-ecb.ecb-index in
    let ecb = c.ecb-item.result in
    let held = c.loop-ecb.invariant in
    record {
      kept = λ options steps kept brings.
          let done = steps_and steps (of_row options in_end m cs steps (take i row)) in
          let at = held.kept options steps kept brings in
          let next = steps_step options in_end m cs steps row i ecb c.loop-ecb-test.true c.ecb-item.is in
          let took = c.in_ok-exit.ensures.taken options done at.0
          (subst (λ n. Brings n shapes options c.loop-ecb.happened.items done) (sym held.cpus) at.1) in (
            subst (λ xs. IsKeptAt options xs c.take_one.new.kept) next took.0,
            subst (Brings c.args.kept.now.cpus shapes options c.take_one.new.happened.items) next
                (subst (λ n. Brings n shapes options c.take_one.new.happened.items
                (done ++ takes (taken_there options in_end m cs steps row i ecb c.loop-ecb-test.true c.ecb-item.is) ∷ [])) held.cpus took.1),
          );
      stays = λ ordinary options steps kept brings.
          let done = steps_and steps (of_row options in_end m cs steps (take i row)) in
          let at = held.kept options steps kept brings in
          elim c.else-is_some.branch [
            | else-is_some-via-then-is_some+else-not-in_end w ↦
                absurd (true≢false (sym w.if-not-in_end.false ∙ ordinary))
            | else-is_some-via-else-is_some w ↦
                stays_more options in_end m cs steps row i ecb c.loop-ecb-test.true c.ecb-item.is
                (held.stays ordinary options steps kept brings)
                (sym (ap is_some (c.in_ok-exit.ensures.exit options done at.0)) ∙ sym c.is_some.ensures ∙ w.if-is_some.false)
          ];
      few = omega (arith, c.in_ok-exit.ensures.few, held.few);
      counts = λ n h.
          let at = c.in_ok-exit.ensures.counts (n + c.loop-ecb.ecb-index * STATEMENTS_MAX) (held.counts n h) in
          (omega (arith, at.0), omega (arith, at.1));
      cpus = c.in_ok-exit.ensures.cpus ∙ held.cpus;
    }

pub returns-in_err-exit-clause-counts : goal.returns-in_err-exit-clause-counts
returns-in_err-exit-clause-counts c = λ n h.
    let at = c.in_err-exit.ensures.counts (n + c.loop-ecb.ecb-index * STATEMENTS_MAX) (c.loop-ecb.invariant.counts n h) in
    let inside : c.loop-ecb.ecb-index < ECBS_MAX =
    omega (arith, c.loop-ecb-test.true, ap length c.deref-ecb-items.ensures.value, c.in_ok-row.ensures.few) in
    (omega (arith, at.0, inside), omega (arith, at.1, inside))

pub returns-then-not-in_end-clause-counts : goal.returns-then-not-in_end-clause-counts
returns-then-not-in_end-clause-counts c = λ n h.
    let at = c.in_ok-exit.ensures.counts (n + c.loop-ecb.ecb-index * STATEMENTS_MAX) (c.loop-ecb.invariant.counts n h) in
    let inside : c.loop-ecb.ecb-index < ECBS_MAX =
    omega (arith, c.loop-ecb-test.true, ap length c.deref-ecb-items.ensures.value, c.in_ok-row.ensures.few) in
    (omega (arith, at.0, inside), omega (arith, at.1, inside))

pub returns-then-not-in_end-clause-taken : goal.returns-then-not-in_end-clause-taken
returns-then-not-in_end-clause-taken c = λ options steps kept brings.
    let in_end = c.args.in_end in
    let m = form_of_context c.args.context.now in
    let cs = map form_of_clause c.args.self.now.clauses.items in
    let shapes = shapes_of c.args.self.now.shapes in
    let row = c.deref-ecb-items.result.now in
    let i = c.loop-ecb.ecb-index in
    let ecb = c.ecb-item.result in
    let held = c.loop-ecb.invariant in
    let ordinary = c.if-not-in_end.true in
    let done = steps_and steps (of_row options in_end m cs steps (take i row)) in
    let at = held.kept options steps kept brings in
    let exits = sym (ap is_some (c.in_ok-exit.ensures.exit options done at.0)) ∙ sym c.is_some.ensures ∙ c.if-is_some.true in
    let next = steps_step options in_end m cs steps row i ecb c.loop-ecb-test.true c.ecb-item.is
    ∙ ap (steps_and steps) (sym (taken_through options in_end m cs steps c.args.self.now.ecbs.items row
    (c.deref-ecb-items.ensures.value ∙ c.in_ok-row.ensures.all) ordinary i ecb c.loop-ecb-test.true c.ecb-item.is
    (held.stays ordinary options steps kept brings) exits)) in
    let took = c.in_ok-exit.ensures.taken options done at.0
    (subst (λ n. Brings n shapes options c.loop-ecb.happened.items done) (sym held.cpus) at.1) in (
      subst (λ xs. IsKeptAt options xs c.take_one.new.kept) next took.0,
      subst (Brings c.args.kept.now.cpus shapes options c.take_one.new.happened.items) next
          (subst (λ n. Brings n shapes options c.take_one.new.happened.items
          (done ++ takes (taken_there options in_end m cs steps row i ecb c.loop-ecb-test.true c.ecb-item.is) ∷ [])) held.cpus took.1),
    )

pub returns-then-not-in_end-clause-exit : goal.returns-then-not-in_end-clause-exit
returns-then-not-in_end-clause-exit c = λ ordinary options steps kept brings.
    let in_end = c.args.in_end in
    let m = form_of_context c.args.context.now in
    let cs = map form_of_clause c.args.self.now.clauses.items in
    let row = c.deref-ecb-items.result.now in
    let i = c.loop-ecb.ecb-index in
    let ecb = c.ecb-item.result in
    let held = c.loop-ecb.invariant in
    let done = steps_and steps (of_row options in_end m cs steps (take i row)) in
    let at = held.kept options steps kept brings in
    let exit = c.in_ok-exit.ensures.exit options done at.0 in
    exit
    ∙ exit_there options in_end m cs steps c.args.self.now.ecbs.items row
    (c.deref-ecb-items.ensures.value ∙ c.in_ok-row.ensures.all) ordinary i ecb c.loop-ecb-test.true c.ecb-item.is
    (held.stays ordinary options steps kept brings) (sym (ap is_some exit) ∙ sym c.is_some.ensures ∙ c.if-is_some.true)

pub returns-clause-taken : goal.returns-clause-taken
returns-clause-taken c = λ options steps kept brings.
    let in_end = c.args.in_end in
    let m = form_of_context c.args.context.now in
    let cs = map form_of_clause c.args.self.now.clauses.items in
    let shapes = shapes_of c.args.self.now.shapes in
    let row = c.deref-ecb-items.result.now in
    let held = c.loop-ecb.invariant in
    let all = take_all c.loop-ecb.ecb-index row c.loop-ecb-test.false in
    let at = held.kept options steps kept brings in
    let whole = ap (λ es. steps_and steps (of_row options c.args.in_end m cs steps es)) all
    ∙ ap (steps_and steps) (sym (taken_all options in_end m cs steps c.args.self.now.ecbs.items row
    (c.deref-ecb-items.ensures.value ∙ c.in_ok-row.ensures.all)
    (λ ordinary. ap (λ es. first_exit (of_row options c.args.in_end m cs steps es)) (sym all)
    ∙ held.stays ordinary options steps kept brings))) in (
      subst (λ xs. IsKeptAt options xs c.loop-ecb.kept) whole at.0,
      subst (Brings c.args.kept.now.cpus shapes options c.loop-ecb.happened.items) whole at.1,
    )

pub returns-clause-exit : goal.returns-clause-exit
returns-clause-exit c = λ ordinary options steps kept brings.
    let in_end = c.args.in_end in
    let m = form_of_context c.args.context.now in
    let cs = map form_of_clause c.args.self.now.clauses.items in
    let row = c.deref-ecb-items.result.now in
    let held = c.loop-ecb.invariant in
    let all = take_all c.loop-ecb.ecb-index row c.loop-ecb-test.false in
    sym (exit_is options in_end m cs steps c.args.self.now.ecbs.items row
    (c.deref-ecb-items.ensures.value ∙ c.in_ok-row.ensures.all) ordinary
    ∙ ap (λ es. first_exit (of_row options c.args.in_end m cs steps es)) (sym all)
    ∙ held.stays ordinary options steps kept brings)

pub returns-clause-counts : goal.returns-clause-counts
returns-clause-counts c = λ n h.
    let at = c.loop-ecb.invariant.counts n h in
    let inside : c.loop-ecb.ecb-index ≤ ECBS_MAX =
    omega (arith, c.loop-ecb.auto.ecb-index-end, ap length c.deref-ecb-items.ensures.value, c.in_ok-row.ensures.few) in
    (omega (arith, at.0, inside), omega (arith, at.1, inside))
