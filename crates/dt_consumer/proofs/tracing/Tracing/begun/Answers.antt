-- BEGIN fired on processors on which nothing was taken.
use Rattle.std.proofs.Common.{◌≡◌, All, ◌+◌, ◌*◌, ◌<◌, ◌==◌, ℕ, IfSome, filter, slice_get, [], length, map, refl, sym, ap}
use Rattle.std.proofs.Common.{◌∙◌, subst, arith}
use Rattle.std.specs.Option.{option_copied}
use Rattle.dt_ecb.specs.Forms.{shapes_of}
use Rattle.dt_lang.specs.Program.{form_of_clause}
use Rattle.dt_cred.specs.declared.firing.Firing.{Firing}
use Rattle.dt_life.specs.Life.{shapes_in, since_then}
use Rattle.dt_life.specs.Options.{OptionsForm}
use Rattle.dt_consumer.specs.Counts.{COMES_MAX, GIVES_MAX}
use Rattle.dt_consumer.specs.Placing.{IsPlaced}
use Rattle.dt_consumer.specs.Recording.{outlines_of}
use Rattle.dt_consumer.specs.TracedEcbs.{traced_among}
use Rattle.dt_consumer.specs.Uses.{AreUses}
use Rattle.dt_consumer.proofs.Giving.{uses_long}
use Rattle.dt_life.specs.Takings.{began}
use Rattle.dt_machine.specs.Context.{ContextForm}
use Rattle.dt_life.specs.declared.limits.TheConstants.{BEGIN}
use Rattle.dt_consumer.proofs.Counted.{fails_more, none_more}
use Rattle.dt_consumer.proofs.Tallying.{at_most_more}
use Rattle.dt_life.specs.laws.Contexts.{own_is}
use Rattle.dt_consumer.proofs.Tracings.{ListOf, fired_at, list_at, lists_kept, lists_placed, placed_at, since_moved, two_there}
use Rattle.dt_consumer.proofs.tracing.Tracing.begun.Goals as goal

pub invariant_of-enabled : goal.invariant_of-enabled
invariant_of-enabled c = record {
  known = c.outlines.ensures ∙ ap outlines_of (sym c.clauses-clauses.ensures.value);
  each =
      ap length c.deref.ensures.value
      ∙ uses_long _ c.clauses-clauses.result.now c.in_ok-uses.uses.items c.in_ok-uses.ensures;
}

pub invariant_of-tracing : goal.invariant_of-tracing
invariant_of-tracing c = record {
  own_lists = omega (
    arith,
    c.in_ok-lists.ensures.len,
    ap length c.probes.ensures.value,
    two_there _ c.args.machine.now.registry.probes c.probes.ensures.sound.second,
  );
  placed = lists_placed c.in_ok-uses.uses.len c.ecbs.result.now c.in_ok-lists.lists.items
      (subst (λ n. All (IsPlaced n) c.ecbs.result.now)
      (omega (
        arith,
        uses_long _ c.clauses-clauses.result.now c.in_ok-uses.uses.items c.in_ok-uses.ensures,
        ap length c.clauses-clauses.ensures.value,
      ))
      c.ecbs.ensures.placed) c.in_ok-lists.ensures.lists;
  few = c.args.options.few;
  in_history = c.args.options.some;
  counted = at_most_more _ (COMES_MAX * (0 + 1)) c.take_each-exit.new.self.all.items (omega arith)
      (c.take_each-exit.ensures.counts 0 c.in_ok-processors.ensures.counts);
  failed = fails_more _ (COMES_MAX * (0 + 1)) c.take_each-exit.new.self (omega arith)
      (c.take_each-exit.ensures.fails 0 c.in_ok-processors.ensures.fails);
  given = none_more _ (GIVES_MAX * (0 + 1)) c.take_each-exit.new.self.stores.items (omega arith)
      (c.take_each-exit.ensures.gives 0 c.in_ok-processors.ensures.gives);
}

pub returns-clause-fired : goal.returns-clause-fired
returns-clause-fired c = λ s same own kept shaped room.
    let account = c.args.account.now in
    let registry = c.args.machine.now.registry in
    let fresh = since_then s [] in
    let m : ContextForm = record {
      probe = c.unwrap.result.now;
      process = c.own_process.result;
      firing = c.own_firing.result;
    } in
    let at = own_is account registry BEGIN c.unwrap.result.now c.own_process.result c.own_firing.result
    (sym (ap option_copied c.unwrap.ensures) ∙ c.probe.ensures.value) c.own_process.ensures c.own_firing.ensures in
    let lists = lists_kept account registry s c.args.programs.now.ecbs.items c.in_ok-lists.lists.items kept
    (subst (λ es. (probe : ℕ) → IfSome (slice_get c.in_ok-lists.lists.items probe)
    (λ list. list.ecbs.items ≡ filter (λ ecb. ecb.probe == probe) es)) c.ecbs.ensures.value c.in_ok-lists.ensures.lists) in
    let long : BEGIN < length c.in_ok-lists.lists.items = omega (arith, c.in_ok-lists.ensures.len) in
    let list = c.index.result.now in
    let named : BEGIN ≡ c.own_firing.result.probe = sym (ap (λ (f : Firing). f.probe) c.own_firing.ensures) in
    let its = subst (λ n. ListOf account registry fresh n list) named
    (list_at account registry fresh c.in_ok-lists.lists.items BEGIN list lists long c.index.ensures) in
    let own_clauses = ap (map form_of_clause) c.clauses-clauses.ensures.value ∙ own in
    let used : AreUses (shapes_in s) s.clauses c.in_ok-uses.uses.items =
    subst (λ shapes. AreUses shapes s.clauses c.in_ok-uses.uses.items) shaped
    (subst (λ cs. AreUses (shapes_of c.args.programs.now.shapes) cs c.in_ok-uses.uses.items)
    (ap (map form_of_clause) c.clauses-clauses.ensures.value ∙ own) c.in_ok-uses.ensures) in
    let fresh_ones = since_moved account registry s [] [] c.in_ok-processors.processors
    (c.in_ok-processors.ensures.after account registry s same room) in
    let fired = fired_at account registry fresh began m list c.take_each-exit.new.self c.take_each-exit.result tt at refl its
    (λ cpu. refl)
    (c.take_each-exit.ensures.after account registry fresh []
    (record { clauses = own_clauses; uses = subst (AreUses (shapes_in s) s.clauses) (sym c.deref.ensures.value) used }) fresh_ones (λ cpu. refl))
    (c.take_each-exit.ensures.exit account registry fresh []
    (record { clauses = own_clauses; uses = subst (AreUses (shapes_in s) s.clauses) (sym c.deref.ensures.value) used }) fresh_ones (λ cpu. refl)) in (
      record {
        lists = lists;
        traced = subst (λ cs. (probe : ℕ) → IfSome (slice_get c.in_ok-lists.lists.items probe)
            (λ list. list.traced ≡ traced_among cs list.ecbs.items)) own_clauses c.in_ok-lists.ensures.traced;
        all_lists = omega (arith, c.in_ok-lists.ensures.len, ap length c.probes.ensures.value);
        processors = fired.after;
        all_processors = omega (arith, c.take_each-exit.ensures.len, c.in_ok-processors.ensures.len, c.cpus.ensures.value);
        uses = used;
        history = ap (λ (o : OptionsForm). o.histsize) same;
        seen = refl;
        standing = refl;
        end_last = λ e. fired.still;
      },
      fired.exited,
    )

pub take_each-exit-requires-clause-placed : goal.take_each-exit-requires-clause-placed
take_each-exit-requires-clause-placed c =
    let clauses = c.clauses-clauses.result.now in
    placed_at (length clauses) c.in_ok-lists.lists.items BEGIN c.index.result.now
    (omega (
      arith,
      c.in_ok-lists.ensures.len,
      ap length c.probes.ensures.value,
      two_there _ c.args.machine.now.registry.probes c.probes.ensures.sound.second,
    ))
    c.index.ensures
    (lists_placed (length clauses) c.ecbs.result.now c.in_ok-lists.lists.items
    (subst (λ n. All (IsPlaced n) c.ecbs.result.now) (omega (arith, ap length c.clauses-clauses.ensures.value)) c.ecbs.ensures.placed)
    c.in_ok-lists.ensures.lists)
