-- The phase and the counts are the life's.
use Rattle.std.proofs.Common.{◌<◌, None, filter, length, refl, ap, ◌∙◌, arith}
use Rattle.dt_life.specs.Answer as answers
use Rattle.dt_alone.specs.Happened.{is_draw_failed}
use Rattle.dt_alone.proofs.Recounting.{all_failed}
use Rattle.dt_life.specs.Life.{phase, set_up}
use Rattle.dt_life.specs.Reply.{all_aggdrops, all_dyndrops, all_errors, all_specdrops, seen_firings}
use Rattle.dt_alone.proofs.runner.Runner.status.Goals as goal

pub returns : goal.returns
returns c = λ account life h.
    let registry = c.args.machine.now.registry in
    let some : 0 < c.args.machine.now.registry.cpus = omega (arith, c.in_ok-counts.ensures.some) in
    let on = phase account registry life in
    let seen = seen_firings account registry life in
    let errors = c.in_ok-counts.field-0.items in
    let drops = c.in_ok-aggdrops.field-0.items in
    let dynamic = c.in_ok-counts-2.field-0.items in
    let speculative = c.in_ok-counts-3.field-0.items in
    let all_errors = all_errors account registry life in
    let all_drops = all_aggdrops account registry life in
    let all_dynamic = all_dyndrops account registry life in
    let fails = c.draws_failed.result in (
      None,
      refl,
      ap (λ n. answers.status c.args.self.now.phase n errors drops dynamic speculative fails) c.from.ensures
          ∙ ap (λ p. answers.status p c.args.self.now.seen errors drops dynamic speculative fails) h.within.standing
          ∙ ap (λ n. answers.status on n errors drops dynamic speculative fails) h.within.seen
          ∙ ap (λ es. answers.status on seen es drops dynamic speculative fails) (c.in_ok-counts.ensures.all account life h)
          ∙ ap (λ es. answers.status on seen all_errors es dynamic speculative fails) (c.in_ok-aggdrops.ensures account life h)
          ∙ ap (λ es. answers.status on seen all_errors all_drops es speculative fails) (c.in_ok-counts-2.ensures.all account life h)
          ∙ ap (λ es. answers.status on seen all_errors all_drops all_dynamic es fails) (c.in_ok-counts-3.ensures.all account life h)
          ∙ ap (answers.status on seen all_errors all_drops all_dynamic (all_specdrops account registry life))
          (c.draws_failed.ensures ∙ ap (λ hs. length (filter is_draw_failed hs)) c.deref.ensures.value
          ∙ all_failed account registry (set_up account registry life) _ c.args.self.now h.within some),
    )
