-- What the proof of `arguments_of` is told at its goals.
use Rattle.std.proofs.Common.{◌∙◌, ℤ, pos, Option, Some, map, set, unwrap_or, ap, sym, arith, rules, w64}
use Rattle.std.specs.Prelude.{FitsSigned}
use Rattle.std.proofs.lemmas.Int.{to_z-of_z}
use Rattle.serde_json.specs.View.{view}
use Rattle.dt_machine.specs.Given.{signed}
use Rattle.dt_machine.proofs.Padding.{pad_step, some_step, none_there}
use Rattle.dt_machine.proofs.Searching.{row_at}
use Rattle.dt_machine.proofs.numbers.arguments_of.Goals as goal
use Rattle.dt_cred.specs.Limits.{argument_count}

pub returns-in_err-found : goal.returns-in_err-found
returns-in_err-found c =
    let rows = map signed (map view c.args.list.now) in
    let there = row_at signed c.args.list.now c.loop-i.i c.index-list-i.result c.loop-i-test.true c.index-list-i.is
    ∙ ap Some (sym c.as_i64.ensures ∙ c.in_err-found.was) in
    rw c.from_residual.ensures (λ right. none_there rows c.loop-i.i there right.each)

pub loop-i-preserved : goal.loop-i-preserved
loop-i-preserved c =
    let rows = map signed (map view c.args.list.now) in
    let i = c.loop-i.i in
    let x = c.in_ok-found.field-0 in
    let f : Option ℤ → ℤ = λ number. unwrap_or number (pos 0) in
    let fits : FitsSigned w64 x = search rules in
    let there = row_at signed c.args.list.now i c.index-list-i.result c.loop-i-test.true c.index-list-i.is
    ∙ ap Some (sym c.as_i64.ensures ∙ c.in_ok-found.was) in
    record {
      each = some_step rows i x there c.loop-i.invariant.each;
      found = ap (set c.loop-i.found i) (to_z-of_z w64 x fits)
          ∙ pad_step f rows i argument_count (Some x) (pos 0) c.loop-i.found there (omega arith) c.loop-i.invariant.found;
    }
