-- One statement more.
use Rattle.std.proofs.Common.{◌≡◌, ℤ, ◌+◌, ◌∷◌, [], ◌++◌, drop, length, map, take, sym, ap, ◌∙◌, arith}
use Rattle.std.specs.Global.{Vec}
use Rattle.std.proofs.lemmas.Int.{ints}
use Rattle.std.proofs.lemmas.List.{append-nil, length_push, map-append}
use Rattle.dt_ecb.specs.Forms.{shapes_of}
use Rattle.dt_lang.specs.Program.{form_of_statement}
use Rattle.dt_alone.specs.Happened.{given_as}
use Rattle.dt_alone.specs.declared.happened.Contribution.{Contribution}
use Rattle.dt_alone.proofs.Leaving.{given_none, given_one, other_use, span_same, span_step, split_same, split_step}
use Rattle.dt_life.specs.Aggregations.{aggregation_of}
use Rattle.dt_life.specs.Aggregations.{key_at, number_at, split_by, uses_by}
use Rattle.dt_alone.proofs.happened.Contribution.all.Goals as goal
use Rattle.dt_alone.proofs.happened.Contribution.all.Goals.{in-Aggregate, in-Some+in_ok-push, in_default-of, in_default}

pub loop-statement-preserved : goal.loop-statement-preserved
loop-statement-preserved c =
    let shapes = shapes_of c.args.shapes.now in
    let all = c.args.statements.now in
    let values = c.args.values.now in
    let i = c.loop-statement.statement-index in
    let s = c.statement-item.result in
    let inside = c.loop-statement-test.true in
    let at = c.statement-item.is in
    let place = c.loop-statement.place in
    let held = c.loop-statement.invariant in
    elim c.match-statement.branch [
      | in-Aggregate w ↦
          let a = w.in-Aggregate.aggregation in
          let name : aggregation_of shapes w.as_bytes.result.now ≡ aggregation_of shapes a.name =
          ap (aggregation_of (shapes_of c.args.shapes.now)) w.as_bytes.ensures.value in
          let long : w.len-keys.result ≡ length w.in-Aggregate.aggregation.keys.items =
          omega (arith, w.len-keys.ensures) in
          let step = split_step shapes all i s inside at values a w.in-Aggregate.is place held.place in
          let spans = span_step shapes all i s inside at values a w.in-Aggregate.is place held.place in
          let next : c.match-statement.place ≡ c.loop-statement.place +
          (length w.in-Aggregate.aggregation.keys.items + 1) =
          omega (arith, w.place-is, w.len-keys.ensures) in
          elim w.match-of.branch [
            | in-Some+in_ok-push w' ↦
                let made : ℤ → Contribution = λ n. record {
                  aggregation = w'.in-Some.named.aggregation;
                  key = record { parts = w'.parts_at.result };
                  number = n;
                } in
                let x = made w'.number_in.result in
                let grown = w'.in_ok-push.ensures.items
                ∙ ap (λ n. c.loop-statement.given.items ++ made n ∷ []) (omega (arith, ints)) in
                record {
                  given =
                      ap (λ (v : Vec Contribution). map given_as v.items) (w.given-is ∙ w'.given-is)
                      ∙ ap (map given_as) grown
                      ∙ map-append given_as c.loop-statement.given.items (x ∷ [])
                      ∙ ap (λ es. es ++ given_as x ∷ []) held.given
                      ∙ ap (λ es. split_by (uses_by (shapes_of c.args.shapes.now)
                      (map form_of_statement (take c.loop-statement.statement-index c.args.statements.now)))
                      c.args.values.now ++ es)
                      (sym (given_one w'.in-Some.named.aggregation _ (length a.keys.items) place values _ _
                      (sym name ∙ sym w'.in-Some.ensures.is)
                      (w'.parts_at.ensures
                      ∙ ap (λ n. key_at n (drop place values)) long)
                      (w'.number_in.ensures ∙ ap (λ n. number_at values (place + n)) long)))
                      ∙ sym step;
                  place = next ∙ spans;
                  near = omega (arith, next, held.near, a.few);
                  few = omega (
                    arith,
                    ap (λ (v : Vec Contribution). length v.items) (w.given-is ∙ w'.given-is),
                    ap length grown,
                    length_push c.loop-statement.given.items x,
                    held.few,
                  );
                }
            | in_default-of w' ↦ record {
              given =
                  ap (λ (v : Vec Contribution). map given_as v.items) (w.given-is ∙ w'.given-is)
                  ∙ held.given
                  ∙ sym (append-nil _)
                  ∙ ap (λ es. split_by (uses_by (shapes_of c.args.shapes.now)
                  (map form_of_statement (take c.loop-statement.statement-index c.args.statements.now)))
                  c.args.values.now ++ es)
                  (sym (given_none _ (length a.keys.items) (drop place values)
                  (sym name ∙ sym w'.in_default-of.ensures.is)))
                  ∙ sym step;
              place = next ∙ spans;
              near = omega (arith, next, held.near, a.few);
              few = omega (
                arith,
                ap (λ (v : Vec Contribution). length v.items) (w.given-is ∙ w'.given-is),
                held.few,
              );
            }
          ]
      | in_default w ↦
          let none = other_use shapes s w.in_default.not-Aggregate in
          record {
            given = ap (λ (v : Vec Contribution). map given_as v.items) w.given-is ∙ held.given
                ∙ sym (split_same shapes all i s inside at values none);
            place = w.place-is ∙ held.place ∙ sym (span_same shapes all i s inside at values none);
            near = omega (arith, w.place-is, held.near);
            few = omega (arith, ap (λ (v : Vec Contribution). length v.items) w.given-is, held.few);
          }
    ]
