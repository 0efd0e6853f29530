-- What the proof of `ProbeTuple::parse` is told at its goals.
use Rattle.std.proofs.Common.{refl, sym, ◌∙◌}
use Rattle.dt_names.proofs.Aligning.{four_fields, colons_of}
use Rattle.dt_names.proofs.Tuples.{empty-from_test, some-from_test, tuple_fields, spells}
use Rattle.dt_names.proofs.tuple.ProbeTuple.parse.Goals as goal
use Rattle.dt_names.proofs.tuple.ProbeTuple.parse.Goals.{then-count_of_colons-ne3-via-then-count_of_colons-ne3}
use Rattle.dt_names.proofs.tuple.ProbeTuple.parse.Goals.{then-count_of_colons-ne3-via-else-count_of_colons-ne3+then-is_empty}
use Rattle.dt_names.proofs.tuple.ProbeTuple.parse.Goals.{then-count_of_colons-ne3-via-else-count_of_colons-ne3+else-is_empty+then-is_empty-2}

pub returns-clause-found : goal.returns-clause-found
returns-clause-found c =
    spells c.args.text.now _ _ _ _ _
    (four_fields c.args.text.now _ (sym c.count_of_colons.ensures ∙ c.if-count_of_colons-ne3.false)
    c.aligned-fields.ensures)
    c.in_ok-new.ensures.value c.in_ok-new-2.ensures.value c.in_ok-new-3.ensures.value c.in_ok-new-4.ensures.value
    (c.in_ok-new.ensures.valid.0 refl) (c.in_ok-new-2.ensures.valid.0 refl) (c.in_ok-new-3.ensures.valid.0 refl)
    (c.in_ok-new-4.ensures.valid.0 refl)
    (some-from_test _ _ c.is_empty.ensures c.if-is_empty.false)
    (some-from_test _ _ c.is_empty-else-is_empty.ensures c.if-is_empty-2.false)

pub returns-then-count_of_colons-ne3-clause-none : goal.returns-then-count_of_colons-ne3-clause-none
returns-then-count_of_colons-ne3-clause-none c = λ tuple s.
    let parts = tuple_fields c.args.text.now _ _ _ _ tuple s c.aligned-fields.ensures in
    elim c.then-count_of_colons-ne3.branch [
      | then-count_of_colons-ne3-via-then-count_of_colons-ne3 w ↦
          w.if-count_of_colons-ne3.true (c.count_of_colons.ensures ∙ colons_of c.args.text.now _ _ _ _ s.spelled)
      | then-count_of_colons-ne3-via-else-count_of_colons-ne3+then-is_empty w ↦
          s.some_provider (sym parts.0 ∙ empty-from_test _ _ w.is_empty.ensures w.if-is_empty.true)
      | then-count_of_colons-ne3-via-else-count_of_colons-ne3+else-is_empty+then-is_empty-2 w ↦
          s.some_name (sym parts.1 ∙ empty-from_test _ _ w.is_empty-else-is_empty.ensures w.if-is_empty-2.true)
    ]
