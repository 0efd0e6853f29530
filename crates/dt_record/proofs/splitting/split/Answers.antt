-- What the proof of `split` is told at its goals.
use Rattle.std.proofs.Common.{◌≡◌, ℕ, ◌++◌, List, Option, Bor, MatchOption, map, sym, subst, ◌∙◌, arith}
use Rattle.dt_record.specs.Fields.{form_of_layout}
use Rattle.dt_record.specs.Records.{form_of_record}
use Rattle.dt_record.specs.Split.{RecordForm, IsRecordOf, record_bytes}
use Rattle.dt_record.specs.declared.recorded.Record.{Record}
use Rattle.dt_record.proofs.Unique.{left_of, stuck}
use Rattle.dt_record.proofs.splitting.split.Goals as goal

-- what is left begins with no record, so the bytes are no records
pub returns-in-None : goal.returns-in-None
returns-in-None c = λ records is.
    let layouts = map form_of_layout c.args.layouts.now in
    let done = map form_of_record c.loop-rest.records.items in
    let rest = c.loop-rest.rest.now in
    let left = left_of layouts done records rest c.loop-rest.invariant.each is.each
    (c.loop-rest.invariant.same ∙ sym is.whole) in
    let some = c.loop-rest-test.ensures in
    let P : Option (Record × Bor (List ℕ)) → Type 0 = λ o. MatchOption o
    ((one : RecordForm) (after : List ℕ) → IsRecordOf layouts one → rest ≡ record_bytes one ++ after → ⊥)
    (λ found. IsRecordOf layouts (form_of_record found.0)
    × (rest ≡ record_bytes (form_of_record found.0) ++ found.1.now)) in
    stuck layouts done records rest left (grind (arith, some)) (subst P c.in-None.is c.in_ok-record.ensures)
