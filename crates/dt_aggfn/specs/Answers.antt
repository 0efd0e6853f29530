-- What a cell answers, as a function of its bag. Guide, Aggregations.
use Rattle.std.specs.Prelude.{ℕ, List, length, map, filter, count_by, nat_lt, Option, ℤ, pos, int_div}
use Rattle.dt_aggfn.specs.declared.answer.CellAnswer.{CellAnswer}
use Rattle.dt_aggfn.specs.declared.answer.CellAnswer.TheVariants.{Number, Rows}
use Rattle.dt_aggfn.specs.declared.answer.CountedRow.{CountedRow}
use Rattle.dt_aggfn.specs.declared.function.AggFn.{AggFn}
use Rattle.dt_aggfn.specs.declared.function.AggFn.TheVariants.{Count, Sum, Avg, Min, Max, Quantize, Lquantize}
use Rattle.dt_aggfn.specs.Rows.{CountingRow, quantize_rows, lquantize_rows}
use Rattle.dt_aggfn.specs.Cells.{sum_of, least_of, greatest_of}

-- an answer: a number, or the rows that count something, each by its name with its count
pub data AnswerForm : Type 0 where
  number : (value : ℤ) → AnswerForm
  rows : (counted : List (Option ℤ × ℕ)) → AnswerForm

-- the rows that count a value of a bag, with how many they count
abbrev pub counted_rows : List CountingRow → List ℤ → List (Option ℤ × ℕ)
counted_rows all bag = filter (λ counted. nat_lt 0 counted.1) (map (λ row. (row.name, count_by row.counts bag)) all)

-- What the cell of a bag answers. An average is the wrapped sum divided by the count, cut toward zero.
unfoldable pub answer_of_bag : AggFn → List ℤ → AnswerForm
answer_of_bag Count bag = number (pos (length bag))
answer_of_bag Sum bag = number (sum_of bag)
answer_of_bag Avg bag = number (int_div (sum_of bag) (pos (length bag)))
answer_of_bag Min bag = number (least_of bag)
answer_of_bag Max bag = number (greatest_of bag)
answer_of_bag Quantize bag = rows (counted_rows quantize_rows bag)
answer_of_bag (Lquantize bounds) bag = rows (counted_rows (lquantize_rows bounds) bag)

-- the name and the count of a row
abbrev pub form_of_counted_row : CountedRow → Option ℤ × ℕ
form_of_counted_row row = (row.least, row.count)

-- an answer of the code, as a form
abbrev pub form_of_answer : CellAnswer → AnswerForm
form_of_answer (Number value) = number value
form_of_answer (Rows counted) = rows (map form_of_counted_row counted.items)
