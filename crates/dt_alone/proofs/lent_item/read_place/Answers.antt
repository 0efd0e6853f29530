-- What is to be shown of `read_place`.
use Rattle.std.proofs.Common.{decimal, sym, ◌∙◌, arith}
use Rattle.dt_alone.proofs.Cuts.{same_cut, no_cut}
use Rattle.dt_alone.proofs.Decimals.{decimal_no}
use Rattle.dt_alone.proofs.lent_item.read_place.Goals as goal

pub returns-in_err-cpu-clause-none : goal.returns-in_err-cpu-clause-none
returns-in_err-cpu-clause-none c =
    rw c.from_residual.ensures (λ cpu place p q is. no_cut 32 c.args.text.now (decimal cpu) (decimal place)
    c.in_err-cpu.ensures.none is)

pub returns-in_err-number_of-clause-none : goal.returns-in_err-number_of-clause-none
returns-in_err-number_of-clause-none c =
    let cut = c.in_ok-cpu.ensures.found in
    rw c.from_residual-in_err-number_of.ensures (λ cpu place p q is.
    let both = same_cut 32 c.in_ok-cpu.cpu.now (decimal cpu) c.in_ok-cpu.place.now (decimal place) cut.first
    (decimal_no 32 cpu (omega arith) p) (sym cut.whole ∙ is) in
    c.in_err-number_of.ensures.none cpu p both.0)

pub returns-in_err-number_of-2-clause-none : goal.returns-in_err-number_of-2-clause-none
returns-in_err-number_of-2-clause-none c =
    let cut = c.in_ok-cpu.ensures.found in
    rw c.from_residual-in_err-number_of-2.ensures (λ cpu place p q is.
    let both = same_cut 32 c.in_ok-cpu.cpu.now (decimal cpu) c.in_ok-cpu.place.now (decimal place) cut.first
    (decimal_no 32 cpu (omega arith) p) (sym cut.whole ∙ is) in
    c.in_err-number_of-2.ensures.none place q both.1)
