-- What the proof of `Element::split_first` is told at its goals.
use Rattle.std.proofs.Common.{sym, ◌∙◌}
use Rattle.std.proofs.lemmas.Bool.{false≢true}
use Rattle.dt_glob.proofs.TokenLemmas.{no_signs, single_dash, single_alone, single_last, range_read}
use Rattle.dt_glob.proofs.element.Element.split_first.Goals as goal

pub returns-in_err-first-clause-none : goal.returns-in_err-first-clause-none
returns-in_err-first-clause-none c =
    rw c.from_residual.ensures
    (no_signs c.args.text.now c.requires.1.signs c.in_err-first.ensures.none c.requires.1.are_signs
    c.requires.1.written)

pub returns-then-is_plain-clause-some : goal.returns-then-is_plain-clause-some
returns-then-is_plain-clause-some c elements h =
    let f = c.in_ok-first.ensures.some in
    rw c.byte.ensures
    (single_dash c.args.text.now c.in_ok-first.first c.in_ok-first.rest.now elements f.0 f.1
    (c.is_plain.ensures.0 c.if-is_plain.true) h)

pub returns-in_default-clause-some : goal.returns-in_default-clause-some
returns-in_default-clause-some c elements h =
    let f = c.in_ok-first.ensures.some in
    rw c.byte.ensures
    (single_alone c.args.text.now c.in_ok-first.first c.in_ok-first.rest.now elements f.0 f.1
    c.in_default.ensures.none h)

pub returns-in-Some-split_first-clause-some : goal.returns-in-Some-split_first-clause-some
returns-in-Some-split_first-clause-some c elements h =
    let f = c.in_ok-first.ensures.some in
    let g = c.in-Some-split_first.ensures.some in
    rw (c.byte-in-Some-split_first.ensures, c.byte-in-Some-split_first-2.ensures)
    (range_read c.args.text.now c.in_ok-first.first c.in_ok-first.rest.now c.in-Some.behind.now
    c.in-Some-split_first.last c.in-Some-split_first.rest.now elements
    f.0 f.1 (λ e. false≢true (sym c.if-is_plain.false ∙ c.is_plain.ensures.1 e)) c.in-Some.ensures.some g.0 g.1 h)

pub returns-in-None-clause-some : goal.returns-in-None-clause-some
returns-in-None-clause-some c elements h =
    let f = c.in_ok-first.ensures.some in
    rw c.byte.ensures
    (single_last c.args.text.now c.in_ok-first.first c.in_ok-first.rest.now c.in-Some.behind.now elements f.0 f.1
    c.in-Some.ensures.some c.in-None.ensures.none h)
