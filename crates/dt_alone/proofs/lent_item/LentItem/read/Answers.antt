-- What is to be shown of `read`.
use Rattle.std.proofs.Common.{◌≡◌, ◌++◌, codes, Some, None, sym, ◌∙◌}
use Rattle.std.proofs.lemmas.Bool.{true≢false}
use Rattle.std.proofs.lemmas.Bool.Decides.{Decides-eqb}
use Rattle.std.proofs.lemmas.Slice.Eq.{strip_prefix_is, slice_eq-Decides}
use Rattle.dt_alone.proofs.Cuts.{no_cut}
use Rattle.dt_alone.proofs.TrailItems.{item_whole, first_of, more_of, starts_line, starts_fired, no_line, no_fired}
use Rattle.dt_alone.proofs.TrailItems.{no_item}
use Rattle.dt_alone.proofs.lent_item.LentItem.read.Goals as goal

pub returns-in_err-first-clause-none : goal.returns-in_err-first-clause-none
returns-in_err-first-clause-none c =
    rw c.from_residual.ensures (λ item rest h is. no_cut 10 c.args.text.now (first_of item) (more_of item ++ rest)
    c.in_err-first.ensures.none (is ∙ item_whole item rest))

pub returns-in_err-reply-clause-none : goal.returns-in_err-reply-clause-none
returns-in_err-reply-clause-none c =
    let whole : c.in_ok-first.first.now ≡ codes "line " ++ c.in-Some.line.now =
    strip_prefix_is Decides-eqb c.in_ok-first.first.now (codes "line ") (Some c.in-Some.line)
    c.in-Some.ensures.cases in
    rw c.from_residual-in_err-reply.ensures (no_line c.args.text.now c.in_ok-first.first.now c.in_ok-first.rest.now
    c.in_ok-first.ensures.found c.in-Some.line.now whole c.in_err-reply.ensures.none)

pub returns-in_err-strip_prefix-clause-none : goal.returns-in_err-strip_prefix-clause-none
returns-in_err-strip_prefix-clause-none c =
    let first = c.in_ok-first.first.now in
    let long = slice_eq-Decides Decides-eqb first c.as_slice.result.now c.eq.result c.eq.ensures in
    rw c.from_residual-in_err-strip_prefix.ensures (no_item c.args.text.now first c.in_ok-first.rest.now
    c.in_ok-first.ensures.found
    (strip_prefix_is Decides-eqb first (codes "line ") None c.in_default.ensures.cases)
    (λ same. true≢false (sym (long.1 (same ∙ sym c.as_slice.ensures)) ∙ c.if-eq.false))
    (strip_prefix_is Decides-eqb first (codes "fired ") None c.in_err-strip_prefix.ensures.cases))

pub returns-in_err-cpu-clause-none : goal.returns-in_err-cpu-clause-none
returns-in_err-cpu-clause-none c =
    let whole : c.in_ok-first.first.now ≡ codes "fired " ++ c.in_ok-strip_prefix.field-0.now =
    strip_prefix_is Decides-eqb c.in_ok-first.first.now (codes "fired ") (Some c.in_ok-strip_prefix.field-0)
    c.in_ok-strip_prefix.ensures.cases in
    rw c.from_residual-in_err-cpu.ensures (no_fired c.args.text.now c.in_ok-first.first.now c.in_ok-first.rest.now
    c.in_ok-first.ensures.found c.in_ok-strip_prefix.field-0.now whole c.in_err-cpu.ensures.none)

pub returns-in_ok-reply-clause-found : goal.returns-in_ok-reply-clause-found
returns-in_ok-reply-clause-found c =
    let whole : c.in_ok-first.first.now ≡ codes "line " ++ c.in-Some.line.now =
    strip_prefix_is Decides-eqb c.in_ok-first.first.now (codes "line ") (Some c.in-Some.line)
    c.in-Some.ensures.cases in
    starts_line c.args.text.now c.in_ok-first.first.now c.in_ok-first.rest.now c.in_ok-first.ensures.found
    c.in-Some.line.now c.in_ok-reply.reply.now c.in_ok-reply.rest.now whole c.in_ok-reply.ensures.found

pub returns-in_ok-cpu-clause-found : goal.returns-in_ok-cpu-clause-found
returns-in_ok-cpu-clause-found c =
    let whole : c.in_ok-first.first.now ≡ codes "fired " ++ c.in_ok-strip_prefix.field-0.now =
    strip_prefix_is Decides-eqb c.in_ok-first.first.now (codes "fired ") (Some c.in_ok-strip_prefix.field-0)
    c.in_ok-strip_prefix.ensures.cases in
    starts_fired c.args.text.now c.in_ok-first.first.now c.in_ok-first.rest.now c.in_ok-first.ensures.found
    c.in_ok-cpu.cpu c.in_ok-cpu.place c.in_ok-strip_prefix.field-0.now whole c.in_ok-cpu.ensures.found
