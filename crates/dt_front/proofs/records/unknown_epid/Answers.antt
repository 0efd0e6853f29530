-- What is to be shown of `unknown_epid`.
use Rattle.std.proofs.Common.{◌≡◌, ◌<◌, map, ap, subst, sym, ◌∙◌, arith}
use Rattle.std.proofs.lemmas.List.{take_rest}
use Rattle.dt_record.specs.Fields.{form_of_layout}
use Rattle.dt_front.specs.Unknown.{ComesUnknown, epid_of, known_size}
use Rattle.dt_front.proofs.Known.{first_known, first_unknown, past_known, too_short}
use Rattle.dt_front.proofs.records.unknown_epid.Goals as goal

pub loop-rest-preserved : goal.loop-rest-preserved
loop-rest-preserved c =
    let layouts = map form_of_layout c.args.layouts.now in
    let rest = c.loop-rest.rest.now in
    let size = c.known_size-size.result in
    let is : size ≡ known_size layouts (epid_of rest) = c.known_size-size.ensures.size ∙ ap (known_size layouts) c.epid_of-epid.ensures in
    let some : 0 < size = omega (arith, c.if-size-eq0.false) in
    let long = c.known_size-size.ensures.some some in
    record {
      there = λ epid comes. subst (λ xs. ComesUnknown layouts xs epid) (sym (take_rest rest size))
          (first_known layouts rest size epid is some (c.loop-rest.invariant.there epid comes)).2;
      back = λ epid comes. c.loop-rest.invariant.back epid
          (past_known layouts rest size epid is long c.if-size-rest.false (subst (λ xs. ComesUnknown layouts xs epid) (take_rest rest size) comes));
    }

pub returns-then-size-eq0 : goal.returns-then-size-eq0
returns-then-size-eq0 c =
    c.loop-rest.invariant.back c.epid_of-epid.result
    (first_unknown (map form_of_layout c.args.layouts.now) c.loop-rest.rest.now c.epid_of-epid.result c.loop-rest-test.true c.epid_of-epid.ensures
    (sym c.if-size-eq0.true ∙ c.known_size-size.ensures.size))

pub returns-then-size-rest : goal.returns-then-size-rest
returns-then-size-rest c = λ epid comes.
    let layouts = map form_of_layout c.args.layouts.now in
    let is = c.known_size-size.ensures.size ∙ ap (known_size layouts) c.epid_of-epid.ensures in
    let some : 0 < c.known_size-size.result = omega (arith, c.if-size-eq0.false) in
    let fits = (first_known layouts c.loop-rest.rest.now c.known_size-size.result epid is some (c.loop-rest.invariant.there epid comes)).1 in
    absurd (omega (arith, fits, c.if-size-rest.true))

pub returns : goal.returns
returns c = λ epid comes.
    too_short (map form_of_layout c.args.layouts.now) c.loop-rest.rest.now epid c.loop-rest-test.false (c.loop-rest.invariant.there epid comes)
