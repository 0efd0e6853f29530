-- What the proof of `check` is told at its goals.
use Rattle.std.proofs.Common.{◌∙◌, ℕ, sym, ap, List, ◌++◌, ◌∷◌, [], Ok, Err}
use Rattle.std.proofs.lemmas.Result.{err_from_is_err_and}
use Rattle.dt_glob.specs.Place.{step_of}
use Rattle.dt_glob.specs.Sign.{AreSigns, text_of_signs}
use Rattle.dt_glob.specs.laws.Signs.{AreSigns-append}
use Rattle.dt_glob.specs.laws.Places.{stepped, Leads, FaultOf-empty, text_of_signs-more}
use Rattle.dt_glob.proofs.pattern.check.Goals as goal

pub loop-sign-preserved : goal.loop-sign-preserved
loop-sign-preserved c =
    let inv = c.loop-sign.invariant in
    let f = c.in-Some.ensures.some in
    let leads : Leads inv.0 c.in-Some.sign (step_of c.loop-sign.place c.in-Some.sign) =
    stepped c.loop-sign.place inv.0 c.in-Some.sign inv.2 in
    let next : Leads inv.0 c.in-Some.sign (Ok c.in_ok-place.place) =
    rw (sym c.step.ensures ∙ c.in_ok-place.was) at leads in (
      inv.0 ++ c.in-Some.sign ∷ [],
      AreSigns-append inv.0 (c.in-Some.sign ∷ []) inv.1 (f.0, tt),
      next,
      text_of_signs-more c.args.text.now inv.0 c.in-Some.sign c.in-Some.behind.now
          (inv.3 ∙ ap (λ (s : List ℕ). text_of_signs inv.0 ++ s) f.1),
    )

pub returns-in_err-place-clause-fault : goal.returns-in_err-place-clause-fault
returns-in_err-place-clause-fault c =
    let inv = c.loop-sign.invariant in
    let f = c.in-Some.ensures.some in
    let leads : Leads inv.0 c.in-Some.sign (step_of c.loop-sign.place c.in-Some.sign) =
    stepped c.loop-sign.place inv.0 c.in-Some.sign inv.2 in
    let next : Leads inv.0 c.in-Some.sign (Err c.in_err-place.field-0.0) =
    rw (sym c.step.ensures ∙ c.in_err-place.was) at leads in
    let are : AreSigns (inv.0 ++ c.in-Some.sign ∷ []) = AreSigns-append inv.0 (c.in-Some.sign ∷ []) inv.1 (f.0, tt) in
    let fault = FaultOf-empty c.args.text.now inv.0 c.in-Some.sign c.in-Some.behind.now
    (text_of_signs-more c.args.text.now inv.0 c.in-Some.sign c.in-Some.behind.now
    (inv.3 ∙ ap (λ (s : List ℕ). text_of_signs inv.0 ++ s) f.1)) are next.1 in
    let p = err_from_is_err_and c.from_residual.result c.from_residual.ensures.1 in
    rw (p.1, p.2, next.0) fault
