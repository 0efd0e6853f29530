-- A record was put under its identifier.
use Rattle.std.proofs.Common.{Some, ap, sym, ◌∙◌, subst, arith}
use Rattle.std.specs.Option.{option_map}
use Rattle.dt_record.specs.Forms.{form_of_taken}
use Rattle.dt_speculation.specs.History.{specs_then}
use Rattle.dt_speculation.specs.IsAt.{SpecsAt}
use Rattle.dt_alone.specs.Happened.{told_on}
use Rattle.dt_alone.specs.declared.happened.Happened.TheVariants.{RecordDropped}
use Rattle.dt_alone.proofs.Bringing.{told_more}
use Rattle.dt_alone.proofs.ListSteps.{put_dropped, put_kept, puts_are, undropped}
use Rattle.dt_alone.proofs.listing.put_directed.Goals as goal

pub returns-in_ok-push-clause-told : goal.returns-in_ok-push-clause-told
returns-in_ok-push-clause-told c = λ past at on.
    let old = c.args.happened.now.items in
    let form = form_of_taken c.args.taken.now in
    let bytes = c.deref.result.now in
    let told = c.drops_told.ensures.told past c.in-Some-spec.id c.args.cpu bytes c.put.result (c.put.ensures.answers past at) in
    ap (told_on on) c.in_ok-push.ensures.items ∙ told_more on old (RecordDropped c.args.cpu)
    ∙ put_dropped c.args.cpu on past form bytes c.in-Some-spec.id
    (ap (option_map (λ bytes. bytes.items)) c.in-Some.is ∙ ap Some (sym c.deref.ensures.0)) c.in-Some-spec.is
    (told_on on old) (told.0 c.in-Dropped.is)

pub returns-in_default-put : goal.returns-in_default-put
returns-in_default-put c =
    let form = form_of_taken c.args.taken.now in
    let bytes = c.deref.result.now in
    let left = ap (option_map (λ bytes. bytes.items)) c.in-Some.is ∙ ap Some (sym c.deref.ensures.0) in
    record {
      told = λ past at on.
          let told = c.drops_told.ensures.told past c.in-Some-spec.id c.args.cpu bytes c.put.result (c.put.ensures.answers past at) in
          put_kept c.args.cpu on past form bytes c.in-Some-spec.id left c.in-Some-spec.is (told_on on c.args.happened.now.items)
          (undropped c.put.result _ c.in_default-put.not-Dropped told.1);
      stands = λ past at. subst (λ events. SpecsAt (specs_then past events) c.put.new.self)
          (puts_are c.args.cpu 0 past form bytes c.in-Some-spec.id left c.in-Some-spec.is) (c.put.ensures.stands past at);
      left = omega arith;
      fails = c.put.ensures.fails;
      cpus = c.put.ensures.cpus;
    }
