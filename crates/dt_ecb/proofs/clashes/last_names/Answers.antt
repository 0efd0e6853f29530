-- A name is counted, or it is used again.
use Rattle.std.proofs.Common.{◌≡◌, ◌+◌, ◌-◌, ◌++◌, ◌∙◌, length, take, drop, sym, ap, arith}
use Rattle.std.specs.List.{list_any}
use Rattle.std.proofs.lemmas.List.{take_all, length-drop}
use Rattle.std.specs.Str.{bytes_eq}
use Rattle.dt_ecb.specs.Shapes.{ShapeForm}
use Rattle.dt_ecb.proofs.ClashLemmas.{forms, count_same, count_more}
use Rattle.dt_ecb.proofs.clashes.last_names.Goals as goal
use Rattle.dt_ecb.proofs.clashes.last_names.Goals.{then-not-is_named, else-not-is_named}

pub loop-i-preserved : goal.loop-i-preserved
loop-i-preserved c =
    let uses = c.args.uses.now in
    let later = c.args.later.now in
    let i = c.loop-i.i in
    let one = c.index-uses-i.result in
    let cut : take (length uses - (i + 1)) (drop (i + 1) uses) ≡ drop (i + 1) uses =
    take_all (length uses - (i + 1)) (drop (i + 1) uses) (omega (arith, length-drop (i + 1) uses)) in
    let again = ap (λ xs. list_any (λ (other : ShapeForm). bytes_eq one.name other.name) (forms xs ++ forms later))
    (sym cut) in
    elim c.if-not-is_named.branch [
      | then-not-is_named w ↦
          let more = count_more uses later i one c.loop-i-test.true c.index-uses-i.is
          (again ∙ sym c.is_named.ensures ∙ w.if-not-is_named.true) in
          record { few = omega arith; whole = omega (arith, more, c.loop-i.invariant.whole, w.count-is) }
      | else-not-is_named w ↦
          let same = count_same uses later i one c.loop-i-test.true c.index-uses-i.is
          (again ∙ sym c.is_named.ensures ∙ w.if-not-is_named.false) in
          record { few = omega arith; whole = omega (arith, same, c.loop-i.invariant.whole, w.count-is) }
    ]
