-- The number of an operator between its operands.
use Rattle.std.proofs.Common.{◌≡◌, Some, None, w64, to_z, of_z, rules, ap}
use Rattle.dt_expr.specs.Form.{form_of}
use Rattle.dt_expr.specs.Operators.{decided, binary}
use Rattle.dt_expr.specs.Scene.{scene_of}
use Rattle.dt_expr.specs.Found.{IsFound}
use Rattle.dt_expr.specs.Value.{value}
use Rattle.dt_expr.proofs.Joining.{found_leaf, found_as, joins}
use Rattle.dt_expr.proofs.evaluator.+number_of.Goals.{in-Some, in-None, in-Some-leaf, in-None-leaf}
use Rattle.dt_expr.proofs.evaluator.+number_of.Goals as goal

pub returns-after-leaf-2 : goal.returns-after-leaf-2
returns-after-leaf-2 t c past at =
    let scene = scene_of c.args.place.now.scene.now in
    let left : IsFound (value scene past (form_of c.in-Binary.left.value)) (to_z w64 c.match-leaf.left-bits)
    c.args.divided_by_zero.now c.match-leaf.divided_by_zero =
    elim c.match-leaf.branch [
      | in-Some w ↦
          let is : to_z w64 c.match-leaf.left-bits ≡ w.in-Some.number = search (rules, w.left-is) in
          let there : value scene past (form_of c.in-Binary.left.value) ≡ Some w.in-Some.number = search (rules, w.in-Some.ensures past, c.deref-in-Binary.ensures) in
          found_leaf (value scene past (form_of c.in-Binary.left.value)) w.in-Some.number (to_z w64 c.match-leaf.left-bits)
          c.args.divided_by_zero.now c.match-leaf.divided_by_zero there is w.divided_by_zero-is
      | in-None w ↦
          let is : to_z w64 c.match-leaf.left-bits ≡ w.number_of-left.result = search (rules, w.left-is) in
          found_as (value scene past (form_of w.deref-in-None.result.now)) (value scene past (form_of c.in-Binary.left.value))
          w.number_of-left.result (to_z w64 c.match-leaf.left-bits) c.args.divided_by_zero.now
          w.number_of-left.new.divided_by_zero c.match-leaf.divided_by_zero
          (ap (λ e. value scene past (form_of e)) w.deref-in-None.ensures) is w.divided_by_zero-is (w.number_of-left.ensures past at)
    ] in
    let right : IsFound (value scene past (form_of c.in-Binary.right.value)) (to_z w64 c.match-leaf-2.right-bits)
    c.match-leaf.divided_by_zero c.match-leaf-2.divided_by_zero =
    elim c.match-leaf-2.branch [
      | in-Some-leaf w ↦
          let is : to_z w64 c.match-leaf-2.right-bits ≡ w.in-Some-leaf.number = search (rules, w.right-is) in
          let there : value scene past (form_of c.in-Binary.right.value) ≡ Some w.in-Some-leaf.number = search (rules, w.in-Some-leaf.ensures past, c.deref-in-Binary-2.ensures) in
          found_leaf (value scene past (form_of c.in-Binary.right.value)) w.in-Some-leaf.number (to_z w64 c.match-leaf-2.right-bits)
          c.match-leaf.divided_by_zero c.match-leaf-2.divided_by_zero there is w.divided_by_zero-is
      | in-None-leaf w ↦
          let is : to_z w64 c.match-leaf-2.right-bits ≡ w.number_of-right.result = search (rules, w.right-is) in
          found_as (value scene past (form_of w.deref-in-None-leaf.result.now)) (value scene past (form_of c.in-Binary.right.value))
          w.number_of-right.result (to_z w64 c.match-leaf-2.right-bits) c.match-leaf.divided_by_zero
          w.number_of-right.new.divided_by_zero c.match-leaf-2.divided_by_zero
          (ap (λ e. value scene past (form_of e)) w.deref-in-None-leaf.ensures) is w.divided_by_zero-is (w.number_of-right.ensures past at)
    ] in
    let both : IsFound (binary c.in-Binary.op (to_z w64 c.match-leaf.left-bits) (to_z w64 c.match-leaf-2.right-bits))
    (to_z w64 (of_z w64 c.apply-in-Binary.result)) c.match-leaf-2.divided_by_zero
    c.apply-in-Binary.new.divided_by_zero = search (rules, c.apply-in-Binary.ensures) in
    let undecided : decided c.in-Binary.op (to_z w64 c.match-leaf.left-bits) ≡ None = search (rules, c.decided.ensures) in
    rw c.in-Binary.is (joins c.in-Binary.op (value scene past (form_of c.in-Binary.left.value))
    (value scene past (form_of c.in-Binary.right.value)) (to_z w64 c.match-leaf.left-bits) (to_z w64 c.match-leaf-2.right-bits)
    (to_z w64 (of_z w64 c.apply-in-Binary.result)) c.args.divided_by_zero.now c.match-leaf.divided_by_zero
    c.match-leaf-2.divided_by_zero c.apply-in-Binary.new.divided_by_zero left undecided right both)
