use Rattle.std.proofs.Common.{arith, ◌≡◌, ℕ, ◌+◌, ◌<◌, length, refl, sym, subst, ap, ◌∙◌, set, List}
use denote.RawPtr.{InBlock}
use Rattle.atomic_blocks.specs.Cells.{Row, row, AllHome, no_row, link_of}
use Rattle.dt_trail.specs.Rule.{NoSlot}
use Rattle.dt_trail.specs.Insides.{EndingBlocks}
use Rattle.dt_trail.specs.declared.rule.About.{About}
use Rattle.dt_trail.proofs.Endings.{ending, ending_on, ending_past, all_taken, in_base, block_lies}
use Rattle.dt_trail.proofs.inner.Inner.drop.Goals.{then-len-gt0, else-len-gt0}
use Rattle.dt_trail.proofs.inner.Inner.drop.Goals as goal

pub rows-init : goal.rows-init
rows-init g c = let e = c.close-closed.ensures in (refl, subst (λ (k : About g.row.K.Denot). EndingBlocks k.root.ptr 0 c.close-closed.result.rows) c.args.self.keyed.0 (ending g.L.Law.lawful _ _ _ e.1))

pub word-len-requires : goal.word-len-requires
word-len-requires g c = (c.args.self.placed, in_base _ _ _ _ (omega (arith, c.rows-test.true)) c.rows.invariant.1)

pub link-link-requires : goal.link-link-requires
link-link-requires g c =
    let a = ap (λ z. z.rows) c.word-len.ensures.0 in
    (c.args.self.placed, subst (λ (m : List (Row NoSlot)). ((row m 0).at ≡ c.args.self.about.root.ptr) × (c.rows.block < length (row m 0).cells)) (sym a) (in_base _ _ _ _ (omega (arith, c.rows-test.true)) c.rows.invariant.1))

pub take-requires : goal.take-requires
take-requires g c =
    let a = ap (λ z. z.rows) c.word-len.ensures.0 in let b = ap (λ z. z.rows) c.link-link.ensures.0 ∙ a in
    let link = c.link-link.ensures.1 ∙ ap (λ (m : List (Row NoSlot)). link_of m 0 c.rows.block) a in
    let l = block_lies _ _ _ c.rows.invariant.1 c.rows-test.true (subst (λ (n : ℕ). 0 < n) c.word-len.ensures.1 c.if-len-gt0.true) in
    (ap (λ (m : List (Row NoSlot)). (row m (c.rows.block + 1)).at) b ∙ (l.1 ∙ sym link), subst (λ (m : List (Row NoSlot)). 0 < length (row m (c.rows.block + 1)).cells) (sym b) l.2)

pub free-requires : goal.free-requires
free-requires g c =
    let a = ap (λ z. z.rows) c.word-len.ensures.0 in let b = ap (λ z. z.rows) c.link-link.ensures.0 ∙ a in
    let link = c.link-link.ensures.1 ∙ ap (λ (m : List (Row NoSlot)). link_of m 0 c.rows.block) a in
    let l = block_lies _ _ _ c.rows.invariant.1 c.rows-test.true (subst (λ (n : ℕ). 0 < n) c.word-len.ensures.1 c.if-len-gt0.true) in
    let t = c.take.ensures.taken in
    let cells = t.2 ∙ ap (λ (m : List (Row NoSlot)). (row m (c.rows.block + 1)).cells) b in
    let heap = t.0 ∙ (ap (λ z. z.heap) c.link-link.ensures.0 ∙ (ap (λ z. z.heap) c.word-len.ensures.0 ∙ (c.rows.invariant.0 ∙ (c.close-closed.ensures.0 ∙ c.args.self.keyed.1)))) in
    (heap, t.1, subst InBlock (sym link) l.0, ap length cells ∙ (c.rows.invariant.1.each c.rows.block (omega arith) c.rows-test.true ∙ sym c.word-len.ensures.1), t.3, subst AllHome (sym cells) (c.rows.invariant.1.homes c.rows.block (omega arith) c.rows-test.true))

pub rows-preserved : goal.rows-preserved
rows-preserved g c =
    let a = ap (λ z. z.rows) c.word-len.ensures.0 in let h = ap (λ z. z.heap) c.word-len.ensures.0 ∙ c.rows.invariant.0 in
    elim c.if-len-gt0.branch [
      | then-len-gt0 w ↦
          let b = ap (λ z. z.rows) w.link-link.ensures.0 ∙ a in
          let left = w.take.ensures.left in (
            ap (λ z. z.heap) w.closed-is ∙ (left.0 ∙ (ap (λ z. z.heap) w.link-link.ensures.0 ∙ h)),
            ending_on _ c.rows.block c.rows.closed.rows _ (ap (λ z. z.rows) w.closed-is ∙ (left.1 ∙ ap (λ (m : List (Row NoSlot)). set m (c.rows.block + 1) no_row) b)) c.rows.invariant.1,
          )
      | else-len-gt0 w ↦ (
        ap (λ z. z.heap) w.closed-is ∙ h,
        subst (λ (m : List (Row NoSlot)). EndingBlocks c.args.self.about.root.ptr (c.rows.block + 1) m) (sym (ap (λ z. z.rows) w.closed-is ∙ a))
            (ending_past _ _ _ c.rows-test.true (sym c.word-len.ensures.1 ∙ (let z : c.word-len.result ≡ 0 = omega (arith, w.if-len-gt0.false) in z)) c.rows.invariant.1),
      )
    ]

pub take-requires-2 : goal.take-requires-2
take-requires-2 g c = in_base _ _ _ _ (omega arith) c.rows.invariant.1

pub free-requires-2 : goal.free-requires-2
free-requires-2 g c =
    let t = c.take-2.ensures.taken in let e = c.rows.invariant.1 in
    (t.0 ∙ (c.rows.invariant.0 ∙ (c.close-closed.ensures.0 ∙ c.args.self.keyed.1)), t.1, c.args.self.placed, ap length t.2 ∙ e.long, t.3, subst AllHome (sym t.2) e.home)

pub drop-closed-requires : goal.drop-closed-requires
drop-closed-requires g c = all_taken _ c.rows.block c.rows.closed.rows _ (omega (arith, c.rows-test.false)) c.take-2.ensures.left.1 c.rows.invariant.1
