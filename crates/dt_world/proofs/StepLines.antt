-- One text, one step line.
use Rattle.std.proofs.Common.{◌≡◌, ℕ, List, decimal, drop, get_or, sym, ap, ◌∙◌, arith}
use Rattle.dt_world.specs.StepLine.{StepLineForm, open_line, close_line, withdraw_line, ask_line, publish_line}
use Rattle.dt_world.specs.StepLine.{finish_line, look_line, offer_line, call_line, fire_line, IsWritableStep}
use Rattle.dt_world.specs.StepLine.{SpellsStepLine, step_line_text}
use Rattle.dt_world.proofs.Behind.{same_parts}
use Rattle.dt_world.proofs.Decimals.{one_number}

same_line : (a b : StepLineForm) → IsWritableStep a → IsWritableStep b → step_line_text a ≡ step_line_text b → a ≡ b
same_line (open_line x r) (open_line y s) p q e =
    let parts = same_parts x y r s (omega arith) (omega arith) (ap (drop 5) e) in
    ap (λ n. open_line n r) parts.0 ∙ ap (open_line y) parts.1
same_line (close_line x) (close_line y) p q e =
    ap close_line (one_number x y (omega arith) (omega arith) (ap (drop 6) e))
same_line (withdraw_line x) (withdraw_line y) p q e =
    ap withdraw_line (one_number x y (omega arith) (omega arith) (ap (drop 9) e))
same_line (ask_line x r) (ask_line y s) p q e =
    let parts = same_parts x y r s (omega arith) (omega arith) (ap (drop 4) e) in
    ap (λ n. ask_line n r) parts.0 ∙ ap (ask_line y) parts.1
same_line (publish_line x) (publish_line y) p q e =
    ap publish_line (one_number x y (omega arith) (omega arith) (ap (drop 8) e))
same_line (finish_line x) (finish_line y) p q e =
    ap finish_line (one_number x y (omega arith) (omega arith) (ap (drop 7) e))
same_line (look_line x) (look_line y) p q e = ap look_line (one_number x y p q (ap (drop 5) e))
same_line (offer_line x i) (offer_line y j) p q e =
    let parts = same_parts x y (decimal i) (decimal j) p.0 q.0 (ap (drop 6) e) in
    ap (λ n. offer_line n i) parts.0
    ∙ ap (offer_line y) (one_number i j (omega (arith, p.1)) (omega (arith, q.1)) parts.1)
same_line (call_line x r) (call_line y s) p q e =
    let parts = same_parts x y r s (omega arith) (omega arith) (ap (drop 5) e) in
    ap (λ n. call_line n r) parts.0 ∙ ap (call_line y) parts.1
same_line (fire_line x) (fire_line y) p q e = ap fire_line (one_number x y p q (ap (drop 5) e))
-- two other lines differ in their first byte, or in their third
same_line a b p q e = absurd (omega (arith, ap (λ text. get_or text 0 0) e, ap (λ text. get_or text 2 0) e))

pub one_step_line : (text : List ℕ) (a b : StepLineForm) → SpellsStepLine text a → SpellsStepLine text b → a ≡ b
one_step_line text a b h k = same_line a b h.writable k.writable (sym h.spelled ∙ k.spelled)
