-- What is found of an operator's operands is found of the operator.
use Rattle.std.proofs.Common.{◌≡◌, ◌∙◌, Bool, true, sym, ap, subst, Some, None, Option, ℤ}
use Rattle.dt_expr.specs.declared.operators.BinaryOp.{BinaryOp}
use Rattle.dt_expr.specs.Found.{IsFound}
use Rattle.dt_expr.specs.Operators.{binary, decided}
use Rattle.dt_expr.specs.Value.{joined}

-- a mark that is set stays set
stays : (there : Option ℤ) (number : ℤ) (before after : Bool) → IsFound there number before after → before ≡ true
    → after ≡ true
stays None number before after found set = found
stays (Some one) number before after found set = found.1 ∙ set

-- the number of a leaf was found, with no mark
pub found_leaf : (there : Option ℤ) (one number : ℤ) (before after : Bool) → there ≡ Some one → number ≡ one
    → after ≡ before → IsFound there number before after
found_leaf there one number before after is same kept = rw is (same, kept)

-- what was found under other names
pub found_as : (there same : Option ℤ) (one number : ℤ) (before between after : Bool) → there ≡ same → number ≡ one
    → after ≡ between → IsFound there one before between → IsFound same number before after
found_as there same one number before between after is own kept found =
    subst (λ o. IsFound o number before after) is
    (subst (λ z. IsFound there z before after) (sym own)
    (subst (λ b. IsFound there one before b) (sym kept) found))

-- both operands were evaluated
pub joins : (op : BinaryOp) (left right : Option ℤ) (x y number : ℤ) (before between later after : Bool)
    → IsFound left x before between → decided op x ≡ None → IsFound right y between later
    → IsFound (binary op x y) number later after
    → IsFound (joined op left right) number before after
joins op None right x y number before between later after first undecided second both =
    stays (binary op x y) number later after both (stays right y between later second first)
joins op (Some one) None x y number before between later after first undecided second both =
    let own : decided op one ≡ None = ap (decided op) (sym first.0) ∙ undecided in
    rw own (stays (binary op x y) number later after both second)
joins op (Some one) (Some other) x y number before between later after first undecided second both =
    let own : decided op one ≡ None = ap (decided op) (sym first.0) ∙ undecided in
    let was : later ≡ before = second.1 ∙ first.1 in
    rw own (subst (λ b. IsFound (binary op one other) number b after) was
    (subst (λ z. IsFound (binary op one z) number later after) second.0
    (subst (λ z. IsFound (binary op z y) number later after) first.0 both)))
