-- All lengths are the same after one more of them, if it is known: it is the first.
use Rattle.std.proofs.Common.{ℕ, List, length, ap, sym, subst, ◌∙◌, ◌++◌, ◌∷◌, [], arith}
use Rattle.std.proofs.lemmas.Bool.{eqb-true}
use Rattle.std.proofs.lemmas.List.{nil_from_length}
use Rattle.circular_buffer.specs.Buffer.{Buffer}
use Rattle.dt_buffer.proofs.Overwriting.{all_last}
use Rattle.dt_buffer.specs.Ending.{AreAllOf}
use Rattle.dt_buffer.proofs.ring.RingStore.note_other.Goals as goal

pub invariant_of-self-clause-alike : goal.invariant_of-self-clause-alike
invariant_of-self-clause-alike c = λ each is.
    let P : List ℕ → Type 0 = λ xs. AreAllOf xs each in
    subst P (sym (ap (λ (b : Buffer ℕ). b.items) c.push_back.ensures.items))
    (all_last (c.args.self.now.lengths.items ++ c.args.len ∷ []) each c.args.self.now.lengths.capacity
    (c.each_after-self.ensures c.args.self.now.lengths.items
    (λ none. nil_from_length c.args.self.now.lengths.items
    (omega (arith, eqb-true (length c.args.self.now.lengths.items) 0 (sym c.is_empty.ensures ∙ none)))) each is))
