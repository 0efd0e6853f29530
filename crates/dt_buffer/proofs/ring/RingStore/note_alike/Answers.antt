-- All lengths are the same after one more of them, which is as long as they are.
use Rattle.std.proofs.Common.{ℕ, List, Option, refl, ap, sym, subst, ◌∙◌, ◌≡◌, ◌++◌, ◌∷◌, []}
use Rattle.std.proofs.lemmas.List.Elements.{All-push}
use Rattle.std.specs.Option.{IfSome}
use Rattle.circular_buffer.specs.Buffer.{Buffer}
use Rattle.dt_buffer.proofs.Overwriting.{all_last}
use Rattle.dt_buffer.specs.Ending.{AreAllOf}
use Rattle.dt_buffer.proofs.ring.RingStore.note_alike.Goals as goal

pub invariant_of-self-clause-alike : goal.invariant_of-self-clause-alike
invariant_of-self-clause-alike c = λ each is.
    let before : List ℕ = c.args.self.now.lengths.items in
    let len : ℕ = c.args.len in
    let P : List ℕ → Type 0 = λ xs. AreAllOf xs each in
    let it : len ≡ each = subst (λ (o : Option ℕ). IfSome o (λ n. len ≡ n)) (sym c.requires ∙ is) refl in
    subst P (sym (ap (λ (b : Buffer ℕ). b.items) c.push_back.ensures.items))
    (all_last (before ++ len ∷ []) each c.args.self.now.lengths.capacity
    (All-push (λ (m : ℕ). m ≡ each) before len (c.args.self.now.alike each is) it))
