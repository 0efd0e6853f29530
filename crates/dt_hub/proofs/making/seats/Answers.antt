-- One seat more is made, of the first share that is left.
use Rattle.std.proofs.Common.{rules, ◌≡◌, ℕ, suc, List, [], ◌∷◌, drop, length, refl, ap, ◌∙◌, arith}
use Rattle.std.proofs.lemmas.List.{length-drop}
use Rattle.std.specs.List.{slice_get}
use Rattle.dt_facts.specs.Handles.{HeldFact}
use Rattle.dt_hub.proofs.making.seats.Goals as goal

after_first : {X : Type 0} (xs : List X) (k : ℕ) → slice_get (drop 1 xs) k ≡ slice_get xs (suc k)
after_first [] k = refl
after_first (x ∷ xs) k = refl

pub seats-preserved : goal.seats-preserved
seats-preserved g c =
    let inv = c.seats.invariant in
    let n = c.seats.number in
    let shares = c.seats.shares.items in
    let rest : c.remove-writes.new.self.items ≡ drop 1 shares = c.remove-writes.ensures.by_index.2 in
    record {
      many = grind (arith, c.in_ok-push.ensures.items, inv.many);
      dealt = search rules;
      left = omega (arith, ap length rest, length-drop 1 shares, inv.left, c.seats-test.true);
      each = λ k. ap (λ (xs : List HeldFact). slice_get xs k) rest ∙ after_first shares k ∙ inv.each (suc k)
          ∙ ap (slice_get c.args.shares.items) (omega arith);
      maker = search rules;
    }
