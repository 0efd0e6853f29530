-- What the proof of `Pattern::is_empty` is told at its goals.
use Rattle.std.proofs.Common.{ℕ, sym, ◌∙◌, ap, subst, List, length, eqb}
use Rattle.dt_glob.specs.Spells.{Spells}
use Rattle.dt_glob.specs.Reading.{items_of_text}
use Rattle.dt_glob.proofs.TokenLemmas.{none_spells, spells_none, no_length}
use Rattle.dt_glob.proofs.pattern.Pattern.is_empty.Goals as goal

pub returns : goal.returns
returns c =
    let text = c.self.inside.text.items in
    let items = items_of_text text in (
      λ e. let none = no_length text (sym c.is_empty.ensures ∙ e) in
          sym c.self.view_is ∙ spells_none items (subst (λ s. Spells s items) none c.self.invariant),
      λ e. let none = none_spells text (rw (c.self.view_is ∙ e) at c.self.invariant) in
          c.is_empty.ensures ∙ ap (λ (s : List ℕ). eqb (length s) 0) none,
    )
