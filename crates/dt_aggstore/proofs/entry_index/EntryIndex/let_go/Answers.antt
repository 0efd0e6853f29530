-- The other index has room, and the entries are apart.
use Rattle.std.proofs.Common.{length, sym, ap, ◌∙◌, subst, arith}
use Rattle.std.specs.List.{IsDistinct}
use Rattle.std.specs.Map.{keys_of}
use Rattle.std.proofs.lemmas.Map.Entries.{length-keys_of}
use Rattle.dt_aggstore.proofs.Indexing.{tests_alike, named_as}
use Rattle.dt_aggstore.proofs.entry_index.EntryIndex.let_go.Goals as goal

pub put_others-requires-clause-room : goal.put_others-requires-clause-room
put_others-requires-clause-room c =
    omega (
      arith,
      ap length (c.as_slice.ensures ∙ c.keys.ensures.rest),
      length-keys_of c.self.inside.index.entries,
      c.self.invariant.within,
      c.self.invariant.second,
    )

pub put_others-requires-clause-apart : goal.put_others-requires-clause-apart
put_others-requires-clause-apart c =
    subst (IsDistinct named_as) (sym (c.as_slice.ensures ∙ c.keys.ensures.rest))
    (subst (λ eq. IsDistinct eq (keys_of c.self.inside.index.entries)) tests_alike c.keys.ensures.unique)
