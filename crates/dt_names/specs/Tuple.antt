-- What the text of a probe is.
use Rattle.std.specs.Prelude.{◌≡◌, ◌≢◌, ℕ, List, [], ◌∷◌}
use Rattle.dt_names.specs.Desc.{fields}
use Rattle.dt_names.specs.Name.{IsName}
use Rattle.dt_names.specs.declared.tuple.ProbeTuple.{ProbeTuple}

-- The text is four names with colons between them, of which the provider and the name are not empty.
pub record SpellsTuple (text : List ℕ) (tuple : ProbeTuple) : Type 0 where
  pub spelled : fields text ≡ tuple.provider ∷ tuple.module ∷ tuple.function ∷ tuple.name ∷ []
  pub provider_named : IsName tuple.provider
  pub module_named : IsName tuple.module
  pub function_named : IsName tuple.function
  pub name_named : IsName tuple.name
  pub some_provider : tuple.provider ≢ []
  pub some_name : tuple.name ≢ []
