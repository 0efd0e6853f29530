-- How a judge keeps what it has of the items so far. Only proofs need these definitions.
use Rattle.std.specs.Prelude.{ℕ, ◌<◌, ◌≤◌, ◌↔◌, List, ◌∷◌, slice_index}
use Rattle.dt_cred.specs.declared.account.Account.{Account}
use Rattle.dt_machine.specs.Registry.{Contents}
use Rattle.dt_machine.specs.Limits.{cpus_max}
use Rattle.dt_proto.specs.Trail.{WrittenItem}
use Rattle.dt_proto.specs.Legal.{IsAbove, life_of_trail, MayStand, IsRight}
use Rattle.dt_alone.specs.Runs.{Runs}
use Rattle.dt_alone.specs.declared.judge.Judge.{Judge}
use Rattle.dt_alone.specs.declared.judge.Ruling.{Ruling}
use Rattle.dt_alone.specs.declared.judge.Ruling.TheVariants.{Right, Wrong, OutOfPlace}

module _ (account : Account) (contents : Contents) where
  -- A judge is after these items: its runner has run the life that they tell, and it knows each processor's least place
  -- that is above those of its firings.
  pub record HasJudged (past : List WrittenItem) (judge : Judge) : Type 0 where
    pub runs : Runs account contents.registry judge.runner (life_of_trail account contents past)
    pub least : (cpu place : ℕ) → cpu < cpus_max → (IsAbove past cpu place ↔ (slice_index judge.least cpu ≤ place))

  -- The ruling on an item: it may not stand, or its reply is not the one that is due; or both are in order, and the
  -- judge is after it.
  abbrev pub IsRuling : List WrittenItem → WrittenItem → Judge → Ruling → Type 0
  IsRuling past item judge Right =
      MayStand account contents past item × IsRight account contents past item × HasJudged (item ∷ past) judge
  IsRuling past item judge Wrong =
      MayStand account contents past item × (IsRight account contents past item → ⊥)
  IsRuling past item judge OutOfPlace = MayStand account contents past item → ⊥
