-- Which writes of a seat are in order for one of its lives.
use Rattle.std.specs.Prelude.{◌≡◌, ◌≢◌, ◌++◌, ◌∷◌, ℕ, Bool, true, List, []}
use mathlib.Core.List.{IsPrefix}
use Rattle.dt_chain.specs.Writes.{Write, published, withdrawn}
use Rattle.dt_cred.specs.declared.account.Account.{Account}
use Rattle.dt_ecb.specs.Ecbs.{of_probe}
use Rattle.dt_legal.specs.Rows.{life_of_row}
use Rattle.dt_life.specs.Life.{ecbs, is_stopped, phase}
use Rattle.dt_machine.specs.Interest.{Names}
use Rattle.dt_machine.specs.Registry.{Contents}
use Rattle.dt_meeting.specs.Stages.{named, past, stage}
use Rattle.dt_trail.specs.Items.{TrailItem}

-- The write isn't a publication of the life.
abbrev pub IsOfOthers : ℕ → Write → Type 0
IsOfOthers life (published seat other account probes) = other ≢ life
IsOfOthers life (withdrawn seat) = Unit {0}

module _ (account : Account) (contents : Contents) where
  -- All writes of a seat so far are in order for a life of it that has this trail. They publish the life for its account. As they go on the life is named with no fewer probes, and at
  -- each time with none but those of the ECBs that the trail has enabled. They have come past the life only where it has stopped, and it isn't published again then.
  pub record IsInOrder (life : ℕ) (writes : List Write) (trail : List TrailItem) : Type 0 where
    pub its_account : (before : List Write) (seat : ℕ) (by : Account) (probes : List Bool)
        → IsPrefix (before ++ published seat life by probes ∷ []) writes → by ≡ account
    pub growing : (shorter longer : List Write) (fewer more : List Bool) → IsPrefix shorter longer → IsPrefix longer writes
        → stage life shorter ≡ named fewer → stage life longer ≡ named more → (id : ℕ) → Names fewer id → Names more id
    pub enabled : (beginning : List Write) (probes : List Bool) → IsPrefix beginning writes → stage life beginning ≡ named probes
        → (id : ℕ) → Names probes id → of_probe id (ecbs account contents.registry (life_of_row account contents trail)) ≢ []
    pub once : (before : List Write) (write : Write) → IsPrefix (before ++ write ∷ []) writes → stage life before ≡ past → IsOfOthers life write
    pub ended : stage life writes ≡ past → is_stopped (phase account contents.registry (life_of_row account contents trail)) ≡ true
