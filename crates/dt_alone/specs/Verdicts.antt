-- The verdict on a trail.
use Rattle.std.specs.Prelude.{◌≡◌, ℕ, ◌+◌, List, ◌∷◌, ◌++◌, Some, length, reverse}
use Rattle.dt_cred.specs.declared.account.Account.{Account}
use Rattle.dt_machine.specs.Registry.{Registry, Contents}
use Rattle.dt_proto.specs.Session.{session_account}
use Rattle.dt_proto.specs.Trail.{WrittenItem, replies_of, SpellsTrail}
use Rattle.dt_proto.specs.Legal.{Agrees, MayStand, IsRight}
use Rattle.dt_alone.specs.declared.verdict.Verdict.{Verdict}
use Rattle.dt_alone.specs.declared.verdict.Verdict.TheVariants.{Agree, Differs, Illegal}

-- how many items have replies
abbrev pub replies_in : List WrittenItem → ℕ
replies_in items = length (replies_of items)

module _ (account : Account) (contents : Contents) where
  -- The verdict on items, the oldest first: they agree; or the first that may not stand, or whose reply is not the
  -- one that is due.
  abbrev pub IsTrailVerdict : List WrittenItem → Verdict → Type 0
  IsTrailVerdict items (Agree n) = Agrees account contents (reverse items) × (n ≡ replies_in items)
  IsTrailVerdict items (Differs k) = (before later : List WrittenItem) × (item : WrittenItem)
      × (items ≡ before ++ (item ∷ later)) × Agrees account contents (reverse before)
      × MayStand account contents (reverse before) item × (IsRight account contents (reverse before) item → ⊥)
      × (k ≡ replies_in before + 1)
  IsTrailVerdict items (Illegal k) = (before later : List WrittenItem) × (item : WrittenItem)
      × (items ≡ before ++ (item ∷ later)) × Agrees account contents (reverse before)
      × (MayStand account contents (reverse before) item → ⊥) × (k ≡ length before + 1)

-- The verdict on a text: it is the trail of a session on the machine, and this is the verdict on its items.
abbrev pub IsVerdictOn : Contents → List ℕ → Verdict → Type 0
IsVerdictOn contents text verdict = (name : List ℕ) × (account : Account) × (items : List WrittenItem)
    × SpellsTrail text name items × (session_account contents.registry name ≡ Some account)
    × IsTrailVerdict account contents items verdict

-- The text is the trail of a session on the machine.
abbrev pub IsTrail : Registry → List ℕ → Type 0
IsTrail registry text = (name : List ℕ) × (account : Account) × (items : List WrittenItem)
    × SpellsTrail text name items × (session_account registry name ≡ Some account)
