-- What a session published.
use Rattle.std.specs.Prelude.{◌≡◌, ◌++◌, ◌∷◌, ℕ, Bool, List, [], Option, Some, None, Contains}
use Rattle.dt_chain.specs.Writes.{Write, published}
use Rattle.dt_cred.specs.declared.account.Account.{Account}
use Rattle.dt_legal.specs.Rows.{AreOfEcbs, IsGoAfter}
use Rattle.dt_machine.specs.Registry.{Contents}
use Rattle.dt_trail.specs.Items.{StartsWith, TrailItem, whose}

-- the writes that a session knows to be published: none before it published
abbrev pub writes_seen : Option (List Write) → List Write
writes_seen None = []
writes_seen (Some writes) = writes

-- A publication of a seat, for a life of it and its account, of exactly the probes that the ECBs name which the row's lines enabled.
abbrev pub IsPublicationAfter : Contents → (seat life : ℕ) → Account → List TrailItem → Write → Type 0
IsPublicationAfter contents seat life account row write =
    (probes : List Bool) × (write ≡ published seat life account probes) × AreOfEcbs account contents row probes

-- This write is the last of these.
abbrev pub EndsWith : Write → List Write → Type 0
EndsWith write writes = (before : List Write) × (writes ≡ before ++ write ∷ [])

-- For a line of the row that is a `go` and accepted, these writes have the life's publication.
abbrev pub IsPublished : Contents → (seat life : ℕ) → Account → List TrailItem → List Write → Type 0
IsPublished contents seat life account row writes =
    (before : List TrailItem) (item : TrailItem) → StartsWith row (before ++ item ∷ []) → whose item ≡ 0
    → IsGoAfter account contents before item
    → (write : Write) × Contains writes write × IsPublicationAfter contents seat life account before write
