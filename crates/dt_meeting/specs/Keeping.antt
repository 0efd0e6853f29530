-- What a processor keeps track of that holds no lock, and so doesn't know whether a seat's writes are in order.
use Rattle.std.specs.Prelude.{◌≡◌, ◌+◌, ◌++◌, ◌∷◌, ℕ, Bool, List, [], Contains}
use mathlib.Core.List.{IsPrefix}
use Rattle.dt_chain.specs.Writes.{Write, published}
use Rattle.dt_cred.specs.declared.account.Account.{Account}
use Rattle.dt_legal.specs.Rows.{AreOfEcbs, IsGoAfter, IsLegalRow}
use Rattle.dt_machine.specs.Registry.{Contents}
use Rattle.dt_meeting.specs.Order.{IsInOrder}
use Rattle.dt_meeting.specs.Tracking.{Tracks}
use Rattle.dt_trail.specs.Items.{StartsWith, TrailItem, own, whose}

module _ (account : Account) (contents : Contents) where
  -- The `go` that a row has accepted is published: these writes have a publication of the seat's life, for its account, with exactly the probes of its ECBs.
  abbrev pub GoIsPublished : (seat life : ℕ) → List TrailItem → List Write → Type 0
  GoIsPublished seat life row writes = (before : List TrailItem) (item : TrailItem) → StartsWith row (before ++ item ∷ []) → whose item ≡ 0
      → IsGoAfter account contents before item
      → (probes : List Bool) × Contains writes (published seat life account probes) × AreOfEcbs account contents before probes

  -- A processor keeps track of a life, as far as the seat's writes are in order. Its note has these of its own firings (`mine`). Where all writes of the seat begin with those
  -- that it has seen, and are in order for a legal trail that begins with what it knows and has just the firings of its note, it tracks the life by what it has seen and knows.
  -- It may be told items with no lock in hand, and then can't know that they have no other firing of its own. A trail that has another isn't spoken of.
  abbrev pub KeepsTrack : (cpu life : ℕ) → (seen : List Write) → (known mine : List TrailItem) → (knew : List ℕ) → Type 0
  KeepsTrack cpu life seen known mine knew = (writes : List Write) (trail : List TrailItem) → IsPrefix seen writes
      → StartsWith trail known → own (cpu + 1) trail ≡ mine → IsLegalRow account contents trail
      → IsInOrder account contents life writes trail → Tracks account contents cpu life seen known knew
