-- What a processor that knows a seat's writes and a life's items has of the places that it fired.
use Rattle.std.specs.Prelude.{◌≡◌, ◌≤◌, ◌⊎◌, ◌++◌, ◌∷◌, ℕ, List, [], Some, length}
use Rattle.std.specs.List.{AllByRecursion}
use Rattle.dt_chain.specs.Writes.{Write}
use Rattle.dt_cred.specs.declared.account.Account.{Account}
use Rattle.dt_cred.specs.declared.firing.Firing.{Firing}
use Rattle.dt_legal.specs.Rows.{IsGoAfter, IsLegalRow, AreOfEcbs}
use Rattle.dt_machine.specs.Interest.{Names}
use Rattle.dt_machine.specs.Registry.{Belongs, Contents, firing_at}
use Rattle.dt_machine.specs.Shown.{IsShown}
use Rattle.dt_meeting.specs.Sharing.{IsShared}
use Rattle.dt_meeting.specs.Stages.{Stage, never, named, past, stage}
use Rattle.dt_trail.specs.Items.{StartsWith, TrailItem, whose}

module _ (account : Account) (contents : Contents) where
  -- A `go` that is accepted after these items is announced: its life is named with exactly the probes of its ECBs, or it is past.
  abbrev pub IsAnnounced : List TrailItem → Stage → Type 0
  IsAnnounced before never = ⊥
  IsAnnounced before (named probes) = AreOfEcbs account contents before probes
  IsAnnounced before past = Unit {0}

  -- The `go` that a row has accepted is announced.
  abbrev pub GoIsAnnounced : List TrailItem → Stage → Type 0
  GoIsAnnounced row at = (before : List TrailItem) (item : TrailItem) → StartsWith row (before ++ item ∷ []) → whose item ≡ 0
      → IsGoAfter account contents before item → IsAnnounced before at

  -- A look after these writes passes the life by: it isn't named, or not with the probe of this firing, or its account isn't shown the firing.
  abbrev pub IsPassedBy : (cpu place : ℕ) → Stage → Type 0
  IsPassedBy cpu place (named probes) = (firing : Firing) → firing_at contents.scripts cpu place ≡ Some firing → Belongs contents.registry firing
      → Names probes firing.probe → IsShown account contents.registry firing → ⊥
  IsPassedBy cpu place _ = Unit {0}

  -- A processor keeps track of a life, of which it knows these items, and at each place so far knew so many. Its firings stand in a row that is shared, but for
  -- the last ones, which were made when the seat's writes had come past the life. A `go` that it knows is announced by the writes that it knows.
  pub record Tracks (cpu life : ℕ) (writes : List Write) (known : List TrailItem) (knew : List ℕ) : Type 0 where
    pub early : List ℕ
    pub late : List ℕ
    pub all : knew ≡ early ++ late
    pub shared : List TrailItem
    pub is_shared : IsShared account contents cpu known early shared
    pub few : AllByRecursion (λ count. count ≤ length known) late
    pub over : (late ≡ []) ⊎ (stage life writes ≡ past)
    pub announced : GoIsAnnounced known (stage life writes)
    pub legal : IsLegalRow account contents known
