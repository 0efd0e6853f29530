-- What a processor keeps track of at a seat, as it fires and as it is told, until a session meets it.
use Rattle.std.specs.Prelude.{◌≡◌, ◌≤◌, ◌<◌, ◌+◌, ◌++◌, ◌∷◌, ◌==◌, ◌⊎◌, ℕ, List, [], IfSome, length, if◌then◌else◌}
use Rattle.std.specs.Option.{option_map_or}
use Rattle.dt_chain.specs.Writes.{Write, writes_of}
use Rattle.dt_cred.specs.declared.account.Account.{Account}
use Rattle.dt_facts.specs.Lives.{IsRowOfLife}
use Rattle.dt_facts.specs.declared.fact.LifeStep.{LifeStep}
use Rattle.dt_machine.specs.Registry.{Contents}
use Rattle.dt_meeting.specs.Keeping.{KeepsTrack}
use Rattle.dt_seat.specs.Keeps.{Followed, IsEarlier, known_of, noted_of, over_of}
use Rattle.dt_trail.specs.Items.{own}
use Rattle.dt_trail.specs.declared.law.Named.{Named}

-- which life of a seat a processor knows of last, by what it was told or by its note
abbrev pub known_life : Followed → ℕ
known_life f = option_map_or (λ t. t.life) f.told (option_map_or (λ last. last.life) f.took 0)

-- how many items of a life a processor knows, if it is the one that it knows of last
abbrev pub count_of : Followed → ℕ → ℕ
count_of f life = if known_life f == life then length (known_of life f) else 0

-- how many items of each life a processor knew at each place that it fired, with one place more
abbrev pub counts_with : (ℕ → List ℕ) → Followed → ℕ → List ℕ
counts_with knew f life = knew life ++ count_of f life ∷ []

-- The life may be of this account: no other is known to be its.
abbrev pub IsAllowed : (life : ℕ) → Account → List LifeStep → Type 0
IsAllowed life account lives = (row : Named Account) → IsRowOfLife life row lives → account ≡ row.account

-- What was told is of a life that has begun, and a later one than that of the note.
abbrev pub IsToldLater : Followed → Type 0
IsToldLater f = IfSome f.told (λ t. (t.life ≤ over_of f) × IsEarlier t.life f.took)

-- A processor that knows these writes and, at each place that it fired, knew so many items of a life, keeps track of the life for an account, or the life is over.
abbrev pub IsTracked : Contents → List Write → Followed → (life : ℕ) → Account → (counts : List ℕ) → Type 0
IsTracked contents writes f life account counts = (life < over_of f)
    ⊎ KeepsTrack account contents f.cpu life (writes_of writes f.seat) (known_of life f) (own (f.cpu + 1) (noted_of life f)) counts

-- It does so for each life of the seat, and each account that the life may be of.
pub record AreTracked (contents : Contents) (writes : List Write) (knew : ℕ → List ℕ) (f : Followed) : Type 0 where
  pub orderly : IsToldLater f
  pub each : (life : ℕ) (account : Account) → IsAllowed life account f.lives → IsTracked contents writes f life account (knew life)
