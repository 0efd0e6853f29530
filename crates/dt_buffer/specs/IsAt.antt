-- When a buffer is at the end of a past: it then shows what the definitions say of that past.
use Rattle.std.specs.Prelude.{◌≡◌, ℕ}
use Rattle.dt_buffer.specs.History.{BufferPast, attempts, ordinary, of_end, since_swap}
use Rattle.dt_buffer.specs.Stores.{SwitchIsAt, FillIsAt, RingIsAt}
use Rattle.dt_buffer.specs.declared.policy.Policy.TheVariants.{Switch as SwitchPolicy, Fill as FillPolicy, Ring as RingPolicy}
use Rattle.dt_buffer.specs.declared.principal.Principal.{Principal}
use Rattle.dt_buffer.specs.declared.principal.Store.{Store}
use Rattle.dt_buffer.specs.declared.principal.Store.TheVariants.{Switch, Fill, Ring}

abbrev pub StoreIsAt : BufferPast → Store → Type 0
StoreIsAt past (Switch store) = (past.policy ≡ SwitchPolicy) × SwitchIsAt past.size (since_swap past.events) store
StoreIsAt past (Fill store) =
    (past.policy ≡ FillPolicy) × FillIsAt past.size past.reserve (ordinary past.events) (of_end past.events) store
StoreIsAt past (Ring store) = (past.policy ≡ RingPolicy) × RingIsAt past.size (attempts past.events) store

-- A buffer is at the end of a past: its store is that of the past's policy, and holds what came.
abbrev pub BufferIsAt : BufferPast → Principal → Type 0
BufferIsAt past principal = StoreIsAt past principal.store

abbrev drops_in : Store → ℕ
drops_in (Switch store) = store.drops
drops_in (Fill store) = 0
drops_in (Ring store) = store.drops

-- how many drops a buffer counts
abbrev pub drops_of : Principal → ℕ
drops_of principal = drops_in principal.store
