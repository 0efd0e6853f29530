-- What a look names, as a test and a function.
use Rattle.std.specs.Prelude.{ℕ, ◌&&◌, Bool, false, List, Option, Some, None, slice_get, unwrap_or, option_and_then}
use Rattle.std.specs.Prelude.{if◌then◌else◌}
use Rattle.dt_machine.specs.Registry.{Registry}
use Rattle.dt_cred.specs.declared.firing.Firing.{Firing}
use Rattle.dt_chain.specs.Writes.{Write, Published, published_on}
use Rattle.dt_machine.specs.Tests.{belongs, is_shown}

-- the publication names the firing
unfoldable pub is_named : Registry → Published → Firing → Bool
is_named registry publication firing =
    belongs registry firing && (unwrap_or (slice_get publication.probes firing.probe) false
    && is_shown publication.account registry firing)

-- what a look names after these writes: the life of each seat whose publication names the firing
unfoldable pub mask_of : Registry → List Write → Firing → ℕ → Option ℕ
mask_of registry writes firing seat = option_and_then
    (λ publication. if is_named registry publication firing then Some publication.life else None) (published_on writes seat)
