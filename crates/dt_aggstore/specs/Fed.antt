-- What a part of a key gives to a hash: a number as it is, a text as one run of bytes.
use Rattle.std.specs.Prelude.{[], ◌∷◌}
use Rattle.std.specs.Hash as fed
use Rattle.dt_aggstore.specs.declared.key.KeyPart.{KeyPart}
use Rattle.dt_aggstore.specs.declared.key.KeyPart.TheVariants.{Number, Text}

abbrev pub part_fed : KeyPart → fed.HashWrites
part_fed (Number number) = fed.i64 number
part_fed (Text bytes) = bytes ∷ []
