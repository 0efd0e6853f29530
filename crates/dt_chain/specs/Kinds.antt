-- What a write says, from how it is kept.
use Rattle.dt_machine.specs.Interest.{flags_of}
use Rattle.dt_chain.specs.Writes.{Write, published, withdrawn}
use Rattle.dt_chain.specs.declared.write.StoredWrite.{StoredWrite}
use Rattle.dt_chain.specs.declared.write.StoredWrite.TheVariants.{Publication, Withdrawal}

abbrev pub write_of : StoredWrite → Write
write_of (Publication it) = published it.seat it.life it.account (flags_of it.interest.value)
write_of (Withdrawal seat) = withdrawn seat
