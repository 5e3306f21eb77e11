use Rattle.bus_seats.specs.Turns.{record_made}
use Rattle.bus_seats.proofs.make_record.Goals as goal

-- the front of the array is the record
pub returns : goal.returns
returns c = record_made _ _ _ _ _ c.record_length-length.ensures c.write_record.ensures c.write_record.auto.bytes
