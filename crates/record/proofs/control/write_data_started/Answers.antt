use Rattle.numbers.specs.Fields.{bytes_of}
use Rattle.amf0.specs.Writing.{encode_of}
use Rattle.record.specs.Records.{data_record, data_started}
use Rattle.record.proofs.control.write_data_started.Goals as goal

-- the body is a constant: it is the row of values by computation
pub returns : goal.returns
unfolding data_started data_record encode_of bytes_of
returns c = c.write_body.ensures
