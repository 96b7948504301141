use Rattle.nq_log.proofs.Readers.{reader_begins_law, reader_takes_law, reader_moves_law, reader_claims_law, reader_stops_law, reader_ends_law}
use Rattle.nq_log.proofs.reader.Goals as goal

pub returns : goal.returns
returns c = record { begins = reader_begins_law; takes = reader_takes_law; moves = reader_moves_law; claims = reader_claims_law; stops = reader_stops_law; ends = reader_ends_law }
