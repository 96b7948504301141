use Rattle.nq_log.proofs.Streams.{line_moves_law, text_ends_law, nothing_follows_law, line_is_read_law, no_line_is_read_law}
use Rattle.nq_log.proofs.line_by_line.Goals as goal

pub returns : goal.returns
returns c = record { moves = line_moves_law; ends = text_ends_law; nothing_follows = nothing_follows_law; read = line_is_read_law; not_read = no_line_is_read_law }
