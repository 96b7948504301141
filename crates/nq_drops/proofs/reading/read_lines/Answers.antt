use Rattle.std.proofs.Common.{map}
use Rattle.std.specs.Option.{option_map}
use Rattle.nq_logtext.specs.Views.{view}
use Rattle.nq_log.specs.Logs.{cut_lines}
use Rattle.nq_drops.specs.Texts.{lines_found}
use Rattle.nq_drops.proofs.TextLemmas.{line_more, all_read}
use Rattle.nq_drops.proofs.reading.read_lines.Goals as goal

pub lines-preserved : goal.lines-preserved
lines-preserved c =
    line_more (map view c.lines.lines.items) (map view c.keep.new.lines.items) (lines_found (cut_lines c.args.text.now).0) (option_map view c.in_ok-line.line) c.lines.rest.now c.in-Some.cut.line.now c.in-Some.cut.rest.now
    c.in-Some.ensures.0 c.in-Some.ensures.1 c.in_ok-line.ensures c.in_ok-keep.ensures c.lines.invariant

pub returns : goal.returns
returns c = all_read (map view c.lines.lines.items) (lines_found (cut_lines c.args.text.now).0) c.lines.rest.now c.in_default.ensures c.lines.invariant
