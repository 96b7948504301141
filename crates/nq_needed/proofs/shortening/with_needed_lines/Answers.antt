use Rattle.std.proofs.Common.{◌∙◌}
use Rattle.nq_needed.proofs.KeepingLemmas.{begun_rules, begun_stands, lines_kept, log_kept}
use Rattle.nq_needed.proofs.shortening.with_needed_lines.Goals as goal

pub keep_lines-requires-clause-stands : goal.keep_lines-requires-clause-stands
keep_lines-requires-clause-stands c =
    begun_stands c.args.history.now c.args.work.bank c.new-kept.result c.requires.stands.history c.new-kept.ensures.bank (c.new-kept.ensures.log ∙ c.new.ensures) c.new-kept.ensures.known

pub keep_lines-requires-clause-rules : goal.keep_lines-requires-clause-rules
keep_lines-requires-clause-rules c = begun_rules c.args.history.now c.args.work c.new-kept.result c.new-kept.ensures.bank c.requires.legal c.requires.over

pub returns-then-is_same_line : goal.returns-then-is_same_line
returns-then-is_same_line c =
    lines_kept c.args.history.now c.args.work c.new-kept.result c.keep_lines.new.kept c.requires.stands c.new-kept.ensures.bank (c.new-kept.ensures.log ∙ c.new.ensures) c.keep_lines.ensures
    c.args.line c.number_at-n.result (c.is_same_line.ensures c.if-is_same_line.true)

pub returns-else-is_same_line : goal.returns-else-is_same_line
returns-else-is_same_line c =
    log_kept c.args.history.now c.args.work c.new-kept.result c.keep_lines.new.kept c.requires.stands c.new-kept.ensures.bank (c.new-kept.ensures.log ∙ c.new.ensures) c.keep_lines.ensures
    c.requires.legal c.requires.over c.args.line
