use Rattle.std.proofs.Common.{◌∙◌}
use Rattle.nq_bank.specs.Content.{text_at}
use Rattle.nq_kernel.proofs.GrowingLemmas.{WorkGrows-trans}
use Rattle.nq_lines.proofs.TermLemmas.{term_grown, same_term_grown}
use Rattle.nq_schemes.proofs.SizeLemmas.{ordinal_kept, variable_shallow}
use Rattle.nq_schemes.proofs.bases.ordinal_of_size.Goals as goal

pub ordinal_line-requires-clause-term : goal.ordinal_line-requires-clause-term
ordinal_line-requires-clause-term c = term_grown c.args.history.now c.args.work.now c.size_of.new.work c.args.whole.variable c.requires.stands c.size_of.ensures.grows c.requires.whole.term

pub ordinal_line-requires-clause-shallow : goal.ordinal_line-requires-clause-shallow
ordinal_line-requires-clause-shallow c = variable_shallow c.size_of.new.work c.args.whole.variable (text_at c.args.work.now.bank c.args.whole.name) (same_term_grown c.args.history.now c.args.work.now c.size_of.new.work c.args.whole.variable c.size_of.ensures.grows c.requires.whole.term ∙ c.requires.whole.names)

pub returns-in_err-line-clause-grows : goal.returns-in_err-line-clause-grows
returns-in_err-line-clause-grows c = WorkGrows-trans c.args.history.now c.args.work.now c.size_of.new.work c.ordinal_line.new.work c.size_of.ensures.grows c.ordinal_line.ensures.grows

pub returns-clause-grows : goal.returns-clause-grows
returns-clause-grows c = WorkGrows-trans c.args.history.now c.args.work.now c.size_of.new.work c.ordinal_line.new.work c.size_of.ensures.grows c.ordinal_line.ensures.grows

pub returns-clause-ordinal : goal.returns-clause-ordinal
returns-clause-ordinal c = record {
  term = term_grown c.args.history.now c.size_of.new.work c.ordinal_line.new.work c.in_ok-term.term c.size_of.ensures.grows.stands c.ordinal_line.ensures.grows c.in_ok-term.ensures.over;
  line = ordinal_kept c.args.history.now c.args.work.now c.size_of.new.work c.ordinal_line.new.work c.args.whole.variable c.in_ok-term.term c.in_ok-line.line c.size_of.ensures.grows c.ordinal_line.ensures.grows c.requires.whole.term c.in_ok-term.ensures.over c.in_ok-term.ensures.size c.in_ok-line.ensures.line;
}
