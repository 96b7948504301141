use Rattle.std.proofs.Common.{◌≡◌, ◌∙◌}
use Rattle.nq_logic.specs.Words.{true_term}
use Rattle.nq_bank.specs.Content.{term_at}
use Rattle.nq_kernel.specs.Growing.{WorkGrows}
use Rattle.nq_kernel.proofs.GrowingLemmas.{WorkGrows-trans}
use Rattle.nq_lines.proofs.TermLemmas.{term_grown, same_term_grown}
use Rattle.nq_schemes.proofs.SizeLemmas.{ordinal_kept, truth_shallow}
use Rattle.nq_schemes.proofs.certain.ordinal_of_truth.Goals as goal

pub ordinal_line-requires-clause-term : goal.ordinal_line-requires-clause-term
ordinal_line-requires-clause-term c = term_grown c.args.history.now c.truth.new.work c.size_of.new.work c.in_ok-shown.shown c.truth.ensures.grows.stands c.size_of.ensures.grows c.in_ok-shown.ensures.over

pub ordinal_line-requires-clause-shallow : goal.ordinal_line-requires-clause-shallow
ordinal_line-requires-clause-shallow c =
    let is : term_at c.size_of.new.work.bank c.in_ok-shown.shown ≡ true_term = same_term_grown c.args.history.now c.truth.new.work c.size_of.new.work c.in_ok-shown.shown c.size_of.ensures.grows c.in_ok-shown.ensures.over ∙ c.in_ok-shown.ensures.term.denotes in
    truth_shallow c.size_of.new.work c.in_ok-shown.shown is

pub returns-in_err-term-clause-grows : goal.returns-in_err-term-clause-grows
returns-in_err-term-clause-grows c = WorkGrows-trans c.args.history.now c.args.work.now c.truth.new.work c.size_of.new.work c.truth.ensures.grows c.size_of.ensures.grows

pub returns-in_err-line-clause-grows : goal.returns-in_err-line-clause-grows
returns-in_err-line-clause-grows c =
    let g02 : WorkGrows c.args.history.now c.args.work.now c.size_of.new.work = WorkGrows-trans c.args.history.now c.args.work.now c.truth.new.work c.size_of.new.work c.truth.ensures.grows c.size_of.ensures.grows in
    WorkGrows-trans c.args.history.now c.args.work.now c.size_of.new.work c.ordinal_line.new.work g02 c.ordinal_line.ensures.grows

pub returns-clause-grows : goal.returns-clause-grows
returns-clause-grows c =
    let g02 : WorkGrows c.args.history.now c.args.work.now c.size_of.new.work = WorkGrows-trans c.args.history.now c.args.work.now c.truth.new.work c.size_of.new.work c.truth.ensures.grows c.size_of.ensures.grows in
    WorkGrows-trans c.args.history.now c.args.work.now c.size_of.new.work c.ordinal_line.new.work g02 c.ordinal_line.ensures.grows

pub returns-clause-ordinal : goal.returns-clause-ordinal
returns-clause-ordinal c = record {
  term = term_grown c.args.history.now c.size_of.new.work c.ordinal_line.new.work c.in_ok-term.term c.size_of.ensures.grows.stands c.ordinal_line.ensures.grows c.in_ok-term.ensures.over;
  line = ordinal_kept c.args.history.now c.truth.new.work c.size_of.new.work c.ordinal_line.new.work c.in_ok-shown.shown c.in_ok-term.term c.in_ok-line.line c.size_of.ensures.grows c.ordinal_line.ensures.grows c.in_ok-shown.ensures.over c.in_ok-term.ensures.over c.in_ok-term.ensures.size c.in_ok-line.ensures.line;
}
