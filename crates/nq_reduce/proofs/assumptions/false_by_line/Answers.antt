use Rattle.std.proofs.Common.{◌∷◌}
use Rattle.nq_logic.specs.Words.{not_term}
use Rattle.nq_bank.specs.Content.{term_at, terms_at}
use Rattle.nq_kernel.proofs.GrowingLemmas.{WorkGrows-trans}
use Rattle.nq_lines.proofs.LineLemmas.{only_grown, only_stands}
use Rattle.nq_lines.proofs.TermLemmas.{term_grown}
use Rattle.nq_reduce.specs.Rewriting.{denials}
use Rattle.nq_reduce.proofs.RewritingLemmas.{false_told}
use Rattle.nq_reduce.proofs.assumptions.false_by_line.Goals as goal

pub equal_false-requires-clause-term : goal.equal_false-requires-clause-term
equal_false-requires-clause-term c = term_grown c.args.history.now c.args.work.now c.falsity.new.work c.args.t c.requires.can.stands c.falsity.ensures.grows c.requires.can.term

pub equal_false-requires-clause-line : goal.equal_false-requires-clause-line
equal_false-requires-clause-line c =
    let these = not_term (term_at c.args.work.now.bank c.args.t) ∷ denials (terms_at c.args.work.now.bank c.args.assumed.now) in
    only_stands c.falsity.new.work c.args.line these (only_grown c.args.history.now c.args.work.now c.falsity.new.work c.args.line these c.requires.can.stands c.falsity.ensures.grows c.requires.line)

pub returns-in_err-n-clause-grows : goal.returns-in_err-n-clause-grows
returns-in_err-n-clause-grows c = WorkGrows-trans c.args.history.now c.args.work.now c.falsity.new.work c.equal_false.new.work c.falsity.ensures.grows c.equal_false.ensures.grows

pub returns-clause-ok : goal.returns-clause-ok
returns-clause-ok c = false_told c.args.history.now c.args.assumed.now c.args.work.now c.falsity.new.work c.equal_false.new.work c.args.t c.in_ok-f.f c.args.line c.in_ok-n.n c.falsity.ensures.grows c.equal_false.ensures.grows c.requires.can c.in_ok-f.ensures.term c.in_ok-f.ensures.over c.requires.line c.in_ok-n.ensures.line

pub returns-clause-grows : goal.returns-clause-grows
returns-clause-grows c = WorkGrows-trans c.args.history.now c.args.work.now c.falsity.new.work c.equal_false.new.work c.falsity.ensures.grows c.equal_false.ensures.grows
