use Rattle.nq_logic.specs.Words.{not_term}
use Rattle.nq_bank.specs.Content.{term_at}
use Rattle.nq_rule.proofs.Made.{for_ok}
use Rattle.nq_kernel.proofs.GrowingLemmas.{WorkGrows-trans}
use Rattle.nq_lines.specs.Lines.{CutsTo, MakesOf}
use Rattle.nq_lines.proofs.LineLemmas.{line_grown, only_stands, leads_only}
use Rattle.nq_lines.proofs.TermLemmas.{term_grown}
use Rattle.nq_simplify.proofs.DenyingLemmas.{denied_twice}
use Rattle.nq_simplify.proofs.denying.deny_twice.Goals as goal

pub opposites-requires-clause-term : goal.opposites-requires-clause-term
opposites-requires-clause-term c = c.in_ok-denial.ensures.over

pub cut-requires-clause-first : goal.cut-requires-clause-first
cut-requires-clause-first c = line_grown c.args.history.now c.args.work.now c.opposites.new.work c.args.line c.requires.stands (WorkGrows-trans c.args.history.now c.args.work.now c.deny.new.work c.opposites.new.work c.deny.ensures.grows c.opposites.ensures.grows) c.requires.line

pub cut-requires-clause-second : goal.cut-requires-clause-second
cut-requires-clause-second c = only_stands c.opposites.new.work c.in_ok-law.law _ (leads_only c.opposites.new.work c.in_ok-law.law _ _ c.in_ok-law.ensures.line)

pub cut-requires-clause-term : goal.cut-requires-clause-term
cut-requires-clause-term c = term_grown c.args.history.now c.args.work.now c.opposites.new.work c.args.p c.requires.stands (WorkGrows-trans c.args.history.now c.args.work.now c.deny.new.work c.opposites.new.work c.deny.ensures.grows c.opposites.ensures.grows) c.requires.term

pub returns-in_err-law-clause-grows : goal.returns-in_err-law-clause-grows
returns-in_err-law-clause-grows c = (WorkGrows-trans c.args.history.now c.args.work.now c.deny.new.work c.opposites.new.work c.deny.ensures.grows c.opposites.ensures.grows)

pub returns-clause-grows : goal.returns-clause-grows
returns-clause-grows c = (WorkGrows-trans c.args.history.now c.args.work.now c.deny.new.work c.cut.new.work c.deny.ensures.grows (WorkGrows-trans c.args.history.now c.deny.new.work c.opposites.new.work c.cut.new.work c.opposites.ensures.grows c.cut.ensures.grows))

pub returns-clause-line : goal.returns-clause-line
returns-clause-line c =
    for_ok c.cut.result (CutsTo c.opposites.new.work c.cut.new.work (term_at c.opposites.new.work.bank c.args.p) c.args.line c.in_ok-law.law) (MakesOf c.args.work.now c.cut.new.work (term_at c.args.work.now.bank c.args.p) (not_term (not_term (term_at c.args.work.now.bank c.args.p))) c.args.line)
    (λ n cuts. denied_twice c.args.history.now c.args.work.now c.deny.new.work c.opposites.new.work c.cut.new.work c.args.p c.in_ok-denial.denial c.args.line c.in_ok-law.law n c.requires.stands c.deny.ensures.grows (WorkGrows-trans c.args.history.now c.args.work.now c.deny.new.work c.opposites.new.work c.deny.ensures.grows c.opposites.ensures.grows) c.requires.term c.in_ok-denial.ensures.denied c.in_ok-law.ensures.line cuts) c.cut.ensures.line
