use Rattle.nq_kernel.proofs.GrowingLemmas.{WorkGrows-trans}
use Rattle.nq_lines.proofs.TermLemmas.{term_grown}
use Rattle.nq_lines.proofs.LineLemmas.{line_grown}
use Rattle.std.proofs.Common.{subst, ◌∷◌}
use Rattle.std.specs.Prelude.{IfSome}
use Rattle.nq_bank.specs.Content.{term_at, terms_at}
use Rattle.nq_lines.specs.Lines.{LineHasOnly}
use Rattle.nq_reduce.specs.Rewriting.{denials}
use Rattle.nq_reduce.proofs.RewritingLemmas.{can_grown}
use Rattle.nq_reduce.proofs.ShellLemmas.{led_shown, led_drops}
use Rattle.nq_reduce.proofs.cases.led_by.Goals as goal

pub led_by_line-requires-clause-can : goal.led_by_line-requires-clause-can
led_by_line-requires-clause-can c = can_grown c.args.history.now c.args.work.now c.case_line.new.work c.case_line.ensures.grows c.args.assumed.now c.args.t c.requires.can

pub led_by_line-requires-clause-kept : goal.led_by_line-requires-clause-kept
led_by_line-requires-clause-kept c = term_grown c.args.history.now c.args.work.now c.case_line.new.work c.args.kept c.requires.can.stands c.case_line.ensures.grows c.requires.kept

pub led_by_line-requires-clause-line : goal.led_by_line-requires-clause-line
led_by_line-requires-clause-line c = line_grown c.args.history.now c.args.work.now c.case_line.new.work c.args.line c.requires.can.stands c.case_line.ensures.grows c.requires.line

pub led_by_line-requires-clause-shown : goal.led_by_line-requires-clause-shown
led_by_line-requires-clause-shown c = led_shown c.args.history.now c.args.work.now c.case_line.new.work c.case_line.ensures.grows c.args.assumed.now c.args.kept c.args.t c.in-Some.shown c.requires.can c.requires.kept (subst (λ o. IfSome o (λ n. LineHasOnly c.case_line.new.work n ((term_at c.args.work.now.bank c.args.kept) ∷ denials ((term_at c.args.work.now.bank c.args.t) ∷ (terms_at c.args.work.now.bank c.args.assumed.now))))) c.in-Some.is c.in_ok-shown.ensures.line)

pub returns-in-Some-clause-line : goal.returns-in-Some-clause-line
returns-in-Some-clause-line c = led_drops c.args.history.now c.args.work.now c.case_line.new.work c.led_by_line.new.work c.case_line.ensures.grows c.args.assumed.now c.args.kept c.args.t c.args.line c.led_by_line.result c.requires.can c.requires.kept c.led_by_line.ensures.line

pub returns-in-Some-clause-grows : goal.returns-in-Some-clause-grows
returns-in-Some-clause-grows c = WorkGrows-trans c.args.history.now c.args.work.now c.case_line.new.work c.led_by_line.new.work c.case_line.ensures.grows c.led_by_line.ensures.grows
