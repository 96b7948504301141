use Rattle.std.proofs.Common.{sym, subst}
use Rattle.std.specs.Prelude.{All}
use Rattle.nq_bank.proofs.Standing.{All-push}
use Rattle.nq_lines.specs.Lines.{IsTermIn}
use Rattle.nq_schemes.proofs.GrownLemmas.{terms_grown}
use Rattle.nq_schemes.proofs.starting.fall_line.Goals as goal

pub returns-clause-literals : goal.returns-clause-literals
returns-clause-literals c = subst (All (IsTermIn c.args.history.now c.denial_of.new.work)) (sym c.in_ok-add_literal.ensures.more) (All-push (IsTermIn c.args.history.now c.denial_of.new.work) c.args.literals.now.items c.in_ok-fact.fact.term (terms_grown c.args.history.now c.args.work.now c.denial_of.new.work c.requires.stands c.denial_of.ensures.grows c.args.literals.now.items c.requires.literals) c.in_ok-fact.ensures.denied.term)
