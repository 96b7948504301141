use Rattle.std.proofs.Common.{subst, sym}
use Rattle.std.specs.Prelude.{All}
use Rattle.nq_bank.proofs.Standing.{All-push}
use Rattle.nq_lines.specs.Lines.{IsTermIn}
use Rattle.nq_arithmetic.proofs.Lemmas.{all_grown}
use Rattle.nq_arithmetic.proofs.making.make_next.Goals as goal

pub make-requires-clause-terms : goal.make-requires-clause-terms
make-requires-clause-terms c = subst (All (IsTermIn c.args.history.now c.args.work.now)) (sym c.as_slice.ensures.value) c.requires.terms

pub returns-clause-terms : goal.returns-clause-terms
returns-clause-terms c = subst (All (IsTermIn c.args.history.now c.make.new.work)) (sym c.in_ok-push_term.ensures.ok) (All-push (IsTermIn c.args.history.now c.make.new.work) c.args.terms.now.items c.in_ok-t.t (all_grown c.args.history.now c.args.work.now c.make.new.work c.requires.stands c.make.ensures.grows c.args.terms.now.items c.requires.terms) c.in_ok-t.ensures.term)
