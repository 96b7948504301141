use Rattle.std.proofs.Common.{◌≡◌, Option, ap, subst}
use Rattle.std.specs.Prelude.{is_some, IfOk}
use Rattle.nq_proof.specs.Clauses.{Clause}
use Rattle.nq_kernel.specs.Meaning.{clause_at}
use Rattle.nq_quick.proofs.LineLemmas.{grown_refl, opposites_given, opposites_shallow}
use Rattle.nq_quick.proofs.InLemmas.{opposites_in}
use Rattle.nq_quick.proofs.lines.add_opposites.Goals as goal

pub add_line-requires-clause-allowed : goal.add_line-requires-clause-allowed
add_line-requires-clause-allowed c = ap is_some (opposites_given c.args.history.now c.args.work.now c.in_ok-terms.terms c.args.t c.args.denied c.in_ok-terms.ensures.items c.requires.denied)

pub add_line-requires-clause-shallow : goal.add_line-requires-clause-shallow
add_line-requires-clause-shallow c = opposites_shallow c.args.history.now c.args.work.now c.in_ok-terms.terms c.args.t c.args.denied c.in_ok-terms.ensures.items c.is_sound.ensures c.requires.term c.requires.denied

pub returns-clause-line : goal.returns-clause-line
returns-clause-line c =
    let P : Option Clause → Type 0 = λ o. IfOk c.add_line.result (λ n. clause_at c.add_line.new.work.bank c.add_line.new.work.log n ≡ o) in
    subst P (opposites_given c.args.history.now c.args.work.now c.in_ok-terms.terms c.args.t c.args.denied c.in_ok-terms.ensures.items c.requires.denied) c.add_line.ensures.line

pub add_line-requires-clause-over : goal.add_line-requires-clause-over
add_line-requires-clause-over c = opposites_in c.args.work.now.bank c.args.history.now c.in_ok-terms.terms c.args.t c.args.denied c.in_ok-terms.ensures.items c.requires.denied c.requires.over

pub returns-in_err-terms-clause-grows : goal.returns-in_err-terms-clause-grows
returns-in_err-terms-clause-grows c = grown_refl c.args.history.now c.args.work.now c.requires.stands
