use Rattle.std.proofs.Common.{sym, subst}
use Rattle.std.specs.Prelude.{All, IsTrue, false}
use Rattle.std.proofs.Common.{◌≡◌}
use Rattle.nq_logic.specs.Values.{is_value}
use Rattle.nq_bank.specs.Content.{term_at}
use Rattle.nq_clause.specs.Substitution.{substitution_at, PairStands}
use Rattle.nq_proof.specs.Rules.{is_substitution}
use Rattle.nq_kernel.proofs.GrowingLemmas.{WorkGrows-refl}
use Rattle.nq_moves.proofs.NamingLemmas.{namings_stand}
use Rattle.nq_moves.proofs.naming.rename_by.Goals as goal

pub are_usable-requires : goal.are_usable-requires
are_usable-requires c = subst (All (PairStands c.args.work.now.bank)) (sym c.as_slice.ensures.value) (namings_stand c.args.history.now c.args.work.now c.args.literals.now c.args.pairs.items c.requires.pairs)

pub rename_with-requires-clause-distinct : goal.rename_with-requires-clause-distinct
rename_with-requires-clause-distinct c = subst (λ ps. IsTrue (is_substitution (substitution_at c.args.work.now.bank ps))) c.as_slice.ensures.value (c.are_usable.ensures.distinct c.if-are_usable.true)

pub rename_with-requires-clause-values : goal.rename_with-requires-clause-values
rename_with-requires-clause-values c = subst (All (λ p. is_value (term_at c.args.work.now.bank p.term) ≡ false)) c.as_slice.ensures.value (c.are_usable.ensures.values c.if-are_usable.true)

pub returns-else-are_usable-clause-grows : goal.returns-else-are_usable-clause-grows
returns-else-are_usable-clause-grows c = WorkGrows-refl c.args.history.now c.args.work.now c.requires.stands
