use Rattle.std.proofs.Common.{length}
use Rattle.nq_clause.specs.Substitution.{substitution_at}
use Rattle.nq_bank.specs.Content.{terms_at}
use Rattle.nq_proof.specs.Rules.{pair_terms}
use Rattle.nq_kernel.specs.Over.{pair_names}
use Rattle.nq_kernel.proofs.GrowingLemmas.{WorkGrows-trans}
use Rattle.nq_goals.specs.NewVariables.{clause_variables}
use Rattle.nq_moves.proofs.SwappedLemmas.{goal_in_grown}
use Rattle.nq_moves.proofs.NamingLemmas.{namings_stand}
use Rattle.nq_moves.proofs.NumberingLemmas.{kept_pairs, namings_within, new_substitution, no_values_by}
use Rattle.nq_moves.proofs.naming.rename_new.Goals as goal

pub rename_with-requires-clause-literals : goal.rename_with-requires-clause-literals
rename_with-requires-clause-literals c = goal_in_grown c.args.history.now c.args.work.now c.name_terms.new.work c.requires.stands c.name_terms.ensures.grows c.args.literals.now c.requires.literals

pub rename_with-requires-clause-pairs : goal.rename_with-requires-clause-pairs
rename_with-requires-clause-pairs c =
    namings_within c.args.history.now c.args.work.now c.name_terms.new.work c.requires.stands c.name_terms.ensures.grows c.args.known.now c.args.literals.now c.in_ok-pairs.pairs.items c.requires.known c.requires.literals c.requires.within c.in_ok-pairs.ensures.pairs

pub rename_with-requires-clause-distinct : goal.rename_with-requires-clause-distinct
rename_with-requires-clause-distinct c =
    new_substitution (substitution_at c.name_terms.new.work.bank c.in_ok-pairs.pairs.items) (clause_variables (terms_at c.args.work.now.bank c.args.known.now)) (length c.args.terms.now) c.in_ok-pairs.ensures.names

pub rename_with-requires-clause-values : goal.rename_with-requires-clause-values
rename_with-requires-clause-values c = no_values_by c.args.work.now.bank c.name_terms.new.work.bank c.in_ok-pairs.pairs.items c.args.terms.now c.in_ok-pairs.ensures.terms c.requires.values

pub returns-clause-names : goal.returns-clause-names
returns-clause-names c =
    let w = c.name_terms.new.work in
    let stand = namings_stand c.args.history.now w c.args.known.now c.in_ok-pairs.pairs.items c.in_ok-pairs.ensures.pairs in
    kept_pairs w.bank c.rename_with.new.work.bank c.in_ok-pairs.pairs c.rename_with.result pair_names _ c.rename_with.ensures.grows.bank stand c.rename_with.ensures.pairs c.in_ok-pairs.ensures.names

pub returns-clause-terms : goal.returns-clause-terms
returns-clause-terms c =
    let w = c.name_terms.new.work in
    let stand = namings_stand c.args.history.now w c.args.known.now c.in_ok-pairs.pairs.items c.in_ok-pairs.ensures.pairs in
    kept_pairs w.bank c.rename_with.new.work.bank c.in_ok-pairs.pairs c.rename_with.result pair_terms _ c.rename_with.ensures.grows.bank stand c.rename_with.ensures.pairs c.in_ok-pairs.ensures.terms

pub returns-clause-grows : goal.returns-clause-grows
returns-clause-grows c = WorkGrows-trans c.args.history.now c.args.work.now c.name_terms.new.work c.rename_with.new.work c.name_terms.ensures.grows c.rename_with.ensures.grows
