use Rattle.std.proofs.Common.{◌≡◌, ◌∙◌, List, true, sym, subst}
use Rattle.nq_clause.specs.declared.substitution.Pair.{Pair}
use Rattle.nq_clause.specs.Substitution.{substitution_at}
use Rattle.nq_proof.specs.Rules.{is_substitution}
use Rattle.nq_kernel.proofs.GrowingLemmas.{WorkGrows-refl}
use Rattle.nq_tactic.proofs.TacticLemmas.{pairs_in}
use Rattle.nq_tactic.proofs.uses.used.Goals as goal

pub returns-then-not-are_distinct_variables-clause-grows : goal.returns-then-not-are_distinct_variables-clause-grows
returns-then-not-are_distinct_variables-clause-grows c = WorkGrows-refl c.args.history.now c.args.work.now c.requires.stands

pub used_at-requires-clause-pairs : goal.used_at-requires-clause-pairs
used_at-requires-clause-pairs c =
    let distinct : is_substitution (substitution_at c.args.work.now.bank c.as_slice.result.now) ≡ true = sym c.are_distinct_variables.ensures ∙ c.if-not-are_distinct_variables.false in
    pairs_in c.args.history.now c.args.work.now c.args.instance.now.pairs.items c.requires.instance.pairs c.requires.pairs
    (subst (λ (xs : List Pair). is_substitution (substitution_at c.args.work.now.bank xs) ≡ true) c.as_slice.ensures.value distinct)
