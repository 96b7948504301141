use Rattle.std.proofs.Common.{◌≡◌, ◌∙◌, length, map, sym, ap, subst}
use Rattle.std.specs.Prelude.{Vec}
use Rattle.std.specs.declared.alloc.Global.{Global}
use Rattle.nq_logic.specs.Terms.{Variable}
use Rattle.nq_bank.specs.declared.node.TermId.{TermId}
use Rattle.nq_bank.specs.Content.{terms_at}
use Rattle.nq_clause.specs.Substitution.{substitution_at}
use Rattle.nq_goals.specs.NewVariables.{clause_variables, new_variables}
use Rattle.nq_kernel.specs.Over.{pair_names}
use Rattle.nq_kernel.proofs.GrowingLemmas.{WorkGrows-trans}
use Rattle.nq_lines.specs.Instances.{ArePairsIn}
use Rattle.nq_rule.proofs.Made.{for_ok}
use Rattle.nq_eliminate.proofs.naming.new_variables.Goals as goal

pub variables_of_pairs-requires-clause-pairs : goal.variables_of_pairs-requires-clause-pairs
variables_of_pairs-requires-clause-pairs c = subst (ArePairsIn c.args.history.now c.rename_new.new.work) (sym c.as_slice.ensures.value) c.in_ok-renaming.ensures.renaming.over

pub returns-clause-are : goal.returns-clause-are
returns-clause-are c =
    let old = c.args.work.now in
    let mid = c.rename_new.new.work in
    let new = c.variables_of_pairs.new.work in
    for_ok c.variables_of_pairs.result (λ (v : Vec TermId Global). terms_at new.bank v.items ≡ map Variable (pair_names (substitution_at mid.bank c.as_slice.result.now)))
    (λ (v : Vec TermId Global). terms_at new.bank v.items ≡ map Variable (new_variables (clause_variables (terms_at old.bank c.args.goal.now)) (length c.args.others.now)))
    (λ v is. is ∙ ap (map Variable) (ap (λ ps. pair_names (substitution_at mid.bank ps)) c.as_slice.ensures.value ∙ c.in_ok-renaming.ensures.names)) c.variables_of_pairs.ensures.are

pub returns-clause-grows : goal.returns-clause-grows
returns-clause-grows c = WorkGrows-trans c.args.history.now c.args.work.now c.rename_new.new.work c.variables_of_pairs.new.work c.rename_new.ensures.grows c.variables_of_pairs.ensures.grows
