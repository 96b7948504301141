use Rattle.std.proofs.Common.{◌∙◌, [], ◌∷◌, ◌++◌, List, sym, ap, subst}
use Rattle.std.specs.Prelude.{All}
use Rattle.nq_bank.specs.declared.node.TermId.{TermId}
use Rattle.nq_bank.specs.Content.{Stands, term_at, terms_at}
use Rattle.nq_bank.proofs.Standing.{All-push}
use Rattle.nq_moves.proofs.ClosingLemmas.{all_stand}
use Rattle.nq_moves.proofs.EliminatedLemmas.{clause_ok, hypothesis_over, over_ok, terms_more}
use Rattle.nq_moves.proofs.eliminating.hypothesis_child.Goals as goal

pub distinct_clause-requires : goal.distinct_clause-requires
distinct_clause-requires c =
    let h = c.args.history.now in
    let w = c.args.work.now in
    let ids : List TermId = c.args.goal.now in
    subst (All (Stands w.bank)) (sym (c.as_slice.ensures.value ∙ c.in_ok-literals.ensures.ok)) (All-push (Stands w.bank) ids c.args.hypothesis (all_stand h w ids c.requires.goal) c.requires.hypothesis.stands)

pub returns-clause-child : goal.returns-clause-child
returns-clause-child c =
    let bank = c.args.work.now.bank in
    let told = ap (terms_at bank) (c.as_slice.ensures.value ∙ c.in_ok-literals.ensures.ok) ∙ terms_more bank c.args.goal.now c.args.hypothesis in
    clause_ok bank c.distinct_clause.result c.as_slice.result.now (terms_at bank c.args.goal.now ++ (term_at bank c.args.hypothesis ∷ [])) told c.distinct_clause.ensures.clause

pub returns-clause-over : goal.returns-clause-over
returns-clause-over c =
    let h = c.args.history.now in
    let w = c.args.work.now in
    let told = ap (terms_at w.bank) (c.as_slice.ensures.value ∙ c.in_ok-literals.ensures.ok) ∙ terms_more w.bank c.args.goal.now c.args.hypothesis in
    over_ok h w c.distinct_clause.result c.as_slice.result.now (terms_at w.bank c.args.goal.now ++ (term_at w.bank c.args.hypothesis ∷ [])) told (hypothesis_over h w c.args.goal.now c.args.hypothesis c.requires.goal c.requires.hypothesis) c.distinct_clause.ensures.clause c.distinct_clause.ensures.stand
