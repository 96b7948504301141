use Rattle.std.proofs.Common.{◌∙◌, sym, ap, subst}
use Rattle.std.specs.Prelude.{All}
use Rattle.nq_bank.specs.Content.{Stands, terms_at}
use Rattle.nq_proof.specs.Clauses.{distinct}
use Rattle.nq_moves.proofs.ClosingLemmas.{all_stand}
use Rattle.nq_moves.proofs.GeneralizedLemmas.{three_ok}
use Rattle.nq_moves.specs.Ways.{IsMove}
use Rattle.nq_moves.proofs.GeneralizedLemmas.{one_child_leads, renamed_move}
use Rattle.nq_moves.proofs.generalizing.generalize_by.Goals as goal

pub distinct_clause-requires : goal.distinct_clause-requires
distinct_clause-requires c =
    subst (All (Stands c.args.work.now.bank)) (sym c.as_slice.ensures.value) (all_stand c.args.history.now c.args.work.now c.args.renaming.literals.items c.requires.renaming.literals_in)

pub returns-clause-moved : goal.returns-clause-moved
returns-clause-moved c =
    let h = c.args.history.now in
    let w = c.args.work.now in
    let is = c.in_ok-child.ensures.clause ∙ ap (λ xs. distinct (terms_at w.bank xs)) c.as_slice.ensures.value in
    three_ok c.moved_by_renaming.result _ _ _ (IsMove h w c.args.goal.now)
    (λ m kind children pairs. renamed_move h w c.args.goal.now c.args.renaming c.in_ok-child.child m c.requires.renaming c.in_ok-child.ensures.stand is kind children pairs)
    c.moved_by_renaming.ensures.kind c.moved_by_renaming.ensures.children c.moved_by_renaming.ensures.pairs

pub returns-clause-leads : goal.returns-clause-leads
returns-clause-leads c =
    let w = c.args.work.now in
    let is = c.in_ok-child.ensures.clause ∙ ap (λ xs. distinct (terms_at w.bank xs)) c.as_slice.ensures.value ∙ ap distinct c.requires.renaming.renamed in
    one_child_leads w.bank c.moved_by_renaming.result c.in_ok-child.child _ is c.moved_by_renaming.ensures.children
