use Rattle.std.proofs.Common.{[], ◌∷◌, ◌++◌, take, sym, ap, ◌∙◌, subst}
use Rattle.std.proofs.lemmas.List.{take_more}
use Rattle.nq_history.specs.Functions.{IsIndexOf}
use Rattle.nq_history.proofs.index.index_of.Goals as goal

pub loop-e-preserved : goal.loop-e-preserved
loop-e-preserved c =
    let es = c.args.entries.now in
    let i = c.loop-e.e-index in
    let e = c.e-item.result in
    subst (λ xs. IsIndexOf xs c.add.new.self) (sym (take_more es i e c.loop-e-test.true ∙ ap (λ x. take i es ++ x ∷ []) (sym c.e-item.is))) (c.in_ok-add.ensures.ok (take i es) c.loop-e.invariant)
