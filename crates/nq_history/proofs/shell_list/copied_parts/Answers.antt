use Rattle.std.proofs.Common.{[], ◌∷◌, ◌++◌, take, sym, ap, ◌∙◌, subst}
use Rattle.std.proofs.lemmas.List.{take_more}
use Rattle.nq_history.specs.ShellLists.{IsPartCopy, Pairwise}
use Rattle.nq_history.proofs.CopyLemmas.{pairwise_push}
use Rattle.nq_history.proofs.shell_list.copied_parts.Goals as goal

pub loop-part-preserved : goal.loop-part-preserved
loop-part-preserved c =
    let parts = c.args.parts.now in
    let i = c.loop-part.part-index in
    let part = c.part-item.result in
    subst (λ xs. Pairwise IsPartCopy xs c.push.new.self.items) (sym (take_more parts i part c.loop-part-test.true ∙ ap (λ x. take i parts ++ x ∷ []) (sym c.part-item.is)))
    (subst (Pairwise IsPartCopy (take i parts ++ part ∷ [])) (sym c.in_ok-push.ensures.items)
    (pairwise_push IsPartCopy (take i parts) c.loop-part.copies.items part c.in_ok-copy.copy c.loop-part.invariant c.in_ok-copy.ensures))
