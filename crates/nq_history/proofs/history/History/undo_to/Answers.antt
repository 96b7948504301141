use Rattle.std.proofs.Common.{◌≤◌, length, sym, ◌∙◌, subst}
use Rattle.nq_history.specs.Functions.{functions_of}
use Rattle.nq_history.proofs.IndexLemmas.{index_holds}
use Rattle.nq_history.proofs.history.History.undo_to.Goals as goal

pub keep-requires : goal.keep-requires
keep-requires c =
    let index = c.self.inside.index in
    subst (λ xs. length (functions_of xs) ≤ length index.functions) (sym (c.as_slice.ensures.value ∙ c.truncate.ensures.items)) (index_holds c.self.inside.entries.items c.args.kept index c.self.invariant.1)
