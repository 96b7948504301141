use Rattle.std.proofs.Common.{◌≤◌, [], ◌∷◌, ◌++◌, length, sym, ◌∙◌, subst}
use Rattle.std.proofs.Math.Seq.{take-append_seam}
use Rattle.nq_history.specs.Functions.{functions_of}
use Rattle.nq_history.proofs.IndexLemmas.{index_holds}
use Rattle.nq_history.proofs.history.History.add.Goals as goal

pub keep-requires : goal.keep-requires
keep-requires c =
    let es = c.self.inside.entries.items in
    let more = c.args.entry ∷ [] in
    let index = c.add.new.self in
    subst (λ xs. length (functions_of xs) ≤ length index.functions) (sym (c.as_slice.ensures.value ∙ c.in-Err-push.ensures.items ∙ sym (take-append_seam es more)))
    (index_holds (es ++ more) (length es) index (c.in-Ok.ensures.ok es c.self.invariant.1))
