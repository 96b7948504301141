use Rattle.std.proofs.Common.{length, sym, ap, ◌∙◌, subst, arith}
use Rattle.nq_history.specs.Functions.{functions_of, IsIndexOf}
use Rattle.nq_history.specs.ShellLists.{shells_brought}
use Rattle.nq_history.proofs.IndexLemmas.{index_take}
use Rattle.nq_history.proofs.index.Index.keep.Goals as goal

pub count_functions-functions-requires : goal.count_functions-functions-requires
count_functions-functions-requires c = omega (arith, c.requires, c.len-most.ensures)

pub returns : goal.returns
returns c =
    λ entries h is.
    let kept = c.args.kept.now in
    let old = c.args.self.now in
    let count = c.count_functions-functions.ensures ∙ ap (λ es. length (functions_of es)) is in
    let shells = c.count_shells-shells.ensures ∙ ap (λ es. length (shells_brought es)) is in
    subst (λ es. IsIndexOf es c.truncate.new.self) (sym is) (index_take entries (length kept) c.count_functions-functions.result c.count_shells-shells.result old c.truncate.new.self h count shells c.truncate.ensures.events c.truncate.ensures.functions c.truncate.ensures.arities c.truncate.ensures.shells)
