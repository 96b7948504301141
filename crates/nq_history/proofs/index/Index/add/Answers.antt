use Rattle.std.proofs.Common.{take, ap, ◌∙◌}
use Rattle.nq_history.proofs.IndexLemmas.{index_push, index_back}
use Rattle.nq_history.proofs.index.Index.add.Goals as goal

pub returns-in-Ok-clause-ok : goal.returns-in-Ok-clause-ok
returns-in-Ok-clause-ok c = λ entries h. index_push entries c.args.e.now c.args.self.now c.put.new.self h c.in-Ok.ensures.ok

pub returns-in-Err-clause-err : goal.returns-in-Err-clause-err
returns-in-Err-clause-err c =
    λ entries h.
    let grown = c.put.new.self in
    index_back entries c.args.self.now grown c.truncate.new.self h c.in-Err.ensures.err
    (c.truncate.ensures.events ∙ ap (λ n. take n grown.events) c.len-events.ensures)
    (c.truncate.ensures.functions ∙ ap (λ n. take n grown.functions) c.len-functions.ensures)
    (c.truncate.ensures.arities ∙ ap (λ n. take n grown.arities.items) c.len-functions.ensures)
    (c.truncate.ensures.shells ∙ ap (λ n. take n grown.shells.items) (c.len-shells.ensures ∙ c.args.self.now.shells.ok.0))
