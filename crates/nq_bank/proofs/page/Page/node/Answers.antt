use Rattle.std.proofs.Common.{◌∙◌, ap}
use Rattle.nq_bank.specs.Entries.{Stored}
use Rattle.nq_bank.proofs.page.Page.node.Goals as goal

pub returns : goal.returns
returns c = c.node_of.ensures ∙ ap (λ (e : Stored). e.node) c.laid_at.ensures
