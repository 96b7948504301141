use Rattle.std.proofs.Common.{ap, ◌∙◌}
use Rattle.nq_bank.specs.Paging.{joined}
use Rattle.nq_bank.proofs.PagingLemmas.{joined_none}
use Rattle.nq_bank.proofs.pages.Pages.new.Goals as goal

pub returns : goal.returns
returns c = ap joined c.new.ensures.items ∙ joined_none
