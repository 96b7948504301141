use Rattle.std.proofs.Common.{◌∙◌, ap, refl}
use Rattle.nq_bank.specs.Entries.{entries, AreLaid}
use Rattle.nq_bank.proofs.PageLemmas.{entries_none}
use Rattle.nq_bank.proofs.page.Page.new.Goals as goal

pub invariant_of-result : goal.invariant_of-result
unfolding AreLaid
invariant_of-result c = rw (c.in_ok-with_capacity.ensures.items, c.new.ensures.items) refl

pub returns : goal.returns
returns c = ap (λ rs. entries c.new.result.items 0 rs) c.in_ok-with_capacity.ensures.items ∙ entries_none c.new.result.items 0
