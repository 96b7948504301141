use Rattle.std.proofs.Common.{◌∙◌, ap}
use Rattle.nq_eliminate.proofs.MakingLemmas.{after_two, kept_made}
use Rattle.nq_eliminate.proofs.making.kept.Goals as goal

pub returns-clause-kept : goal.returns-clause-kept
returns-clause-kept c = kept_made c.args.r c.args.equation c.args.renaming c.index-made_of.result.now c.index-denial.result.now c.in_ok-renamed.renamed c.requires c.index-made_of.ensures c.index-denial.ensures (c.in_ok-renamed.ensures.ok ∙ ap after_two c.deref.ensures.value)
