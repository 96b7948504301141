use Rattle.std.proofs.Common.{arith}
use Rattle.nq_eval.proofs.LineLemmas.{grown_refl}
use Rattle.nq_eval.proofs.SizeLemmas.{count_of_one, count_of_more}
use Rattle.nq_eval.proofs.sizes.size_opening.Goals as goal

pub opening_of_one-requires-clause-count : goal.opening_of_one-requires-clause-count
opening_of_one-requires-clause-count c = count_of_one c.args.work.now.bank c.args.history.now c.args.u c.args.values.now c.requires.call c.in-len1.len_at_least c.in-len1.len_below

pub returns-in-empty-clause-grows : goal.returns-in-empty-clause-grows
returns-in-empty-clause-grows c = grown_refl c.args.history.now c.args.work.now c.requires.stands

pub returns-in_default-clause-opening : goal.returns-in_default-clause-opening
returns-in_default-clause-opening c = count_of_more c.args.work.now.bank c.args.history.now c.args.u c.args.values.now c.requires.call (omega (arith, c.in_default.len_at_least))

pub returns-in_default-clause-grows : goal.returns-in_default-clause-grows
returns-in_default-clause-grows c = grown_refl c.args.history.now c.args.work.now c.requires.stands
