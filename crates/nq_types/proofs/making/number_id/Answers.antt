use Rattle.nq_logic.specs.Words.{numeral}
use Rattle.nq_kernel.proofs.GrowingLemmas.{bank_grows, uncounted}
use Rattle.nq_steps.proofs.NameLemmas.{only_terms}
use Rattle.nq_lines.proofs.MatchLemmas.{gives_grow}
use Rattle.nq_types.proofs.making.number_id.Goals as goal

pub returns-in-Ok-clause-grows : goal.returns-in-Ok-clause-grows
returns-in-Ok-clause-grows c =
    let old = c.args.work.now.bank in
    let new = c.num.new.self in
    let term = numeral c.args.n in
    bank_grows c.args.history.now c.args.work.now new c.args.work.now.counter c.requires.stands (gives_grow old new c.num.result term c.num.ensures.ok c.num.ensures.err) (only_terms old new c.num.result term c.num.ensures.ok c.num.ensures.err) (uncounted c.args.work.now.counter)

pub returns-in-Err-clause-grows : goal.returns-in-Err-clause-grows
returns-in-Err-clause-grows c =
    let old = c.args.work.now.bank in
    let new = c.num.new.self in
    let term = numeral c.args.n in
    bank_grows c.args.history.now c.args.work.now new c.args.work.now.counter c.requires.stands (gives_grow old new c.num.result term c.num.ensures.ok c.num.ensures.err) (only_terms old new c.num.result term c.num.ensures.ok c.num.ensures.err) (uncounted c.args.work.now.counter)
