use Rattle.std.proofs.Common.{[], refl, arith}
use Rattle.nq_cases.proofs.CaseLemmas.{all_cases}
use Rattle.nq_cases.proofs.cases.if_cases.Goals as goal

pub returns-clause-ok : goal.returns-clause-ok
returns-clause-ok c =
    let count = c.in_ok-count.ensures.ok in
    let cap = c.from-cap.ensures in
    let from = c.from.ensures in
    let most = c.if-count-from.false in (
      omega (arith, count, cap, from, most),
      all_cases c.args.bank.now c.add_cases.new.bank c.args.t [] c.new-cases.result.items c.add_cases.new.cases.items refl c.new-cases.ensures.items c.in_ok-add_cases.ensures.ok,
    )
