use Rattle.std.proofs.Common.{◌≤◌, arith}
use Rattle.nq_bank.specs.Content.{term_at}
use Rattle.nq_logic.specs.Sizes.{depth_of, depth_limit}
use Rattle.nq_cases.proofs.ChoiceLemmas.{choice_told}
use Rattle.nq_cases.proofs.choosing.choose.Goals as goal

pub returns-clause-ok : goal.returns-clause-ok
returns-clause-ok c =
    let depth = c.depth-depth.ensures.depth in
    let limited = c.depth-depth.ensures.limited in
    let most : depth_of (term_at c.args.bank.now c.args.t) ≤ depth_limit = omega (arith, depth, limited) in
    choice_told c.choice_in.new.bank (term_at c.args.bank.now c.args.t) c.choice_in.result most c.choice_in.ensures.ok
