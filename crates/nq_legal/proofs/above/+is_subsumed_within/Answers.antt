use Rattle.std.proofs.Common.{◌-◌, List, length, take, drop, true, sym, subst}
use Rattle.std.specs.Prelude.{◌↔◌, IsTrue}
use Rattle.nq_bank.specs.Content.{terms_at}
use Rattle.nq_goals.specs.Moves.{IsSubsumed}
use Rattle.nq_waterfall.specs.declared.trail.Ancestor.{Ancestor}
use Rattle.nq_waterfall.specs.Trails.{above_at}
use Rattle.nq_legal.proofs.AboveLemmas.{split_path, told_by_first, told_by_rest}
use Rattle.nq_legal.proofs.above.+is_subsumed_within.Goals as goal

pub returns-then-subsumes_by : goal.returns-then-subsumes_by
returns-then-subsumes_by t c =
    let path : List Ancestor = c.args.path.now in
    let rest : List Ancestor = take (length path - 1) (drop 1 path) in
    subst (λ (p : List Ancestor). IsTrue true ↔ IsSubsumed (above_at c.args.bank.now p) (terms_at c.args.bank.now c.args.goal.now)) (sym (split_path path c.first-item.result c.in-len1-up.len_at_least c.first-item.is))
    (told_by_first c.args.bank.now c.first-item.result rest c.args.goal.now c.subsumes_by.result c.if-subsumes_by.true c.subsumes_by.ensures.is)

pub returns-else-subsumes_by : goal.returns-else-subsumes_by
returns-else-subsumes_by t c =
    let path : List Ancestor = c.args.path.now in
    let rest : List Ancestor = take (length path - 1) (drop 1 path) in
    subst (λ (p : List Ancestor). IsTrue c.is_subsumed_within.result ↔ IsSubsumed (above_at c.args.bank.now p) (terms_at c.args.bank.now c.args.goal.now)) (sym (split_path path c.first-item.result c.in-len1-up.len_at_least c.first-item.is))
    (told_by_rest c.args.bank.now c.first-item.result rest c.args.goal.now c.subsumes_by.result c.is_subsumed_within.result c.if-subsumes_by.false c.subsumes_by.ensures.is c.is_subsumed_within.ensures)
