use Rattle.std.proofs.Common.{◌+◌, ◌-◌, ℕ, List, length, take, drop, sym, ap, ◌∙◌}
use Rattle.nq_goals.specs.Paths.{inductions}
use Rattle.nq_waterfall.specs.declared.trail.Ancestor.{Ancestor}
use Rattle.nq_waterfall.specs.Trails.{above_at}
use Rattle.nq_legal.proofs.AboveLemmas.{no_more, one_more, split_path}
use Rattle.nq_legal.proofs.above.+inductions.Goals as goal

pub returns-then-is_induction-clause-count : goal.returns-then-is_induction-clause-count
returns-then-is_induction-clause-count t c = λ bank.
    let path : List Ancestor = c.args.path.now in
    let rest : List Ancestor = take (length path - 1) (drop 1 path) in
    ap (λ (n : ℕ). n + 1) (c.inductions-below.ensures.count bank) ∙
    sym (one_more bank c.first-item.result rest (sym c.is_induction.ensures ∙ c.if-is_induction.true)) ∙
    sym (ap (λ (p : List Ancestor). inductions (above_at bank p)) (split_path path c.first-item.result c.in-len1-up.len_at_least c.first-item.is))

pub returns-else-is_induction-clause-count : goal.returns-else-is_induction-clause-count
returns-else-is_induction-clause-count t c = λ bank.
    let path : List Ancestor = c.args.path.now in
    let rest : List Ancestor = take (length path - 1) (drop 1 path) in
    c.inductions-below.ensures.count bank ∙
    sym (no_more bank c.first-item.result rest (sym c.is_induction.ensures ∙ c.if-is_induction.false)) ∙
    sym (ap (λ (p : List Ancestor). inductions (above_at bank p)) (split_path path c.first-item.result c.in-len1-up.len_at_least c.first-item.is))
