use Rattle.std.proofs.Common.{◌≡◌, ◌-◌, ◌∙◌, List, length, take, drop, sym, subst}
use Rattle.nq_goals.specs.Paths.{goals_above}
use Rattle.nq_waterfall.specs.declared.trail.Ancestor.{Ancestor}
use Rattle.nq_waterfall.specs.Ready.{IsPathIn}
use Rattle.nq_waterfall.specs.Trails.{above_at, goals_at}
use Rattle.nq_legal.proofs.AboveLemmas.{split_path}
use Rattle.nq_legal.proofs.GeneralizingLemmas.{goals_pushed, inside_pushed}
use Rattle.nq_legal.proofs.generalizing.+goals_above.Goals as goal

pub returns-in_ok-push-in-len1-up-clause-goals : goal.returns-in_ok-push-in-len1-up-clause-goals
returns-in_ok-push-in-len1-up-clause-goals t c = λ bank.
    let path : List Ancestor = c.args.path.now in
    let rest : List Ancestor = take (length path - 1) (drop 1 path) in
    subst (λ (p : List Ancestor). goals_at bank c.push.new.self.items ≡ goals_above (above_at bank p)) (sym (split_path path c.first-item.result c.in-len1-up.len_at_least c.first-item.is))
    (goals_pushed bank c.first-item.result rest c.in_ok-goals-in-len1-up.goals.items c.push.new.self.items c.in_ok-goal-in-len1-up.goal (c.in_ok-goals-in-len1-up.ensures.goals bank) (c.in_ok-goal-in-len1-up.ensures.items ∙ c.as_slice.ensures.value) c.in_ok-push-in-len1-up.ensures.items)

pub returns-in_ok-push-in-len1-up-clause-inside : goal.returns-in_ok-push-in-len1-up-clause-inside
returns-in_ok-push-in-len1-up-clause-inside t c = λ history work above.
    let path : List Ancestor = c.args.path.now in
    let rest : List Ancestor = take (length path - 1) (drop 1 path) in
    inside_pushed history work c.first-item.result rest c.in_ok-goals-in-len1-up.goals.items c.push.new.self.items c.in_ok-goal-in-len1-up.goal (c.in_ok-goals-in-len1-up.ensures.inside history work) (c.in_ok-goal-in-len1-up.ensures.items ∙ c.as_slice.ensures.value) c.in_ok-push-in-len1-up.ensures.items
    (subst (IsPathIn history work) (split_path path c.first-item.result c.in-len1-up.len_at_least c.first-item.is) above)
