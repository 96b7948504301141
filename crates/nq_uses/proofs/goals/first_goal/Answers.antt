use Rattle.std.proofs.Common.{◌≡◌, ◌∙◌, ◌++◌, ◌∷◌, [], List, map, ap}
use Rattle.std.proofs.lemmas.Result.{IfOk-weaker}
use Rattle.nq_logic.specs.Terms.{Term}
use Rattle.nq_bank.specs.Content.{term_at, terms_at}
use Rattle.nq_bank.proofs.Growth.{term_at-grown}
use Rattle.nq_proof.specs.Clauses.{distinct}
use Rattle.nq_history.specs.declared.hints.Instance.{Instance}
use Rattle.nq_history.specs.Events.{events_at}
use Rattle.nq_event.specs.EventsAt.{instance_at}
use Rattle.nq_goals.specs.Hints.{denied_instances}
use Rattle.nq_uses.proofs.Denials.{denied_last}
use Rattle.nq_uses.proofs.goals.first_goal.Goals as goal

pub returns-clause-are : goal.returns-clause-are
returns-clause-are c =
    let start = c.args.bank.now in
    let middle = c.denials.new.bank in
    let h = events_at start c.args.history.now in
    let instances = map (instance_at start) c.args.hints.now.instances.items in
    let before = c.in_ok-literals.ensures.are ∙ ap (λ (xs : List Instance). denied_instances h (map (instance_at start) xs) []) c.as_slice.ensures.value in
    let all : terms_at middle c.in_ok-literals.literals.items ++ term_at middle c.args.goal ∷ [] ≡ denied_instances h instances (term_at start c.args.goal ∷ []) =
    ap (λ (ts : List Term). ts ++ term_at middle c.args.goal ∷ []) before
    ∙ ap (λ (t : Term). denied_instances h instances [] ++ t ∷ []) (term_at-grown start middle c.args.goal c.denials.ensures.grows c.requires.goal)
    ∙ denied_last h instances (term_at start c.args.goal ∷ []) in
    IfOk-weaker c.goal_of.result _ _ (λ ids are. are ∙ ap distinct all) c.goal_of.ensures.are
