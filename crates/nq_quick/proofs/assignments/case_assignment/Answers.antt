use Rattle.std.proofs.Common.{◌<◌, ◌∷◌, [], ◌∙◌, ap₂, sym, subst}
use Rattle.nq_logic.specs.Terms.{Term}
use Rattle.nq_logic.specs.Sizes.{depth_of, depth_limit}
use Rattle.nq_bank.specs.Content.{Content}
use Rattle.nq_quick.specs.Lines.{denial}
use Rattle.nq_quick.specs.Decisions.{true_sides}
use Rattle.nq_quick.proofs.GrownLemmas.{pattern_grown, sides_terms, sides_stand}
use Rattle.nq_quick.proofs.PatternLemmas.{p_depth, q_depth}
use Rattle.nq_quick.proofs.assignments.case_assignment.Goals as goal

pub denials_of-requires-clause-left_room : goal.denials_of-requires-clause-left_room
denials_of-requires-clause-left_room c = subst (λ (u : Term). depth_of u < depth_limit) (sym c.requires.pattern.left.denotes) p_depth

pub denials_of-requires-clause-right_room : goal.denials_of-requires-clause-right_room
denials_of-requires-clause-right_room c = subst (λ (u : Term). depth_of u < depth_limit) (sym c.requires.pattern.right.denotes) q_depth

pub returns-clause-assignment : goal.returns-clause-assignment
returns-clause-assignment c =
    let new : Content = c.denials_of.new.work.bank in
    let l = c.args.case.left in
    let r = c.args.case.right in
    let pattern = pattern_grown c.args.work.now.bank new c.args.case.connective c.args.pattern c.denials_of.ensures.grows.grows.bank c.requires.pattern in
    record {
      stands = record { trues = sides_stand new l r c.args.pattern.left c.args.pattern.right c.in_ok-trues.trues.items c.in_ok-trues.ensures pattern.left.stands pattern.right.stands; denials = c.in_ok-denials.ensures.stand };
      trues = sides_terms new l r c.args.pattern.left c.args.pattern.right c.in_ok-trues.trues.items c.in_ok-trues.ensures ∙ ap₂ (true_sides l r) pattern.left.denotes pattern.right.denotes;
      denials = c.in_ok-denials.ensures.denials ∙ ap₂ (λ (p q : Term). denial l p ∷ denial r q ∷ []) c.requires.pattern.left.denotes c.requires.pattern.right.denotes;
    }
