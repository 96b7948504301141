use Rattle.std.proofs.Common.{◌≡◌, ◌<◌, ◌≤◌, ◌∷◌, [], ◌∙◌, ap, sym, subst, arith}
use Rattle.std.specs.Prelude.{IfOk}
use Rattle.nq_logic.specs.Terms.{Term, call}
use Rattle.nq_logic.specs.Sizes.{depth_of, depth_limit}
use Rattle.nq_bank.specs.Content.{IsIdOf, term_at}
use Rattle.nq_bank.specs.Soundness.{ground_text}
use Rattle.nq_quick.specs.Patterns.{pattern_term}
use Rattle.nq_quick.proofs.PatternLemmas.{pattern_called, pattern_depth}
use Rattle.nq_quick.proofs.patterns.connect.Goals as goal

pub ground_call-requires-clause-shallow : goal.ground_call-requires-clause-shallow
ground_call-requires-clause-shallow c =
    let left : Term = term_at c.args.work.now.bank c.args.left in
    let right : Term = term_at c.args.work.now.bank c.args.right in
    let same : call (ground_text c.name_of.result) (left ∷ right ∷ []) ≡ pattern_term c.args.connective = ap (λ f. call f (left ∷ right ∷ [])) c.name_of.ensures.name ∙ pattern_called c.args.connective left right c.requires.left.denotes c.requires.right.denotes in
    let deep : depth_of (pattern_term c.args.connective) < depth_limit = pattern_depth c.args.connective in
    let within : depth_of (pattern_term c.args.connective) ≤ depth_limit = omega (arith, deep) in
    subst (λ (t : Term). depth_of t ≤ depth_limit) (sym same) within

pub returns-clause-whole : goal.returns-clause-whole
returns-clause-whole c =
    let left : Term = term_at c.args.work.now.bank c.args.left in
    let right : Term = term_at c.args.work.now.bank c.args.right in
    let same : call (ground_text c.name_of.result) (left ∷ right ∷ []) ≡ pattern_term c.args.connective = ap (λ f. call f (left ∷ right ∷ [])) c.name_of.ensures.name ∙ pattern_called c.args.connective left right c.requires.left.denotes c.requires.right.denotes in
    subst (λ (u : Term). IfOk c.ground_call.result (λ t. IsIdOf c.ground_call.new.work.bank t u)) same c.ground_call.ensures.call
