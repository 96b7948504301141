use Rattle.std.proofs.Common.{◌≡◌, ℕ, List, [], ◌∷◌, map, length, reverse, ap, ◌∙◌}
use Rattle.std.specs.Prelude.{codes}
use Rattle.std.proofs.lemmas.List.{length-map}
use Rattle.nq_logic.specs.Terms.{Name, Term, Variable, call}
use Rattle.nq_logic.specs.Words.{equal_term}
use Rattle.nq_bank.specs.Content.{Content, text_at, term_at}
use Rattle.nq_bank.specs.Shells.{texts_at}
use Rattle.nq_steps.specs.Steps.{called, pushed, stack_of}
use Rattle.nq_steps.proofs.StackLemmas.{called-pushed}
use Rattle.nq_axiom.proofs.openings.opening_steps.Goals as goal

pub returns-clause-makes : goal.returns-clause-makes
returns-clause-makes c =
    let bank : Content = c.args.bank.now in
    let f : Name = text_at bank c.args.d.function in
    let ts : List Term = map Variable (texts_at bank c.args.d.formals.now) in
    let n : ℕ = length c.args.d.formals.now in
    let count : length ts ≡ n = length-map (texts_at bank c.args.d.formals.now) Variable ∙ length-map c.args.d.formals.now (text_at bank) in
    let formals : stack_of bank c.put_formals.new.steps.items ≡ pushed ts [] = c.in_ok-put_formals.ensures.makes ∙ ap (λ steps. pushed ts (stack_of bank steps)) c.new-steps.ensures.items in
    let left : stack_of bank c.put_call.new.steps.items ≡ call f ts ∷ [] = c.in_ok-put_call.ensures.makes ∙ ap (called f n) formals ∙ called-pushed f ts [] n count in
    let both : stack_of bank c.put_known.new.steps.items ≡ term_at bank c.args.d.body ∷ call f ts ∷ [] = c.in_ok-put_known.ensures.makes ∙ ap (λ rest. term_at bank c.args.d.body ∷ rest) left in
    let whole : stack_of bank c.put_ground.new.steps.items ≡ equal_term (call f ts) (term_at bank c.args.d.body) ∷ [] = c.in_ok-put_ground.ensures.makes ∙ ap (called (codes "EQUAL") 2) both in
    ap reverse whole
