use Rattle.std.proofs.Common.{◌||◌, sym, ap, ◌∙◌}
use Rattle.nq_logic.specs.Terms.{Term, substituted}
use Rattle.nq_logic.specs.Words.{not_term, call2}
use Rattle.nq_bank.specs.Content.{term_at}
use Rattle.nq_clause.specs.Substitution.{substitution_at}
use Rattle.nq_proof.specs.Clauses.{same_term}
use Rattle.nq_rule.proofs.ClauseLemmas.{same_term-sym, or_false}
use Rattle.nq_rule.proofs.induction.is_fall_literal.Goals as goal

pub returns : goal.returns
returns c =
    let l : Term = term_at c.args.bank.now c.args.literal in
    let q : Term = not_term (term_at c.args.bank.now c.args.test) in
    let m : Term = term_at c.args.bank.now c.args.measure in
    let fall : Term = call2 "ORD-LESSP" (substituted (substitution_at c.args.bank.now c.args.pairs.now) m) m in
    c.is_either.ensures ∙ ap (λ b. b || c.in_ok-falls.falls) (c.is_not_of-denied.ensures ∙ same_term-sym q l) ∙ ap (λ b. same_term l q || b) (c.in_ok-falls.ensures ∙ sym (or_false (same_term l fall)))
