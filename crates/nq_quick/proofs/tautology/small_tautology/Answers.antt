use Rattle.std.proofs.Common.{◌≤◌, ◌∙◌, sym, arith, ap, length, List, []}
use Rattle.nq_bank.specs.declared.node.TermId.{TermId}
use Rattle.nq_bank.specs.Content.{term_at, terms_at}
use Rattle.nq_fragments.specs.Propositions.{proposition_of}
use Rattle.nq_quick.specs.Assignments.{true_in_all}
use Rattle.nq_fragments.specs.Tautologies.{other_limit}
use Rattle.nq_quick.proofs.TautologyLemmas.{is_tautology, not_always_true}
use Rattle.nq_quick.proofs.tautology.small_tautology.Goals as goal

pub returns-then-branch : goal.returns-then-branch
returns-then-branch c =
    let few : length c.in_ok-others.others.items ≤ other_limit = omega (arith, c.if-len-gt-OTHER_LIMIT.false, c.len.ensures) in
    let same = ap (λ (ids : List TermId). true_in_all (terms_at c.args.bank.now ids) [] (proposition_of (term_at c.args.bank.now c.args.t))) c.as_slice.ensures.value in
    record {
      small = is_tautology c.args.bank.now c.args.t c.in_ok-others.others.items (c.has_few_nodes.ensures.0 c.if-not-has_few_nodes.false) c.in_ok-others.ensures few (sym same ∙ sym c.in_ok-is_always_true.ensures ∙ c.if-branch.true);
      others = c.in_ok-others.ensures;
    }

pub returns-else-branch : goal.returns-else-branch
returns-else-branch c = not_always_true (term_at c.args.bank.now c.args.t) (terms_at c.args.bank.now c.as_slice.result.now) (sym c.in_ok-is_always_true.ensures ∙ c.if-branch.false)
