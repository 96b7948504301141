use Rattle.std.proofs.Common.{◌<◌, [], ◌∷◌, ap, ◌∙◌, subst}
use Rattle.std.specs.Prelude.{Err}
use Rattle.nq_logic.specs.Sizes.{depth_limit, depth_of}
use Rattle.nq_logic.specs.Terms.{Name, call}
use Rattle.nq_bank.specs.declared.node.BankFault.{BankFault}
use Rattle.nq_bank.specs.Content.{term_at}
use Rattle.nq_check.proofs.DefinitionLemmas.{equation_not_deep}
use Rattle.nq_check.proofs.definition_lines.equation.Goals as goal

pub unreachable-requires : goal.unreachable-requires
unreachable-requires c =
    let t = term_at c.args.bank.now c.args.left in
    let u = term_at c.args.bank.now c.args.right in
    let deep = c.app.ensures.deep.0 (c.in-Err-Deep.is ∙ ap (λ (e : BankFault). Err e) c.in-Err-Deep.field-0-is) in
    equation_not_deep t u c.requires.left_shallow c.requires.right_shallow (subst (λ (f : Name). depth_limit < depth_of (call f (t ∷ u ∷ []))) c.ground_name-f.ensures.reads deep)
