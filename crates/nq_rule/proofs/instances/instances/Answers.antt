use Rattle.std.proofs.Common.{◌<◌, ◌++◌, ◌∷◌, [], ◌≡◌, sym, ap, ◌∙◌, subst}
use Rattle.std.specs.Prelude.{All, Err}
use Rattle.nq_bank.specs.declared.node.TermId.{TermId}
use Rattle.nq_bank.specs.declared.node.BankFault.TheVariants.{Deep}
use Rattle.nq_bank.specs.Content.{Content, Stands, terms_at}
use Rattle.nq_logic.specs.Sizes.{depth_of, depth_limit}
use Rattle.nq_bank.proofs.Growth.{Grows-trans}
use Rattle.nq_clause.specs.Substitution.{substitution_at}
use Rattle.nq_clause.proofs.SubstitutionLemmas.{IsStep, argument_same, replaced_step}
use Rattle.nq_bank.proofs.Standing.{passed_on, stand_grown, All-push}
use Rattle.nq_rule.proofs.InstanceLemmas.{instance_deep}
use Rattle.nq_rule.proofs.instances.instances.Goals as goal

pub returns-in_err-literal-clause-deep : goal.returns-in_err-literal-clause-deep
returns-in_err-literal-clause-deep c =
    λ e.
    let first : TermId = record { 0 = 0 } in
    let old : Content = c.args.bank.now in
    let came = passed_on c.from_residual.result c.in_err-literal.field-0.0 Deep c.from_residual.ensures.1 e in
    let deep = c.substitute.ensures.deep (c.in_err-literal.was ∙ ap Err came) in
    let step : IsStep old c.loop-t.bank c.substitute.new.bank c.args.pairs.now c.args.terms.now c.loop-t.literals.items c.loop-t.t-index = record { before = c.loop-t.invariant.grows; after = c.substitute.ensures.grows; stand = c.loop-t.invariant.stand; arguments = c.requires.terms; standing = c.requires.pairs; below = c.loop-t-test.true; done = c.loop-t.invariant.done } in
    let same = argument_same old c.loop-t.bank c.substitute.new.bank c.args.pairs.now c.args.terms.now c.loop-t.literals.items c.loop-t.t-index first step in
    instance_deep (substitution_at old c.args.pairs.now) old c.args.terms.now c.loop-t.t-index first c.loop-t-test.true (subst (λ u. depth_limit < depth_of u) same deep)

pub loop-t-preserved : goal.loop-t-preserved
loop-t-preserved c =
    let first : TermId = record { 0 = 0 } in
    let old : Content = c.args.bank.now in
    let bank : Content = c.loop-t.bank in
    let new : Content = c.substitute.new.bank in
    let literal : TermId = c.in_ok-literal.literal in
    let literals : c.push_literal.new.literals.items ≡ c.loop-t.literals.items ++ literal ∷ [] = c.in_ok-push_literal.ensures.ok in
    let step : IsStep old bank new c.args.pairs.now c.args.terms.now c.loop-t.literals.items c.loop-t.t-index = record { before = c.loop-t.invariant.grows; after = c.substitute.ensures.grows; stand = c.loop-t.invariant.stand; arguments = c.requires.terms; standing = c.requires.pairs; below = c.loop-t-test.true; done = c.loop-t.invariant.done } in
    record {
      grows = Grows-trans old bank new c.loop-t.invariant.grows c.substitute.ensures.grows;
      names = c.substitute.ensures.names ∙ c.loop-t.invariant.names;
      stand = subst (All (Stands new)) (sym literals) (All-push (Stands new) c.loop-t.literals.items literal (stand_grown bank new c.loop-t.literals.items c.substitute.ensures.grows c.loop-t.invariant.stand) c.in_ok-literal.ensures.ok.stands);
      done = ap (terms_at new) literals ∙ replaced_step old bank new c.args.pairs.now c.args.terms.now c.loop-t.literals.items c.loop-t.t-index first literal step c.in_ok-literal.ensures.ok;
    }
