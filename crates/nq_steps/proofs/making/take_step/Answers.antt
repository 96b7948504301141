use Rattle.std.proofs.Common.{◌≡◌, ◌-◌, [], ◌∷◌, ◌++◌, length, take, drop, reverse, sym, ap, subst, ◌∙◌, inl}
use Rattle.std.specs.Prelude.{All, Err}
use Rattle.nq_logic.specs.Terms.{call}
use Rattle.nq_bank.specs.declared.node.BankFault.TheVariants.{Deep}
use Rattle.nq_bank.specs.Content.{Content, Stands, terms_at, text_at}
use Rattle.nq_bank.proofs.Standing.{passed_on}
use Rattle.nq_steps.specs.Steps.{leaf_term, step_taken, HasDeep}
use Rattle.nq_steps.proofs.StackLemmas.{on_ok}
use Rattle.nq_steps.proofs.MakingLemmas.{stack_more, stand_more, called_last, all_take}
use Rattle.nq_steps.proofs.making.take_step.Goals as goal

pub returns-in_ok-id-in-Leaf-clause-stand : goal.returns-in_ok-id-in-Leaf-clause-stand
returns-in_ok-id-in-Leaf-clause-stand c =
    let bank : Content = c.args.bank.now in
    let new : Content = c.leaf_id.new.bank in
    let more = stand_more bank new c.args.ids.now.items c.in_ok-id-in-Leaf.id (leaf_term c.args.bank.now c.in-Leaf.leaf) c.leaf_id.ensures.grows c.requires.ids c.in_ok-id-in-Leaf.ensures.ok in
    on_ok c.add_id.result (λ e. subst (All (Stands new)) (sym e) more) c.add_id.ensures.ok

pub returns-in_ok-id-in-Leaf-clause-makes : goal.returns-in_ok-id-in-Leaf-clause-makes
returns-in_ok-id-in-Leaf-clause-makes c =
    let bank : Content = c.args.bank.now in
    let new : Content = c.leaf_id.new.bank in
    let ids = c.args.ids.now.items in
    let more = stack_more bank new ids c.in_ok-id-in-Leaf.id (leaf_term c.args.bank.now c.in-Leaf.leaf) c.leaf_id.ensures.grows c.requires.ids c.in_ok-id-in-Leaf.ensures.ok in
    on_ok c.add_id.result (λ e. ap (λ xs. reverse (terms_at new xs)) e ∙ more ∙ ap (λ step. step_taken bank step (reverse (terms_at bank ids))) (sym c.in-Leaf.is)) c.add_id.ensures.ok

pub returns-in_ok-id-in-Call-clause-stand : goal.returns-in_ok-id-in-Call-clause-stand
returns-in_ok-id-in-Call-clause-stand c =
    let bank : Content = c.args.bank.now in
    let new : Content = c.app.new.self in
    let ids = c.args.ids.now.items in
    let kept = length ids - c.in-Call.count in
    let given = c.in_ok-id-in-Call.ensures.ok in
    let first : All (Stands bank) (take kept ids) = all_take bank ids kept c.requires.ids in
    let more = stand_more bank new (take kept ids) c.in_ok-id-in-Call.id (call (text_at bank c.in-Call.f) (terms_at bank c.as_slice.result.now)) given.grows first given.id in
    on_ok c.add_id-in-Call.result (λ e. subst (All (Stands new)) (sym (e ∙ ap (λ xs. xs ++ c.in_ok-id-in-Call.id ∷ []) c.in_ok-last-in-Call.ensures.first)) more) c.add_id-in-Call.ensures.ok

pub returns-in_ok-id-in-Call-clause-makes : goal.returns-in_ok-id-in-Call-clause-makes
returns-in_ok-id-in-Call-clause-makes c =
    let bank : Content = c.args.bank.now in
    let new : Content = c.app.new.self in
    let ids = c.args.ids.now.items in
    let f = text_at bank c.in-Call.f in
    let kept = length ids - c.in-Call.count in
    let given = c.in_ok-id-in-Call.ensures.ok in
    let first : All (Stands bank) (take kept ids) = all_take bank ids kept c.requires.ids in
    let more = stack_more bank new (take kept ids) c.in_ok-id-in-Call.id (call f (terms_at bank c.as_slice.result.now)) given.grows first given.id in
    let last : c.as_slice.result.now ≡ drop kept ids = c.as_slice.ensures.value ∙ c.in_ok-last-in-Call.ensures.last in
    on_ok c.add_id-in-Call.result
    (λ e.
    ap (λ xs. reverse (terms_at new xs)) (e ∙ ap (λ xs. xs ++ c.in_ok-id-in-Call.id ∷ []) c.in_ok-last-in-Call.ensures.first) ∙
    more ∙
    ap (λ xs. call f (terms_at bank xs) ∷ reverse (terms_at bank (take kept ids))) last ∙
    sym (called_last bank ids f c.in-Call.count) ∙
    ap (λ step. step_taken bank step (reverse (terms_at bank ids))) (sym c.in-Call.is))
    c.add_id-in-Call.ensures.ok

pub returns-in_err-id-in-Call-clause-deep : goal.returns-in_err-id-in-Call-clause-deep
returns-in_err-id-in-Call-clause-deep c =
    λ e.
    let bank : Content = c.args.bank.now in
    let ids = c.args.ids.now.items in
    let f = text_at bank c.in-Call.f in
    let kept = length ids - c.in-Call.count in
    let came = passed_on c.from_residual-in_err-id-in-Call.result c.in_err-id-in-Call.field-0.0 Deep c.from_residual-in_err-id-in-Call.ensures.1 e in
    let deep = c.app.ensures.deep.0 (c.in_err-id-in-Call.was ∙ ap Err came) in
    let last : c.as_slice.result.now ≡ drop kept ids = c.as_slice.ensures.value ∙ c.in_ok-last-in-Call.ensures.last in
    let whole : call f (terms_at bank c.as_slice.result.now) ∷ reverse (terms_at bank (take kept ids)) ≡ step_taken bank c.args.step (reverse (terms_at bank ids)) =
    ap (λ xs. call f (terms_at bank xs) ∷ reverse (terms_at bank (take kept ids))) last ∙
    sym (called_last bank ids f c.in-Call.count) ∙
    ap (λ step. step_taken bank step (reverse (terms_at bank ids))) (sym c.in-Call.is) in
    subst HasDeep whole (inl deep)
