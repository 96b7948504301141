use Rattle.std.proofs.Common.{◌∷◌, [], true, List, subst}
use Rattle.nq_bank.specs.declared.node.TermId.{TermId}
use Rattle.nq_bank.specs.Content.{term_at, terms_at}
use Rattle.nq_rule.proofs.Made.{for_ok}
use Rattle.nq_quick.specs.Lines.{LineHasOnly, Says}
use Rattle.nq_quick.proofs.ProvingLemmas.{can_prove}
use Rattle.nq_quick.proofs.proving.prove_tautology.Goals as goal

pub prove-requires-clause-can : goal.prove-requires-clause-can
prove-requires-clause-can c = can_prove c.args.work.now.bank c.args.goal c.args.others.now (record { trues = c.new.result; denials = c.new-2.result }) c.is_sound.ensures c.requires.goal (record { stands = c.requires.stands.history; over = c.requires.over }) c.requires.tautology c.new.ensures.items c.new-2.ensures.items

pub returns-clause-line : goal.returns-clause-line
returns-clause-line c =
    let new = c.prove.new.work in
    for_ok c.prove.result (λ n. Says new n true c.args.goal c.new-2.result.items) (λ n. LineHasOnly new n (term_at new.bank c.args.goal ∷ [])) (λ n h.
    subst (λ (ids : List TermId). LineHasOnly new n (term_at new.bank c.args.goal ∷ terms_at new.bank ids)) c.new-2.ensures.items h) c.prove.ensures.line
