use Rattle.std.proofs.Common.{◌≡◌, true, List, sym, subst}
use Rattle.std.specs.Prelude.{All}
use Rattle.nq_bank.specs.declared.node.TermId.{TermId}
use Rattle.nq_bank.specs.Content.{term_at}
use Rattle.nq_steps.proofs.NameLemmas.{no_names}
use Rattle.nq_fragments.specs.Outcomes.{is_small}
use Rattle.nq_eval.proofs.LineLemmas.{bank_uncounted}
use Rattle.nq_eval.proofs.ClosingLemmas.{small_value}
use Rattle.nq_eval.proofs.closing.row_of.Goals as goal

pub apply-requires-clause-values : goal.apply-requires-clause-values
apply-requires-clause-values c =
    let bank = c.args.work.now.bank in
    let small : All (λ v. is_small (term_at bank v) ≡ true) c.as_slice.result.now = subst (λ (xs : List TermId). All (λ v. is_small (term_at bank v) ≡ true) xs) (sym c.as_slice.ensures.value) c.requires.call.small in
    λ k d below. small_value _ (small k d below)

pub returns-clause-grows : goal.returns-clause-grows
returns-clause-grows c = bank_uncounted c.args.history.now c.args.work.now c.apply.new.bank c.requires.stands c.apply.ensures.grows (no_names c.args.work.now.bank c.apply.new.bank c.apply.ensures.names)
