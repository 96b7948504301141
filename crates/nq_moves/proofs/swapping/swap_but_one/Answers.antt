use Rattle.std.proofs.Common.{Some, sym, ◌∙◌, subst}
use Rattle.nq_bank.specs.Content.{IsIdOf, term_at}
use Rattle.nq_kernel.proofs.GrowingLemmas.{WorkGrows-refl}
use Rattle.nq_rule.proofs.Made.{for_ok}
use Rattle.nq_goals.specs.Replacing.{exchanged}
use Rattle.nq_moves.specs.Swapped.{reading_at, swapped_literal}
use Rattle.nq_moves.proofs.SwappedLemmas.{swapped_same, swapped_other}
use Rattle.nq_moves.proofs.swapping.swap_but_one.Goals as goal

pub returns-then-is_same-clause-term : goal.returns-then-is_same-clause-term
returns-then-is_same-clause-term c =
    let bank = c.args.work.now.bank in
    record {
      stands = c.requires.one.stands;
      denotes = c.requires.crossed ∙ swapped_same bank (reading_at bank c.args.r) c.args.x (term_at bank c.args.t) (sym c.is_same.ensures ∙ c.if-is_same.true);
    }

pub returns-then-is_same-clause-grows : goal.returns-then-is_same-clause-grows
returns-then-is_same-clause-grows c = WorkGrows-refl c.args.history.now c.args.work.now c.requires.stands

pub returns-else-is_same-clause-term : goal.returns-else-is_same-clause-term
returns-else-is_same-clause-term c =
    let bank = c.args.work.now.bank in
    let new = c.swap_in_term.new.work.bank in
    let t = term_at bank c.args.t in
    for_ok c.swap_in_term.result (λ u. IsIdOf new u (exchanged (reading_at bank c.args.r) t)) (λ u. IsIdOf new u (swapped_literal bank (reading_at bank c.args.r) (Some c.args.x) t))
    (λ u id. subst (IsIdOf new u) (swapped_other bank (reading_at bank c.args.r) c.args.x t (sym c.is_same.ensures ∙ c.if-is_same.false)) id) c.swap_in_term.ensures.term
