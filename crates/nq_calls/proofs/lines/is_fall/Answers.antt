use Rattle.std.proofs.Common.{◌≡◌, ◌||◌, ◌&&◌, true, false}
use Rattle.nq_logic.specs.Terms.{Term, substituted}
use Rattle.nq_logic.specs.Words.{call2, not_term}
use Rattle.nq_bank.specs.Content.{term_at}
use Rattle.nq_clause.specs.Substitution.{substitution_at}
use Rattle.nq_proof.specs.Clauses.{same_term}
use Rattle.nq_rule.proofs.Made.{for_ok}
use Rattle.nq_calls.proofs.LineLemmas.{fall_alone}
use Rattle.nq_calls.proofs.lines.is_fall.Goals as goal

pub returns : goal.returns
returns c =
    let t : Term = term_at c.args.bank.now c.args.literal in
    let m : Term = term_at c.args.bank.now c.args.measure in
    let fall : Term = call2 "ORD-LESSP" (substituted (substitution_at c.args.bank.now c.args.pairs.now) m) m in
    for_ok c.is_fall_line.result (λ b. b ≡ ((same_term t (not_term t) || (same_term t fall || false)) && true)) (λ b. b ≡ same_term t fall) (λ b h. fall_alone t fall b h) c.is_fall_line.ensures
