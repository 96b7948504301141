use Rattle.std.proofs.Common.{◌≡◌, ◌||◌, ◌∙◌, map, sym, ap}
use Rattle.nq_logic.specs.Terms.{Term, substituted}
use Rattle.nq_logic.specs.Words.{call2, not_term}
use Rattle.nq_bank.specs.Content.{term_at}
use Rattle.nq_clause.specs.Substitution.{substitution_at}
use Rattle.nq_proof.specs.Clauses.{same_term, has_term}
use Rattle.nq_rule.proofs.ClauseLemmas.{has_term-push}
use Rattle.nq_rule.proofs.Made.{for_ok}
use Rattle.nq_calls.specs.Calls.{guards_at}
use Rattle.nq_calls.specs.Falls.{fall_clause}
use Rattle.nq_calls.proofs.lines.is_allowed.Goals as goal

pub returns-then-is_denied : goal.returns-then-is_denied
returns-then-is_denied c =
    let bank = c.args.bank.now in
    let t : Term = term_at bank c.args.literal in
    let m : Term = term_at bank c.args.measure in
    let fall : Term = call2 "ORD-LESSP" (substituted (substitution_at bank c.args.pairs.now) m) m in
    let tests = map not_term (guards_at bank c.args.guards.now) in
    ap (λ b. b || same_term t fall) (sym c.if-is_denied.true ∙ c.is_denied.ensures) ∙ sym (has_term-push t fall tests)

pub returns : goal.returns
returns c =
    let bank = c.args.bank.now in
    let t : Term = term_at bank c.args.literal in
    let m : Term = term_at bank c.args.measure in
    let fall : Term = call2 "ORD-LESSP" (substituted (substitution_at bank c.args.pairs.now) m) m in
    let tests = map not_term (guards_at bank c.args.guards.now) in
    for_ok c.is_fall.result (λ b. b ≡ same_term t fall) (λ b. b ≡ has_term t (fall_clause (substituted (substitution_at bank c.args.pairs.now) m) m (guards_at bank c.args.guards.now)))
    (λ b h. h ∙ ap (λ a. a || same_term t fall) (sym c.if-is_denied.false ∙ c.is_denied.ensures) ∙ sym (has_term-push t fall tests)) c.is_fall.ensures
