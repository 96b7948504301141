use Rattle.std.proofs.Common.{◌≡◌, ◌∙◌, ◌++◌, List, sym, ap, subst, get_or, drop, ◌+◌, []}
use Rattle.std.proofs.lemmas.List.{drop_all}
use Rattle.nq_logic.specs.Terms.{IsAmong}
use Rattle.nq_bank.specs.declared.node.TermId.{TermId}
use Rattle.nq_bank.specs.Content.{Content, term_at, terms_at}
use Rattle.nq_goals.specs.Equations.{readings}
use Rattle.nq_goals.specs.Substituting.{Substituting, from_readings, from_literals}
use Rattle.nq_moves.specs.Found.{substituting_at, IsFound, FindsOne}
use Rattle.nq_moves.proofs.EquationLemmas.{literals_more, among_first}
use Rattle.nq_moves.proofs.substituting.find_substitution.Goals as goal

pub loop-literal-preserved : goal.loop-literal-preserved
loop-literal-preserved c =
    let first : TermId = record { 0 = 0 } in
    let bank : Content = c.args.bank.now in
    let l = term_at bank (get_or c.args.goal.now c.loop-literal.literal-index first) in
    let rest : List Substituting = from_literals (terms_at bank (drop (c.loop-literal.literal-index + 1) c.args.goal.now)) in
    let none : from_readings l (readings l) ≡ [] = subst (FindsOne bank (from_readings l (readings l))) c.in_default.is c.in_ok-found.ensures in
    ap (λ xs. xs ++ rest) (sym none) ∙ sym (literals_more bank c.args.goal.now c.loop-literal.literal-index first c.loop-literal-test.true) ∙ c.loop-literal.invariant

pub returns-in-Some : goal.returns-in-Some
returns-in-Some c =
    let first : TermId = record { 0 = 0 } in
    let bank : Content = c.args.bank.now in
    let l = term_at bank (get_or c.args.goal.now c.loop-literal.literal-index first) in
    let rest : List Substituting = from_literals (terms_at bank (drop (c.loop-literal.literal-index + 1) c.args.goal.now)) in
    let f : IsFound bank (from_readings l (readings l)) c.in-Some.found = subst (FindsOne bank (from_readings l (readings l))) c.in-Some.is c.in_ok-found.ensures in
    record {
      stands = f.stands;
      among = subst (IsAmong (substituting_at bank c.in-Some.found)) (sym (literals_more bank c.args.goal.now c.loop-literal.literal-index first c.loop-literal-test.true) ∙ c.loop-literal.invariant) (among_first (substituting_at bank c.in-Some.found) (from_readings l (readings l)) rest f.among);
    }

pub returns : goal.returns
returns c =
    sym c.loop-literal.invariant ∙ ap (λ ids. from_literals (terms_at c.args.bank.now ids)) (drop_all c.loop-literal.literal-index c.args.goal.now c.loop-literal-test.false)
