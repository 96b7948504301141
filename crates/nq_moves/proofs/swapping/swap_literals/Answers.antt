use Rattle.std.proofs.Common.{◌≡◌, map, sym, subst}
use Rattle.std.specs.Prelude.{IfOk, IfSome, IsSome}
use Rattle.nq_bank.specs.Content.{term_at, terms_at}
use Rattle.nq_bank.specs.Parts.{parts_of}
use Rattle.nq_proof.specs.Clauses.{literal_at}
use Rattle.nq_lines.specs.Lines.{IsTermIn}
use Rattle.nq_moves.specs.Swapped.{reading_at, swapped_literal}
use Rattle.nq_moves.proofs.swapping.swap_literals.Goals as goal

pub returns-in-None-clause-terms : goal.returns-in-None-clause-terms
returns-in-None-clause-terms c =
    let old = c.args.work.now in
    subst (λ o. IfOk c.swap_in_terms.result (λ v. terms_at c.swap_in_terms.new.work.bank v.items ≡ map (swapped_literal old.bank (reading_at old.bank c.args.r) o) (terms_at old.bank c.args.terms.now))) (sym c.in-None.is) c.swap_in_terms.ensures.terms

pub swap_across-requires-clause-whole : goal.swap_across-requires-clause-whole
swap_across-requires-clause-whole c = subst (λ o. IfSome o (λ x. IsTermIn c.args.history.now c.args.work.now x.whole)) c.in-Some.is c.requires.whole

pub swap_across-requires-clause-place : goal.swap_across-requires-clause-place
swap_across-requires-clause-place c = subst (λ o. IfSome o (λ x. IsSome (literal_at x.place (parts_of (term_at c.args.work.now.bank x.whole))))) c.in-Some.is c.requires.place

pub returns-in-Some-clause-terms : goal.returns-in-Some-clause-terms
returns-in-Some-clause-terms c =
    let old = c.args.work.now in
    subst (λ o. IfOk c.swap_across.result (λ v. terms_at c.swap_across.new.work.bank v.items ≡ map (swapped_literal old.bank (reading_at old.bank c.args.r) o) (terms_at old.bank c.args.terms.now))) (sym c.in-Some.is) c.swap_across.ensures.terms
