use Rattle.std.proofs.Common.{◌≡◌, ◌∷◌, ◌∙◌, ◌-◌, [], List, sym, ap}
use Rattle.std.specs.Prelude.{codes, All}
use Rattle.nq_logic.specs.Terms.{Name, Term, call}
use Rattle.nq_logic.specs.Words.{numeral}
use Rattle.nq_rule.proofs.Made.{for_ok}
use Rattle.nq_bank.specs.Content.{term_at, terms_at}
use Rattle.nq_lines.specs.Lines.{IsTermIn}
use Rattle.nq_types.proofs.CallLemmas.{number_call, same_arguments, less_in, one_in}
use Rattle.nq_types.proofs.making.number_argument.Goals as goal

pub returns-clause-arguments : goal.returns-clause-arguments
returns-clause-arguments c =
    let new = c.number_id.new.work in
    let u = c.in_ok-u.u in
    let n = c.args.n in
    for_ok c.one_term.result (λ v. v.items ≡ u ∷ []) (λ v. (f : Name) (ts : List Term) → term_at c.args.work.now.bank c.args.t ≡ call f ts → terms_at new.bank v.items ≡ ts) (λ v e.
    λ f ts is.
    ap (terms_at new.bank) e ∙ ap (λ x. x ∷ []) c.in_ok-u.ensures.number.denotes
    ∙ same_arguments (codes "ADD1") f (numeral (n - 1) ∷ []) ts (sym (number_call n c.requires.positive) ∙ sym c.requires.number ∙ is)) c.one_term.ensures.term

pub returns-clause-over : goal.returns-clause-over
returns-clause-over c =
    let h = c.args.history.now in
    let old = c.args.work.now in
    let new = c.number_id.new.work in
    let u = c.in_ok-u.u in
    for_ok c.one_term.result (λ v. v.items ≡ u ∷ []) (λ v. All (IsTermIn h new) v.items) (λ v e.
    one_in h new v.items u e (less_in h old new c.args.t u c.args.n c.requires.stands c.number_id.ensures.grows c.requires.term c.requires.number c.requires.positive c.in_ok-u.ensures.number)) c.one_term.ensures.term
