use Rattle.std.proofs.Common.{◌≡◌, ◌∙◌, [], List, sym, ap}
use Rattle.std.specs.Prelude.{codes}
use Rattle.nq_logic.specs.Terms.{Name, Term, call}
use Rattle.nq_rule.proofs.Made.{for_ok}
use Rattle.nq_bank.specs.Content.{term_at, terms_at, text_at}
use Rattle.nq_bank.specs.Parts.{parts_of}
use Rattle.nq_kernel.proofs.GrowingLemmas.{WorkGrows-refl}
use Rattle.nq_types.proofs.CallLemmas.{zero_call, same_arguments, no_variable}
use Rattle.nq_types.proofs.making.arguments_of.Goals as goal

pub returns-in-App-clause-arguments : goal.returns-in-App-clause-arguments
returns-in-App-clause-arguments c =
    let bank = c.args.work.now.bank in
    let t = term_at bank c.args.t in
    for_ok c.copied_arguments.result (λ v. terms_at bank v.items ≡ parts_of t) (λ v. (f : Name) (ts : List Term) → t ≡ call f ts → terms_at bank v.items ≡ ts) (λ v e.
    λ f ts is. e ∙ same_arguments (text_at bank c.in-App.field-0) f (parts_of t) ts (sym c.in-App.ensures.head.1 ∙ is)) c.copied_arguments.ensures.arguments

pub returns-in-App-clause-grows : goal.returns-in-App-clause-grows
returns-in-App-clause-grows c = WorkGrows-refl c.args.history.now c.args.work.now c.requires.stands

pub returns-then-n-eq0-clause-arguments : goal.returns-then-n-eq0-clause-arguments
returns-then-n-eq0-clause-arguments c =
    λ f ts is. ap (terms_at c.args.work.now.bank) c.new.ensures.items ∙ same_arguments (codes "ZERO") f [] ts (sym (zero_call c.in-Num.n c.if-n-eq0.true) ∙ sym c.in-Num.ensures.head.1 ∙ is)

pub returns-then-n-eq0-clause-grows : goal.returns-then-n-eq0-clause-grows
returns-then-n-eq0-clause-grows c = WorkGrows-refl c.args.history.now c.args.work.now c.requires.stands

pub returns-in-Var-clause-arguments : goal.returns-in-Var-clause-arguments
returns-in-Var-clause-arguments c =
    λ f ts is. absurd (no_variable (text_at c.args.work.now.bank c.in-Var.field-0) f ts (sym c.in-Var.ensures.head.1 ∙ is))

pub returns-in-Var-clause-grows : goal.returns-in-Var-clause-grows
returns-in-Var-clause-grows c = WorkGrows-refl c.args.history.now c.args.work.now c.requires.stands
