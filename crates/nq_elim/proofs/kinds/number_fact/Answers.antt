use Rattle.std.proofs.Common.{◌∷◌, [], subst}
use Rattle.std.specs.Prelude.{IfSome}
use Rattle.nq_bank.specs.declared.node.TermId.{TermId}
use Rattle.nq_bank.specs.Content.{terms_at}
use Rattle.nq_lines.specs.Lines.{IsTermIn, LineHasOnly}
use Rattle.nq_elim.proofs.ListLemmas.{all_none, all_cons}
use Rattle.nq_elim.proofs.FactLemmas.{fact_beside_later}
use Rattle.nq_elim.proofs.kinds.number_fact.Goals as goal

pub kind_line-requires-clause-goal : goal.kind_line-requires-clause-goal
kind_line-requires-clause-goal c =
    let P : TermId → Type 0 = IsTermIn c.args.history.now c.args.work.now in
    all_cons P c.args.t [] c.requires.term (all_none P)

pub returns-in-Some-clause-fact : goal.returns-in-Some-clause-fact
returns-in-Some-clause-fact c =
    let old = c.args.work.now in
    let new = c.kind_line.new.work in
    fact_beside_later c.args.history.now old new c.requires.stands c.kind_line.ensures.grows c.args.t c.in-Some.line [] c.requires.term (all_none (IsTermIn c.args.history.now old))
    (subst (λ o. IfSome o (λ n. LineHasOnly new n (terms_at old.bank (c.args.t ∷ [])))) c.in-Some.is c.in_ok-line.ensures.line)
