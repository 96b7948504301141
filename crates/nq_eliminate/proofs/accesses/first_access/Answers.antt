use Rattle.std.proofs.Common.{◌≡◌, ◌∙◌, sym, ap, subst, get_or, false}
use Rattle.std.specs.Prelude.{MatchOption}
use Rattle.std.specs.List.{list_any}
use Rattle.std.proofs.lemmas.List.{drop_all}
use Rattle.nq_bank.specs.declared.node.TermId.{TermId}
use Rattle.nq_bank.specs.Content.{term_at, terms_at}
use Rattle.nq_bank.specs.Shells.{shells_at}
use Rattle.nq_eliminate.specs.Shells.{IsAccessIn, is_access_in}
use Rattle.nq_eliminate.proofs.AccessLemmas.{none_more}
use Rattle.nq_eliminate.proofs.accesses.first_access.Goals as goal

pub loop-t-preserved : goal.loop-t-preserved
loop-t-preserved c =
    let first : TermId = record { 0 = 0 } in
    let bank = c.args.bank.now in
    let shells = shells_at bank c.args.shells.now in
    let whole = terms_at bank c.args.goal.now in
    let t = term_at bank (get_or c.args.terms.now c.loop-t.t-index first) in
    let none = subst (λ o. MatchOption o (is_access_in shells whole t ≡ false) (IsAccessIn bank shells whole)) c.in_default.is c.in_ok-access.ensures.access in
    none_more (is_access_in shells whole) bank c.args.terms.now c.loop-t.t-index first c.loop-t-test.true c.loop-t.invariant none

pub returns-clause-access : goal.returns-clause-access
returns-clause-access c =
    let bank = c.args.bank.now in
    sym c.loop-t.invariant ∙ ap (λ ids. list_any (is_access_in (shells_at bank c.args.shells.now) (terms_at bank c.args.goal.now)) (terms_at bank ids)) (drop_all c.loop-t.t-index c.args.terms.now c.loop-t-test.false)
