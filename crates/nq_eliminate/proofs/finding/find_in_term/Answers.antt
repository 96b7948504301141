use Rattle.nq_bank.specs.Content.{term_at, terms_at, text_at}
use Rattle.std.specs.Prelude.{MatchOption}
use Rattle.nq_rule.proofs.Made.{for_ok}
use Rattle.nq_moves.proofs.NumberingLemmas.{some_is}
use Rattle.nq_eliminate.specs.Finding.{HasNoRule, IsRule, TermServes, TermServesNone}
use Rattle.nq_eliminate.specs.Serving.{IsServedBy, NoneServe, destructors_in}
use Rattle.nq_eliminate.proofs.FindingLemmas.{if_none, match_mapped, term_serves, term_serves_none}
use Rattle.nq_eliminate.proofs.finding.find_in_term.Goals as goal

pub find_served-requires-clause-rule : goal.find_served-requires-clause-rule
find_served-requires-clause-rule c =
    let bank = c.args.bank.now in
    let t = term_at bank c.args.t in
    (some_is (HasNoRule t) (IsRule bank t) c.rule_of.result c.in-Some.rule c.rule_of.ensures c.in-Some.is).is

pub returns-in-Some : goal.returns-in-Some
returns-in-Some c =
    let bank = c.args.bank.now in
    let t = term_at bank c.args.t in
    let g = terms_at bank c.args.goal.now in
    let us = terms_at bank c.args.calls.now in
    let r = c.in-Some.rule in
    let is = some_is (HasNoRule t) (IsRule bank t) c.rule_of.result r c.rule_of.ensures c.in-Some.is in
    let N = NoneServe (text_at bank r.name) g (term_at bank r.made_of) us in
    let S = IsServedBy bank g (destructors_in (text_at bank r.name) (term_at bank r.made_of)) (destructors_in (text_at bank r.name) (term_at bank r.made_of)) r in
    for_ok c.find_served.result (λ found. MatchOption found N S) (λ found. MatchOption found (TermServesNone g us t) (TermServes bank g t))
    (λ found told. match_mapped N (TermServesNone g us t) S (TermServes bank g t) found (term_serves_none bank g us t r is) (term_serves bank g us t r is) told) c.find_served.ensures

pub returns-in-None : goal.returns-in-None
returns-in-None c =
    let bank = c.args.bank.now in
    let t = term_at bank c.args.t in
    λ rule m. absurd (if_none (HasNoRule t) (IsRule bank t) c.rule_of.result c.in-None.is c.rule_of.ensures rule m)
