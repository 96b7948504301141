use Rattle.std.proofs.Common.{[], ◌∷◌, List, map, ap, subst}
use Rattle.std.specs.Prelude.{is_some}
use Rattle.std.proofs.lemmas.List.{append-nil}
use Rattle.nq_bank.specs.Content.{term_at}
use Rattle.nq_logic.specs.RuleShapes.{rule_parts}
use Rattle.nq_logic.specs.Terms.{Term}
use Rattle.nq_logic.specs.Words.{not_term}
use Rattle.nq_kernel.proofs.GrowingLemmas.{WorkGrows-trans}
use Rattle.nq_lines.specs.Lines.{LineHasOnly}
use Rattle.nq_lines.proofs.LineLemmas.{only_stands}
use Rattle.nq_lines.proofs.TermLemmas.{same_term_grown, term_grown}
use Rattle.nq_rule.proofs.Made.{for_ok}
use Rattle.nq_eliminate.specs.Supposing.{SupposesTo}
use Rattle.nq_eliminate.proofs.SupposingLemmas.{holds_only}
use Rattle.nq_eliminate.proofs.supposing.rule_line.Goals as goal

pub event_line-requires-clause-event : goal.event_line-requires-clause-event
event_line-requires-clause-event c = ap is_some c.requires.event

pub supposed-requires-clause-term : goal.supposed-requires-clause-term
supposed-requires-clause-term c = term_grown c.args.history.now c.args.work.now c.event_line.new.work c.args.t c.requires.stands c.event_line.ensures.grows c.requires.term

pub supposed-requires-clause-line : goal.supposed-requires-clause-line
supposed-requires-clause-line c =
    let t = term_at c.args.work.now.bank c.args.t in
    only_stands c.event_line.new.work c.in_ok-line.line (t ∷ []) (holds_only c.event_line.new.work c.in_ok-line.line (t ∷ []) (c.in_ok-line.ensures.line t c.requires.event))

pub returns-clause-line : goal.returns-clause-line
returns-clause-line c =
    let w = c.args.work.now in
    let w1 = c.event_line.new.work in
    let w2 = c.supposed.new.work in
    let t = term_at w.bank c.args.t in
    let same = same_term_grown c.args.history.now w w1 c.args.t c.event_line.ensures.grows c.requires.term in
    for_ok c.supposed.result (SupposesTo w1 w2 (term_at w1.bank c.args.t) c.in_ok-line.line) (λ n. LineHasOnly w2 n ((rule_parts t).conclusion ∷ map not_term (rule_parts t).hypotheses))
    (λ n supposes.
    subst (λ (hs : List Term). LineHasOnly w2 n ((rule_parts t).conclusion ∷ hs)) (append-nil (map not_term (rule_parts t).hypotheses))
    (subst (λ u. SupposesTo w1 w2 u c.in_ok-line.line n) same supposes [] (holds_only w1 c.in_ok-line.line (t ∷ []) (c.in_ok-line.ensures.line t c.requires.event)))) c.supposed.ensures.line

pub returns-clause-grows : goal.returns-clause-grows
returns-clause-grows c = WorkGrows-trans c.args.history.now c.args.work.now c.event_line.new.work c.supposed.new.work c.event_line.ensures.grows c.supposed.ensures.grows
