use Rattle.std.proofs.Common.{◌≡◌, ◌∙◌, sym, Some}
use Rattle.nq_bank.specs.Content.{term_at}
use Rattle.nq_rule.proofs.Made.{for_ok}
use Rattle.nq_proof.specs.Rules.{Forwards}
use Rattle.nq_kernel.specs.declared.work.Work.{Work}
use Rattle.nq_kernel.specs.Growing.{WorkGrows}
use Rattle.nq_kernel.proofs.GrowingLemmas.{WorkGrows-trans}
use Rattle.nq_lines.specs.Lines.{IsTermIn, DischargesTo}
use Rattle.nq_lines.proofs.LineLemmas.{leads_only, line_grown, only_stands}
use Rattle.nq_lines.proofs.TermLemmas.{term_grown, same_term_grown}
use Rattle.nq_rule.specs.Results.{with_argument}
use Rattle.nq_history.specs.Events.{events_at}
use Rattle.nq_logic.specs.Ground.{symbols_of}
use Rattle.nq_lines.specs.Lines.{CarriesTo}
use Rattle.nq_lines.proofs.EqualityLemmas.{carried_line}
use Rattle.nq_lines.proofs.Chains.{discharges_by}
use Rattle.nq_lines.proofs.ArgumentLemmas.{argument_over}
use Rattle.nq_lines.proofs.calls.congruent_line.Goals as goal

some_same : {A : Type 0} {a b : A} → Some a ≡ Some b → a ≡ b
some_same e = cc

pub discharge-requires-clause-left : goal.discharge-requires-clause-left
discharge-requires-clause-left c =
    let w0 = c.args.work.now in
    let over = argument_over (symbols_of (events_at w0.bank c.args.history.now)) (term_at w0.bank c.args.t) c.args.place (term_at w0.bank c.argument_at-a.result) c.requires.call.over c.argument_at-a.ensures.argument in
    term_grown c.args.history.now w0 c.congruence.new.work c.argument_at-a.result c.requires.stands c.congruence.ensures.grows (record { stands = c.argument_at-a.ensures.stands; over = over })

pub discharge-requires-clause-right : goal.discharge-requires-clause-right
discharge-requires-clause-right c = term_grown c.args.history.now c.args.work.now c.congruence.new.work c.args.u c.requires.stands c.congruence.ensures.grows c.requires.argument

pub discharge-requires-clause-line : goal.discharge-requires-clause-line
discharge-requires-clause-line c = only_stands c.congruence.new.work c.in_ok-law.law _ (leads_only c.congruence.new.work c.in_ok-law.law _ _ (c.in_ok-law.ensures.line (term_at c.args.work.now.bank c.argument_at-a.result) c.argument_at-a.ensures.argument))

pub discharge-requires-clause-equation : goal.discharge-requires-clause-equation
discharge-requires-clause-equation c = line_grown c.args.history.now c.args.work.now c.congruence.new.work c.args.equation c.requires.stands c.congruence.ensures.grows c.requires.equation

pub returns-clause-grows : goal.returns-clause-grows
returns-clause-grows c = (WorkGrows-trans c.args.history.now c.args.work.now c.congruence.new.work c.discharge.new.work c.congruence.ensures.grows c.discharge.ensures.grows)

pub returns-clause-line : goal.returns-clause-line
returns-clause-line c =
    let h = c.args.history.now in
    let w0 : Work = c.args.work.now in
    let w1 : Work = c.congruence.new.work in
    let w2 : Work = c.discharge.new.work in
    let g01 : WorkGrows h w0 w1 = c.congruence.ensures.grows in
    let g02 : WorkGrows h w0 w2 = (WorkGrows-trans c.args.history.now c.args.work.now c.congruence.new.work c.discharge.new.work c.congruence.ensures.grows c.discharge.ensures.grows) in
    let g12 : WorkGrows h w1 w2 = c.discharge.ensures.grows in
    let t = term_at w0.bank c.args.t in
    let u = term_at w0.bank c.args.u in
    let id = c.argument_at-a.result in
    let b = term_at w0.bank id in
    let over = argument_over (symbols_of (events_at w0.bank h)) t c.args.place b c.requires.call.over c.argument_at-a.ensures.argument in
    let known : IsTermIn h w0 id = record { stands = c.argument_at-a.ensures.stands; over = over } in
    let b1 : term_at w1.bank id ≡ b = same_term_grown h w0 w1 id g01 known in
    let u1 : term_at w1.bank c.args.u ≡ u = same_term_grown h w0 w1 c.args.u g01 c.requires.argument in
    for_ok c.discharge.result (DischargesTo w1 w2 Forwards (term_at w1.bank id) (term_at w1.bank c.args.u) c.in_ok-law.law c.args.equation) (CarriesTo w0 w2 c.args.place t u c.args.equation) (λ n f a these at here.
    let same : b ≡ a = some_same (sym c.argument_at-a.ensures.argument ∙ at) in
    carried_line h w0 w1 w2 t (with_argument c.args.place u t) a u c.args.equation c.in_ok-law.law n these c.requires.stands g01 (c.in_ok-law.ensures.line a at)
    (discharges_by w1 w2 Forwards (term_at w1.bank id) (term_at w1.bank c.args.u) a u c.in_ok-law.law c.args.equation n (b1 ∙ same) u1 f) here) c.discharge.ensures.line
