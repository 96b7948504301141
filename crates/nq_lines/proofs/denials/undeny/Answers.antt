use Rattle.std.proofs.Common.{◌≡◌, ◌∷◌, [], ◌∙◌, refl, subst, inl, inr}
use Rattle.nq_logic.specs.Terms.{Term}
use Rattle.nq_logic.specs.Words.{not_term}
use Rattle.nq_bank.specs.Content.{term_at}
use Rattle.nq_rule.proofs.Made.{for_ok}
use Rattle.nq_kernel.specs.declared.work.Work.{Work}
use Rattle.nq_kernel.specs.Growing.{WorkGrows}
use Rattle.nq_kernel.proofs.GrowingLemmas.{WorkGrows-trans}
use Rattle.nq_lines.specs.Lines.{LineHasOnly, CutsTo, MakesOf}
use Rattle.nq_lines.proofs.Among.{none_among, and_among}
use Rattle.nq_lines.proofs.LineLemmas.{leads_only, line_grown, only_stands, only_more}
use Rattle.nq_lines.proofs.TermLemmas.{term_grown, same_term_grown}
use Rattle.nq_lines.proofs.Chains.{cuts_by, made_by_denial}
use Rattle.nq_lines.proofs.denials.undeny.Goals as goal

pub opposites-requires-clause-term : goal.opposites-requires-clause-term
opposites-requires-clause-term c = (term_grown c.args.history.now c.args.work.now c.deny.new.work c.args.p c.requires.stands c.deny.ensures.grows c.requires.term)

pub cut-requires-clause-first : goal.cut-requires-clause-first
cut-requires-clause-first c = only_stands c.opposites.new.work c.in_ok-law.law _ (leads_only c.opposites.new.work c.in_ok-law.law _ _ c.in_ok-law.ensures.line)

pub cut-requires-clause-second : goal.cut-requires-clause-second
cut-requires-clause-second c = (line_grown c.args.history.now c.args.work.now c.opposites.new.work c.args.line c.requires.stands (WorkGrows-trans c.args.history.now c.args.work.now c.deny.new.work c.opposites.new.work c.deny.ensures.grows c.opposites.ensures.grows) c.requires.line)

pub cut-requires-clause-term : goal.cut-requires-clause-term
cut-requires-clause-term c = (term_grown c.args.history.now c.deny.new.work c.opposites.new.work c.in_ok-denied.denied c.deny.ensures.grows.stands c.opposites.ensures.grows c.in_ok-denied.ensures.over)

pub returns-in_err-law-clause-grows : goal.returns-in_err-law-clause-grows
returns-in_err-law-clause-grows c = (WorkGrows-trans c.args.history.now c.args.work.now c.deny.new.work c.opposites.new.work c.deny.ensures.grows c.opposites.ensures.grows)

pub returns-clause-grows : goal.returns-clause-grows
returns-clause-grows c = (WorkGrows-trans c.args.history.now c.args.work.now c.deny.new.work c.cut.new.work c.deny.ensures.grows (WorkGrows-trans c.args.history.now c.deny.new.work c.opposites.new.work c.cut.new.work c.opposites.ensures.grows c.cut.ensures.grows))

pub returns-clause-line : goal.returns-clause-line
returns-clause-line c =
    let h = c.args.history.now in
    let w0 : Work = c.args.work.now in
    let w1 : Work = c.deny.new.work in
    let w2 : Work = c.opposites.new.work in
    let w3 : Work = c.cut.new.work in
    let g02 : WorkGrows h w0 w2 = (WorkGrows-trans c.args.history.now c.args.work.now c.deny.new.work c.opposites.new.work c.deny.ensures.grows c.opposites.ensures.grows) in
    let p : Term = term_at w0.bank c.args.p in
    let id = c.in_ok-denied.denied in
    let denotes : term_at w1.bank id ≡ not_term p = c.in_ok-denied.ensures.denied.denotes in
    let same : term_at w2.bank c.in_ok-denied.denied ≡ not_term p = (same_term_grown c.args.history.now c.deny.new.work c.opposites.new.work c.in_ok-denied.denied c.opposites.ensures.grows c.in_ok-denied.ensures.over) ∙ c.in_ok-denied.ensures.denied.denotes in
    let law : LineHasOnly w2 c.in_ok-law.law (not_term p ∷ p ∷ []) = only_more w2 c.in_ok-law.law (p ∷ not_term p ∷ []) (not_term p ∷ p ∷ []) (and_among p (not_term p ∷ []) (not_term p ∷ p ∷ []) (inr (inl refl)) (and_among (not_term p) [] (not_term p ∷ p ∷ []) (inl refl) (none_among (not_term p ∷ p ∷ [])))) (subst (λ v. LineHasOnly w2 c.in_ok-law.law (v ∷ not_term v ∷ [])) (same_term_grown h w0 w1 c.args.p c.deny.ensures.grows c.requires.term) (leads_only w2 c.in_ok-law.law _ _ c.in_ok-law.ensures.line)) in
    for_ok c.cut.result (CutsTo w2 w3 (term_at w2.bank c.in_ok-denied.denied) c.in_ok-law.law c.args.line) (MakesOf w0 w3 (not_term (not_term p)) (p) c.args.line) (λ n f.
    made_by_denial h w0 w2 w3 (not_term p) (p) c.args.line c.in_ok-law.law n c.requires.stands g02 law (cuts_by w2 w3 (term_at w2.bank c.in_ok-denied.denied) (not_term p) c.in_ok-law.law c.args.line n same f)) c.cut.ensures.line
