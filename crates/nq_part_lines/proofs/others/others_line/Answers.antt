use Rattle.std.proofs.Common.{◌∷◌, [], sym, subst}
use Rattle.nq_logic.specs.Words.{equal_term}
use Rattle.nq_bank.specs.Content.{term_at}
use Rattle.nq_rule.proofs.Made.{for_ok}
use Rattle.nq_arith.specs.Nests.{is_smaller}
use Rattle.nq_lines.specs.Lines.{LineHasOnly}
use Rattle.nq_lines.proofs.LineLemmas.{only_grown}
use Rattle.nq_replay.proofs.UncountedLemmas.{grown_trans}
use Rattle.nq_part_lines.specs.Defaulted.{others_literals}
use Rattle.nq_part_lines.proofs.TakenLemmas.{five_moved, five_small}
use Rattle.nq_part_lines.proofs.others.others_line.Goals as goal

pub others_cuts-requires-clause-terms : goal.others_cuts-requires-clause-terms
others_cuts-requires-clause-terms c = five_small c.args.history.now c.args.work.now c.others_law.new.work c.requires.stands c.others_law.ensures.grows.grows c.args.terms c.requires.terms

pub others_cuts-requires-clause-law : goal.others_cuts-requires-clause-law
others_cuts-requires-clause-law c =
    let new = c.others_law.new.work in
    subst (LineHasOnly new c.in_ok-law.law) (sym (five_moved c.args.history.now c.args.work.now new c.requires.stands c.others_law.ensures.grows.grows (λ a b x y z. others_literals a b x y) c.args.terms c.requires.terms)) c.in_ok-law.ensures.line

pub others_cuts-requires-clause-small : goal.others_cuts-requires-clause-small
others_cuts-requires-clause-small c =
    let new = c.others_law.new.work in
    subst (LineHasOnly new c.args.small) (sym (five_moved c.args.history.now c.args.work.now new c.requires.stands c.others_law.ensures.grows.grows (λ a b x y z. is_smaller x y ∷ []) c.args.terms c.requires.terms))
    (only_grown c.args.history.now c.args.work.now new c.args.small _ c.requires.stands c.others_law.ensures.grows.grows c.requires.small)

pub others_cuts-requires-clause-same : goal.others_cuts-requires-clause-same
others_cuts-requires-clause-same c =
    let new = c.others_law.new.work in
    subst (LineHasOnly new c.args.same) (sym (five_moved c.args.history.now c.args.work.now new c.requires.stands c.others_law.ensures.grows.grows (λ a b x y z. z ∷ equal_term b y ∷ []) c.args.terms c.requires.terms))
    (only_grown c.args.history.now c.args.work.now new c.args.same _ c.requires.stands c.others_law.ensures.grows.grows c.requires.same)

pub others_cuts-requires-clause-wrong : goal.others_cuts-requires-clause-wrong
others_cuts-requires-clause-wrong c =
    let new = c.others_law.new.work in
    subst (LineHasOnly new c.args.wrong) (sym (five_moved c.args.history.now c.args.work.now new c.requires.stands c.others_law.ensures.grows.grows (λ a b x y z. z ∷ equal_term a x ∷ []) c.args.terms c.requires.terms))
    (only_grown c.args.history.now c.args.work.now new c.args.wrong _ c.requires.stands c.others_law.ensures.grows.grows c.requires.wrong)

pub returns-clause-line : goal.returns-clause-line
returns-clause-line c =
    let old = c.args.work.now in
    let mid = c.others_law.new.work in
    let new = c.others_cuts.new.work in
    let t = c.args.terms in
    for_ok c.others_cuts.result (λ n. LineHasOnly new n (term_at mid.bank t.z ∷ is_smaller (term_at mid.bank t.a) (term_at mid.bank t.b) ∷ [])) (λ n. LineHasOnly new n (term_at old.bank t.z ∷ is_smaller (term_at old.bank t.a) (term_at old.bank t.b) ∷ [])) (λ n line.
    subst (LineHasOnly new n) (five_moved c.args.history.now old mid c.requires.stands c.others_law.ensures.grows.grows (λ a b x y z. z ∷ is_smaller a b ∷ []) t c.requires.terms) line) c.others_cuts.ensures.line

pub returns-clause-grows : goal.returns-clause-grows
returns-clause-grows c = grown_trans c.args.history.now c.args.work.now c.others_law.new.work c.others_cuts.new.work c.others_law.ensures.grows c.others_cuts.ensures.grows
