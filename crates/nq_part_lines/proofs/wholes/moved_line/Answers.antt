use Rattle.std.proofs.Common.{◌∷◌, [], sym, subst}
use Rattle.nq_logic.specs.Terms.{Term}
use Rattle.nq_bank.specs.Content.{term_at}
use Rattle.nq_proof.specs.Rules.{Forwards}
use Rattle.nq_rule.proofs.Made.{for_ok}
use Rattle.nq_lines.specs.Lines.{CanReplace, ReplacesTo}
use Rattle.nq_lines.proofs.TermLemmas.{same_term_grown, term_grown}
use Rattle.nq_replay.proofs.UncountedLemmas.{grown_trans}
use Rattle.nq_part_lines.specs.Replacing.{IsLowChange}
use Rattle.nq_part_lines.specs.Wholes.{MovesTo}
use Rattle.nq_part_lines.proofs.MovedLemmas.{can_first, can_second, low_first, low_second, moves}
use Rattle.nq_part_lines.proofs.wholes.moved_line.Goals as goal

pub replace-requires-clause-term : goal.replace-requires-clause-term
replace-requires-clause-term c = term_grown c.args.history.now c.args.work.now c.opposites.new.work c.args.x c.requires.stands c.opposites.ensures.grows.grows c.requires.term.inside

pub replace-requires-clause-can : goal.replace-requires-clause-can
replace-requires-clause-can c =
    let old = c.args.work.now in
    let one = c.opposites.new.work in
    let same = same_term_grown c.args.history.now old one c.args.x c.opposites.ensures.grows.grows c.requires.term.inside in
    subst (CanReplace one c.in_ok-opposites.opposites (1 ∷ 1 ∷ 1 ∷ [])) (sym same) (can_first (term_at old.bank c.args.smaller) (term_at old.bank c.args.x) c.requires.taken one c.in_ok-opposites.opposites c.in_ok-opposites.ensures.line)

pub replace-requires-clause-low : goal.replace-requires-clause-low
replace-requires-clause-low c =
    let old = c.args.work.now in
    let one = c.opposites.new.work in
    let same = same_term_grown c.args.history.now old one c.args.x c.opposites.ensures.grows.grows c.requires.term.inside in
    subst (IsLowChange one c.in_ok-opposites.opposites (1 ∷ 1 ∷ 1 ∷ [])) (sym same) (low_first (term_at old.bank c.args.smaller) (term_at old.bank c.args.x) c.requires.taken c.requires.smaller.room c.requires.low one c.in_ok-opposites.opposites c.in_ok-opposites.ensures.line)

pub returns-in_err-taken-clause-grows : goal.returns-in_err-taken-clause-grows
returns-in_err-taken-clause-grows c = grown_trans c.args.history.now c.args.work.now c.opposites.new.work c.replace.new.work c.opposites.ensures.grows c.replace.ensures.grows

pub replace-requires-2-clause-term : goal.replace-requires-2-clause-term
replace-requires-2-clause-term c =
    let both = grown_trans c.args.history.now c.args.work.now c.opposites.new.work c.replace.new.work c.opposites.ensures.grows c.replace.ensures.grows in
    term_grown c.args.history.now c.args.work.now c.replace.new.work c.args.x c.requires.stands both.grows c.requires.term.inside

pub replace-requires-2-clause-can : goal.replace-requires-2-clause-can
replace-requires-2-clause-can c =
    let old = c.args.work.now in
    let one = c.opposites.new.work in
    let two = c.replace.new.work in
    let both = grown_trans c.args.history.now old one two c.opposites.ensures.grows c.replace.ensures.grows in
    let same_one = same_term_grown c.args.history.now old one c.args.x c.opposites.ensures.grows.grows c.requires.term.inside in
    let same_two = same_term_grown c.args.history.now old two c.args.x both.grows c.requires.term.inside in
    let x = term_at old.bank c.args.x in
    let replaced : ReplacesTo one two c.in_ok-opposites.opposites (1 ∷ 1 ∷ 1 ∷ []) x Forwards c.in_ok-taken.taken = subst (λ (v : Term). ReplacesTo one two c.in_ok-opposites.opposites (1 ∷ 1 ∷ 1 ∷ []) v Forwards c.in_ok-taken.taken) same_one c.in_ok-taken.ensures.line in
    subst (CanReplace two c.in_ok-taken.taken (2 ∷ 1 ∷ [])) (sym same_two) (can_second (term_at old.bank c.args.smaller) x c.requires.taken one two c.in_ok-opposites.opposites c.in_ok-taken.taken c.in_ok-opposites.ensures.line replaced)

pub replace-requires-2-clause-low : goal.replace-requires-2-clause-low
replace-requires-2-clause-low c =
    let old = c.args.work.now in
    let one = c.opposites.new.work in
    let two = c.replace.new.work in
    let both = grown_trans c.args.history.now old one two c.opposites.ensures.grows c.replace.ensures.grows in
    let same_one = same_term_grown c.args.history.now old one c.args.x c.opposites.ensures.grows.grows c.requires.term.inside in
    let same_two = same_term_grown c.args.history.now old two c.args.x both.grows c.requires.term.inside in
    let x = term_at old.bank c.args.x in
    let replaced : ReplacesTo one two c.in_ok-opposites.opposites (1 ∷ 1 ∷ 1 ∷ []) x Forwards c.in_ok-taken.taken = subst (λ (v : Term). ReplacesTo one two c.in_ok-opposites.opposites (1 ∷ 1 ∷ 1 ∷ []) v Forwards c.in_ok-taken.taken) same_one c.in_ok-taken.ensures.line in
    subst (IsLowChange two c.in_ok-taken.taken (2 ∷ 1 ∷ [])) (sym same_two) (low_second (term_at old.bank c.args.smaller) x c.requires.taken c.requires.smaller.room c.requires.low one two c.in_ok-opposites.opposites c.in_ok-taken.taken c.in_ok-opposites.ensures.line replaced)

pub returns-clause-line : goal.returns-clause-line
returns-clause-line c =
    let old = c.args.work.now in
    let one = c.opposites.new.work in
    let two = c.replace.new.work in
    let three = c.replace-2.new.work in
    let both = grown_trans c.args.history.now old one two c.opposites.ensures.grows c.replace.ensures.grows in
    let same_one = same_term_grown c.args.history.now old one c.args.x c.opposites.ensures.grows.grows c.requires.term.inside in
    let same_two = same_term_grown c.args.history.now old two c.args.x both.grows c.requires.term.inside in
    let x = term_at old.bank c.args.x in
    let smaller = term_at old.bank c.args.smaller in
    let replaced : ReplacesTo one two c.in_ok-opposites.opposites (1 ∷ 1 ∷ 1 ∷ []) x Forwards c.in_ok-taken.taken = subst (λ (v : Term). ReplacesTo one two c.in_ok-opposites.opposites (1 ∷ 1 ∷ 1 ∷ []) v Forwards c.in_ok-taken.taken) same_one c.in_ok-taken.ensures.line in
    for_ok c.replace-2.result (ReplacesTo two three c.in_ok-taken.taken (2 ∷ 1 ∷ []) (term_at two.bank c.args.x) Forwards) (MovesTo three smaller x) (λ n h.
    moves one two three smaller x c.in_ok-opposites.opposites c.in_ok-taken.taken n c.requires.taken c.in_ok-opposites.ensures.line replaced (subst (λ (v : Term). ReplacesTo two three c.in_ok-taken.taken (2 ∷ 1 ∷ []) v Forwards n) same_two h)) c.replace-2.ensures.line

pub returns-clause-grows : goal.returns-clause-grows
returns-clause-grows c =
    grown_trans c.args.history.now c.args.work.now c.opposites.new.work c.replace-2.new.work c.opposites.ensures.grows (grown_trans c.args.history.now c.opposites.new.work c.replace.new.work c.replace-2.new.work c.replace.ensures.grows c.replace-2.ensures.grows)
