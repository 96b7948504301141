use Rattle.std.proofs.Common.{◌≡◌, ◌∷◌, [], ap₂, subst}
use Rattle.nq_logic.specs.Words.{equal_term}
use Rattle.nq_logic.proofs.Symbols.{equal_symbol}
use Rattle.nq_bank.specs.Content.{term_at}
use Rattle.nq_history.specs.Events.{events_at}
use Rattle.nq_rule.proofs.Made.{for_ok}
use Rattle.nq_arith.specs.Nests.{is_smaller}
use Rattle.nq_lines.specs.Lines.{CutsTo, LineHasOnly}
use Rattle.nq_lines.proofs.LineLemmas.{line_grown, only_grown, only_stands}
use Rattle.nq_lines.proofs.TermLemmas.{same_term_grown}
use Rattle.nq_replay.proofs.UncountedLemmas.{grown_trans}
use Rattle.nq_part_lines.specs.Defaulted.{others_literals}
use Rattle.nq_part_lines.proofs.DefaultedLemmas.{others_cut}
use Rattle.nq_part_lines.proofs.KnownGrowth.{four_steps, three_steps}
use Rattle.nq_part_lines.proofs.ReadingLemmas.{small_grown}
use Rattle.nq_part_lines.proofs.others.others_cuts.Goals as goal

pub smaller_term-requires-clause-left : goal.smaller_term-requires-clause-left
smaller_term-requires-clause-left c = c.requires.terms.x.inside

pub smaller_term-requires-clause-right : goal.smaller_term-requires-clause-right
smaller_term-requires-clause-right c = c.requires.terms.y.inside

pub smaller_term-requires-clause-left_room : goal.smaller_term-requires-clause-left_room
smaller_term-requires-clause-left_room c = c.requires.terms.x.room

pub smaller_term-requires-clause-right_room : goal.smaller_term-requires-clause-right_room
smaller_term-requires-clause-right_room c = c.requires.terms.y.room

pub cut-requires-clause-first : goal.cut-requires-clause-first
cut-requires-clause-first c = line_grown c.args.history.now c.args.work.now c.smaller_term.new.work c.args.small c.requires.stands c.smaller_term.ensures.grows.grows (only_stands c.args.work.now c.args.small _ c.requires.small)

pub cut-requires-clause-second : goal.cut-requires-clause-second
cut-requires-clause-second c = line_grown c.args.history.now c.args.work.now c.smaller_term.new.work c.args.law c.requires.stands c.smaller_term.ensures.grows.grows (only_stands c.args.work.now c.args.law _ c.requires.law)

pub cut_by-requires-clause-first : goal.cut_by-requires-clause-first
cut_by-requires-clause-first c =
    let grows = grown_trans c.args.history.now c.args.work.now c.smaller_term.new.work c.cut.new.work c.smaller_term.ensures.grows c.cut.ensures.grows in
    line_grown c.args.history.now c.args.work.now c.cut.new.work c.args.same c.requires.stands grows.grows (only_stands c.args.work.now c.args.same _ c.requires.same)

pub cut_by-requires-clause-symbol : goal.cut_by-requires-clause-symbol
cut_by-requires-clause-symbol c = equal_symbol (events_at c.cut.new.work.bank c.args.history.now)

pub cut_by-requires-clause-left : goal.cut_by-requires-clause-left
cut_by-requires-clause-left c =
    let grows = grown_trans c.args.history.now c.args.work.now c.smaller_term.new.work c.cut.new.work c.smaller_term.ensures.grows c.cut.ensures.grows in
    small_grown c.args.history.now c.args.work.now c.cut.new.work c.args.terms.b c.requires.stands grows.grows c.requires.terms.b

pub cut_by-requires-clause-right : goal.cut_by-requires-clause-right
cut_by-requires-clause-right c =
    let grows = grown_trans c.args.history.now c.args.work.now c.smaller_term.new.work c.cut.new.work c.smaller_term.ensures.grows c.cut.ensures.grows in
    small_grown c.args.history.now c.args.work.now c.cut.new.work c.args.terms.y c.requires.stands grows.grows c.requires.terms.y

pub cut_by-requires-2-clause-first : goal.cut_by-requires-2-clause-first
cut_by-requires-2-clause-first c =
    let grows = three_steps c.args.history.now c.args.work.now c.smaller_term.new.work c.cut.new.work c.cut_by.new.work c.smaller_term.ensures.grows c.cut.ensures.grows c.cut_by.ensures.grows in
    line_grown c.args.history.now c.args.work.now c.cut_by.new.work c.args.wrong c.requires.stands grows.grows (only_stands c.args.work.now c.args.wrong _ c.requires.wrong)

pub cut_by-requires-2-clause-symbol : goal.cut_by-requires-2-clause-symbol
cut_by-requires-2-clause-symbol c = equal_symbol (events_at c.cut_by.new.work.bank c.args.history.now)

pub cut_by-requires-2-clause-left : goal.cut_by-requires-2-clause-left
cut_by-requires-2-clause-left c =
    let grows = three_steps c.args.history.now c.args.work.now c.smaller_term.new.work c.cut.new.work c.cut_by.new.work c.smaller_term.ensures.grows c.cut.ensures.grows c.cut_by.ensures.grows in
    small_grown c.args.history.now c.args.work.now c.cut_by.new.work c.args.terms.a c.requires.stands grows.grows c.requires.terms.a

pub cut_by-requires-2-clause-right : goal.cut_by-requires-2-clause-right
cut_by-requires-2-clause-right c =
    let grows = three_steps c.args.history.now c.args.work.now c.smaller_term.new.work c.cut.new.work c.cut_by.new.work c.smaller_term.ensures.grows c.cut.ensures.grows c.cut_by.ensures.grows in
    small_grown c.args.history.now c.args.work.now c.cut_by.new.work c.args.terms.x c.requires.stands grows.grows c.requires.terms.x

pub returns-in_err-first-clause-grows : goal.returns-in_err-first-clause-grows
returns-in_err-first-clause-grows c = grown_trans c.args.history.now c.args.work.now c.smaller_term.new.work c.cut.new.work c.smaller_term.ensures.grows c.cut.ensures.grows

pub returns-in_err-second-clause-grows : goal.returns-in_err-second-clause-grows
returns-in_err-second-clause-grows c = three_steps c.args.history.now c.args.work.now c.smaller_term.new.work c.cut.new.work c.cut_by.new.work c.smaller_term.ensures.grows c.cut.ensures.grows c.cut_by.ensures.grows

pub returns-clause-grows : goal.returns-clause-grows
returns-clause-grows c = four_steps c.args.history.now c.args.work.now c.smaller_term.new.work c.cut.new.work c.cut_by.new.work c.smaller_term.ensures.grows c.cut.ensures.grows c.cut_by.ensures.grows c.cut_by-2.new.work c.cut_by-2.ensures.grows

pub returns-clause-line : goal.returns-clause-line
returns-clause-line c =
    let h = c.args.history.now in
    let w0 = c.args.work.now in
    let w1 = c.smaller_term.new.work in
    let w2 = c.cut.new.work in
    let w3 = c.cut_by.new.work in
    let w4 = c.cut_by-2.new.work in
    let t = c.args.terms in
    let k = c.requires.terms in
    let a = term_at w0.bank t.a in
    let b = term_at w0.bank t.b in
    let x = term_at w0.bank t.x in
    let y = term_at w0.bank t.y in
    let z = term_at w0.bank t.z in
    let one = c.smaller_term.ensures.grows in
    let two = grown_trans h w0 w1 w2 one c.cut.ensures.grows in
    let three = three_steps h w0 w1 w2 w3 one c.cut.ensures.grows c.cut_by.ensures.grows in
    let same_b : term_at w2.bank t.b ≡ b = same_term_grown h w0 w2 t.b two.grows k.b.inside in
    let same_y : term_at w2.bank t.y ≡ y = same_term_grown h w0 w2 t.y two.grows k.y.inside in
    let same_a : term_at w3.bank t.a ≡ a = same_term_grown h w0 w3 t.a three.grows k.a.inside in
    let same_x : term_at w3.bank t.x ≡ x = same_term_grown h w0 w3 t.x three.grows k.x.inside in
    for_ok c.cut_by-2.result (CutsTo w3 w4 (equal_term (term_at w3.bank t.a) (term_at w3.bank t.x)) c.args.wrong c.in_ok-second.second) (λ n. LineHasOnly w4 n (z ∷ is_smaller a b ∷ [])) (λ n cuts.
    others_cut w1 w2 w3 w4 a b x y z c.args.law c.args.small c.args.same c.args.wrong c.in_ok-first.first c.in_ok-second.second n
    (only_grown h w0 w1 c.args.law (others_literals a b x y) c.requires.stands one.grows c.requires.law)
    (only_grown h w0 w1 c.args.small (is_smaller x y ∷ []) c.requires.stands one.grows c.requires.small)
    (only_grown h w0 w2 c.args.same (z ∷ equal_term b y ∷ []) c.requires.stands two.grows c.requires.same)
    (only_grown h w0 w3 c.args.wrong (z ∷ equal_term a x ∷ []) c.requires.stands three.grows c.requires.wrong)
    (subst (λ v. CutsTo w1 w2 v c.args.small c.args.law c.in_ok-first.first) c.in_ok-smaller.ensures.smaller.denotes c.in_ok-first.ensures.line)
    (subst (λ v. CutsTo w2 w3 v c.args.same c.in_ok-first.first c.in_ok-second.second) (ap₂ equal_term same_b same_y) c.in_ok-second.ensures.line)
    (subst (λ v. CutsTo w3 w4 v c.args.wrong c.in_ok-second.second n) (ap₂ equal_term same_a same_x) cuts)) c.cut_by-2.ensures.line
