use Rattle.std.proofs.Common.{◌≡◌, ◌∷◌, ◌++◌, [], ◌∙◌, ℕ, Some, ap}
use Rattle.std.specs.Prelude.{is_some, List}
use Rattle.nq_logic.specs.Terms.{Term}
use Rattle.nq_bank.specs.Content.{term_at}
use Rattle.nq_proof.specs.Clauses.{distinct}
use Rattle.nq_proof.specs.Paths.{replaced_at}
use Rattle.nq_proof.specs.Rules.{used_equation}
use Rattle.nq_rule.proofs.Made.{for_ok}
use Rattle.nq_rule.specs.Sides.{side_of}
use Rattle.nq_kernel.specs.declared.rule.Rule.TheVariants.{Replace}
use Rattle.nq_kernel.specs.Meaning.{clause_at, conclusion_at}
use Rattle.nq_lines.specs.Lines.{ReplacesTo}
use Rattle.nq_lines.proofs.LineLemmas.{leads_distinct, replace_given, with_last_among}
use Rattle.nq_replay.proofs.UncountedLemmas.{all_shallow, grown_refl}
use Rattle.nq_part_lines.proofs.MovedLemmas.{replaced_low}
use Rattle.nq_part_lines.proofs.replacing.replace.Goals as goal

pub add_line-requires-clause-rule : goal.add_line-requires-clause-rule
add_line-requires-clause-rule c = c.requires.term.stands

pub add_line-requires-clause-over : goal.add_line-requires-clause-over
add_line-requires-clause-over c = record { terms = (c.requires.term.over, tt); names = tt }

pub add_line-requires-clause-allowed : goal.add_line-requires-clause-allowed
add_line-requires-clause-allowed c =
    let w = c.args.work.now in
    let u = term_at w.bank c.args.u in
    let can = c.requires.can in
    let changed : replaced_at c.in_ok-places.places.items u can.first ≡ Some can.change = ap (λ (path : List ℕ). replaced_at path u can.first) c.in_ok-places.ensures.items ∙ can.changed in
    ap is_some (replace_given c.args.history.now w c.args.line c.in_ok-places.places c.args.u c.args.side can.first can.leads.rest can.change can.leads.holds changed)

pub add_line-requires-clause-shallow : goal.add_line-requires-clause-shallow
add_line-requires-clause-shallow c =
    let h = c.args.history.now in
    let w = c.args.work.now in
    let u = term_at w.bank c.args.u in
    let can = c.requires.can in
    let changed : replaced_at c.in_ok-places.places.items u can.first ≡ Some can.change = ap (λ (path : List ℕ). replaced_at path u can.first) c.in_ok-places.ensures.items ∙ can.changed in
    let low = c.requires.low can.first can.these can.change can.leads can.changed in
    all_shallow (conclusion_at w.bank h w.log (Replace c.args.line 1 c.in_ok-places.places c.args.u c.args.side)) (distinct (can.change.1 ∷ (can.leads.rest ++ used_equation (side_of c.args.side) can.change.0 u ∷ [])))
    (replace_given h w c.args.line c.in_ok-places.places c.args.u c.args.side can.first can.leads.rest can.change can.leads.holds changed)
    (replaced_low h w c.args.line (side_of c.args.side) can.first u can.leads.rest can.change c.is_sound.ensures c.requires.stands can.leads.holds low)

pub returns-clause-line : goal.returns-clause-line
returns-clause-line c =
    let h = c.args.history.now in
    let w = c.args.work.now in
    let new = c.add_line.new.work in
    let u = term_at w.bank c.args.u in
    let P : ℕ → Type 0 = λ n. clause_at new.bank new.log n ≡ conclusion_at w.bank h w.log (Replace c.args.line 1 c.in_ok-places.places c.args.u c.args.side) in
    for_ok c.add_line.result P (ReplacesTo w new c.args.line c.args.path.now u (side_of c.args.side)) (λ n e first change these leads changed.
    let equation : Term = used_equation (side_of c.args.side) change.0 u in
    let at : replaced_at c.in_ok-places.places.items u first ≡ Some change = ap (λ (path : List ℕ). replaced_at path u first) c.in_ok-places.ensures.items ∙ changed in
    leads_distinct new n change.1 (leads.rest ++ (equation ∷ [])) (equation ∷ these) (e ∙ replace_given h w c.args.line c.in_ok-places.places c.args.u c.args.side first leads.rest change leads.holds at) (with_last_among leads.rest these equation leads.only)) c.add_line.ensures.line

pub returns-in_err-places-clause-grows : goal.returns-in_err-places-clause-grows
returns-in_err-places-clause-grows c = grown_refl c.args.history.now c.args.work.now c.requires.stands
