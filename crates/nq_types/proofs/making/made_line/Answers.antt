use Rattle.std.proofs.Common.{◌≡◌, ◌∷◌, ◌∙◌, ◌+◌, [], Some, List, map, sym, ap, subst}
use Rattle.std.specs.Prelude.{IsSome, is_some}
use Rattle.nq_logic.specs.Terms.{Term, substituted}
use Rattle.nq_logic.specs.Shells.{recognizes, made}
use Rattle.nq_proof.specs.Rows.{axiom_clause}
use Rattle.nq_rule.proofs.Made.{for_ok}
use Rattle.nq_bank.specs.Content.{term_at, terms_at, text_at}
use Rattle.nq_bank.proofs.Growth.{text_at-grown}
use Rattle.nq_clause.specs.Substitution.{substitution_at}
use Rattle.nq_history.specs.Events.{events_at}
use Rattle.nq_history.proofs.HistoryLemmas.{events_at-grown}
use Rattle.nq_kernel.specs.declared.work.Work.{Work}
use Rattle.nq_kernel.specs.Growing.{WorkGrows}
use Rattle.nq_kernel.proofs.GrowingLemmas.{WorkGrows-trans}
use Rattle.nq_lines.specs.Lines.{LineHasOnly}
use Rattle.nq_lines.specs.Instances.{HasRow}
use Rattle.nq_types.specs.Parts.{part_bindings}
use Rattle.nq_types.specs.Shown.{IsRecognized}
use Rattle.nq_types.specs.TypeSets.{recognized_by}
use Rattle.nq_types.proofs.PartLemmas.{made_given}
use Rattle.nq_types.proofs.RowLemmas.{made_row}
use Rattle.nq_types.proofs.ShellLemmas.{recognizer_told}
use Rattle.nq_types.proofs.making.made_line.Goals as goal

pub returns-in_err-pairs-clause-grows : goal.returns-in_err-pairs-clause-grows
returns-in_err-pairs-clause-grows c = WorkGrows-trans c.args.history.now c.args.work.now c.arguments_of.new.work c.part_pairs.new.work c.arguments_of.ensures.grows c.part_pairs.ensures.grows

pub axiom_row-requires-clause-axiom : goal.axiom_row-requires-clause-axiom
axiom_row-requires-clause-axiom c =
    let h = c.args.history.now in
    let w0 : Work = c.args.work.now in
    let w2 : Work = c.part_pairs.new.work in
    let g02 : WorkGrows h w0 w2 = WorkGrows-trans h w0 c.arguments_of.new.work w2 c.arguments_of.ensures.grows c.part_pairs.ensures.grows in
    let m = c.requires.made in
    let name : text_at w2.bank c.constructor_at-name.result ≡ m.shell.constructor = text_at-grown w0.bank w2.bank c.constructor_at-name.result g02.bank c.constructor_at-name.ensures.named ∙ c.constructor_at-name.ensures.name m.shell m.at in
    subst (λ x. IsSome (axiom_clause (events_at w2.bank h) x 2 0)) (sym name) (
    subst (λ es. IsSome (axiom_clause es m.shell.constructor 2 0)) (sym (events_at-grown w0.bank w2.bank g02.bank h c.requires.stands.history.entries)) (ap is_some (made_row (events_at w0.bank h) c.requires.ready c.args.place m.shell m.at)))

pub returns-clause-grows : goal.returns-clause-grows
returns-clause-grows c =
    WorkGrows-trans c.args.history.now c.args.work.now c.arguments_of.new.work c.axiom_row.new.work c.arguments_of.ensures.grows (WorkGrows-trans c.args.history.now c.arguments_of.new.work c.part_pairs.new.work c.axiom_row.new.work c.part_pairs.ensures.grows c.axiom_row.ensures.grows)

pub returns-clause-line : goal.returns-clause-line
returns-clause-line c =
    let h = c.args.history.now in
    let w0 : Work = c.args.work.now in
    let w1 : Work = c.arguments_of.new.work in
    let w2 : Work = c.part_pairs.new.work in
    let w3 : Work = c.axiom_row.new.work in
    let g02 : WorkGrows h w0 w2 = WorkGrows-trans h w0 w1 w2 c.arguments_of.ensures.grows c.part_pairs.ensures.grows in
    let es = events_at w0.bank h in
    let m = c.requires.made in
    let t : Term = term_at w0.bank c.args.t in
    let ts : List Term = m.arguments in
    let name = text_at w2.bank c.constructor_at-name.result in
    let named : name ≡ m.shell.constructor = text_at-grown w0.bank w2.bank c.constructor_at-name.result g02.bank c.constructor_at-name.ensures.named ∙ c.constructor_at-name.ensures.name m.shell m.at in
    let literal : Term = recognizes m.shell (made m.shell) in
    let row : axiom_clause (events_at w2.bank h) name 2 0 ≡ Some (literal ∷ []) =
    ap (λ x. axiom_clause (events_at w2.bank h) x 2 0) named ∙ ap (λ x. axiom_clause x m.shell.constructor 2 0) (events_at-grown w0.bank w2.bank g02.bank h c.requires.stands.history.entries) ∙ made_row es c.requires.ready c.args.place m.shell m.at in
    let pairs : substitution_at w2.bank c.in_ok-pairs.pairs.items ≡ part_bindings 0 ts = c.in_ok-pairs.ensures.pairs ∙ ap (λ ids. part_bindings 0 (terms_at w1.bank ids)) c.as_slice.ensures.value ∙ ap (part_bindings 0) (c.in_ok-arguments.ensures.arguments m.shell.constructor ts m.is) in
    let given : substituted (part_bindings 0 ts) (made m.shell) ≡ t = made_given m.shell ts m.count ∙ sym m.is in
    for_ok c.axiom_row.result (HasRow h w2 w3 name 2 0 (substitution_at w2.bank c.in_ok-pairs.pairs.items)) (IsRecognized es w3 t (c.args.place + 2)) (λ n f.
    λ r there.
    subst (λ x. LineHasOnly w3 n (recognized_by x t ∷ [])) (recognizer_told es c.args.place m.shell r m.at there) (
    subst (λ u. LineHasOnly w3 n (recognized_by m.shell.recognizer u ∷ [])) given (
    subst (λ s. LineHasOnly w3 n (map (substituted s) (literal ∷ []))) pairs (f (literal ∷ []) row)))) c.axiom_row.ensures.line
