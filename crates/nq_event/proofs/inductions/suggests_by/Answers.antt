use Rattle.std.proofs.Common.{ap, ◌∙◌}
use Rattle.nq_logic.specs.Admissible.{matched}
use Rattle.nq_logic.specs.RuleShapes.{variables_of}
use Rattle.nq_bank.specs.Content.{term_at, terms_at}
use Rattle.nq_bank.specs.Shells.{texts_at}
use Rattle.nq_bank.proofs.Growth.{term_at-grown}
use Rattle.nq_history.proofs.ShellLemmas.{texts-grown}
use Rattle.nq_events.specs.Inductions.{are_distinct_names, measured, names_of}
use Rattle.nq_event.proofs.inductions.suggests_by.Goals as goal

pub returns-clause-is : goal.returns-clause-is
returns-clause-is c =
    let old = c.args.bank.now in
    let new = c.arguments_of.new.bank in
    let m = c.args.measure in
    let formals = c.args.formals.now in
    let grows = c.arguments_of.ensures.grows in
    c.are_distinct_variables.ensures ∙ ap (λ ids. are_distinct_names (names_of (terms_at new ids))) c.as_slice-2.ensures.value ∙
    ap (λ ts. are_distinct_names (names_of ts)) c.in_ok-variables.ensures.are ∙
    ap (λ t. are_distinct_names (names_of (measured (variables_of t) (matched (texts_at new formals) (terms_at new c.as_slice.result.now))))) (term_at-grown old new m grows c.requires.measure) ∙
    ap (λ xs. are_distinct_names (names_of (measured (variables_of (term_at old m)) (matched xs (terms_at new c.as_slice.result.now))))) (texts-grown old new grows formals c.requires.formals) ∙
    ap (λ ts. are_distinct_names (names_of (measured (variables_of (term_at old m)) (matched (texts_at old formals) ts)))) (ap (terms_at new) c.as_slice.ensures.value ∙ c.in_ok-arguments.ensures.are)
