use Rattle.std.proofs.Common.{◌≡◌, ◌∙◌, List, length, refl, ap, arith}
use Rattle.std.proofs.lemmas.Bool.Decides.{nat_tests}
use Rattle.nq_logic.specs.Admissible.{matched}
use Rattle.nq_bank.specs.declared.node.TermId.{TermId}
use Rattle.nq_bank.specs.declared.node.Sym.{Sym}
use Rattle.nq_bank.specs.Content.{Content, text_at, terms_at}
use Rattle.nq_bank.specs.Shells.{texts_at}
use Rattle.nq_clause.specs.Substitution.{substitution_at}
use Rattle.nq_history.specs.Events.{events_at}
use Rattle.nq_eval.specs.Opened.{IsDefinedBy}
use Rattle.nq_eval.proofs.DefinedLemmas.{undefined_unopened, unopened_count, defined_opens}
use Rattle.nq_eval.proofs.openings.definition_opening.Goals as goal

pub returns-in_default : goal.returns-in_default
returns-in_default c =
    undefined_unopened c.args.work.now.bank c.args.history.now c.args.call.now.term c.args.f c.args.call.now.values.items c.requires.other c.requires.call.is c.in_default.ensures

pub returns-then-formals-len : goal.returns-then-formals-len
returns-then-formals-len c =
    let formals : List Sym = c.in-Some.formals.now in
    let values : List TermId = c.args.call.now.values.items in
    let counted = c.len.ensures in
    let test = c.if-formals-len.true in
    unopened_count c.args.work.now.bank c.args.history.now c.args.call.now.term c.args.f formals values c.requires.other c.requires.call.is c.in-Some.ensures
    (λ e. let same : length formals ≡ length values = e in grind (arith, nat_tests))

pub returns : goal.returns
returns c =
    let bank : Content = c.args.work.now.bank in
    let formals : List Sym = c.in-Some.formals.now in
    let values : List TermId = c.args.call.now.values.items in
    let by : IsDefinedBy bank (events_at bank c.args.history.now) c.args.f formals = c.in-Some.ensures in
    let counted = c.len.ensures in
    let test = c.if-formals-len.false in
    let same : length formals ≡ length values = grind (arith, nat_tests) in
    let reads : substitution_at bank c.in_ok-pairs.pairs.items ≡ matched (texts_at bank formals) (terms_at bank values) = c.in_ok-pairs.ensures.pairs ∙ ap (λ (xs : List TermId). matched (texts_at bank formals) (terms_at bank xs)) c.as_slice.ensures.value in
    defined_opens bank c.args.history.now c.args.call.now.term c.args.f formals values c.requires.other c.requires.call.is by (record { name = c.args.f; row = 1; pairs = c.in_ok-pairs.pairs }) same refl refl c.requires.call.name (c.requires.definitions.each (text_at bank c.args.f) by.definition by.event) c.requires.call.small c.in_ok-pairs.ensures.stand reads
