use Rattle.std.proofs.Common.{◌≡◌, ◌∙◌, ◌<◌, ◌^◌, ◌++◌, Option, Some, [], ap, subst, sym}
use Rattle.std.proofs.lemmas.Result.{on_ok_weaker}
use Rattle.std.specs.Prelude.{All, ◌∷◌}
use Rattle.std.specs.List.{flat_map}
use Rattle.nq_logtext.specs.Views.{one_number}
use Rattle.nq_logtext.specs.Lines.{HasKinds}
use Rattle.nq_logtext.specs.Fields.{name, number, of_number}
use Rattle.nq_logtext.specs.declared.word.Word.TheVariants as word
use Rattle.nq_logic.specs.Terms.{Symbol}
use Rattle.nq_logic.specs.Ground.{symbols_of}
use Rattle.nq_bank.specs.Content.{text_at, term_at}
use Rattle.nq_bank.specs.Shells.{texts_at}
use Rattle.nq_kernel.specs.Over.{IsTermOf, IsVariable}
use Rattle.nq_log.specs.States.{introduced_symbols, term_at as block_term_at, variables_at}
use Rattle.nq_block.specs.declared.writer.Writer.{Writer}
use Rattle.nq_block.specs.Writing.{AddsLine, Numbers, block_of, measure_line, number_in}
use Rattle.nq_block.proofs.RuleLemmas.{after, names_fit, names_found, term_fits, term_number}
use Rattle.nq_block.proofs.RecursionLemmas.{definition_closed, measure_led}
use Rattle.nq_block.proofs.writer.Writer.recursion.Goals as goal

pub returns : goal.returns
returns c =
    λ frame v introduced parts cases can.
    let bank = c.args.bank.now in
    let x = text_at bank c.args.name in
    let formals = c.args.formals.now in
    let t = c.args.body in
    let m = c.args.measured.now.measure in
    let o = c.args.measured.now.ordinal in
    let rs = c.args.measured.now.falls.items in
    let old = c.variables_of.new.self in
    let mid = c.measure.new.self in
    let new = c.put.new.self in
    let over = subst (λ (i : Option Symbol). IsTermOf IsVariable (introduced_symbols i ++ symbols_of frame.history) (term_at bank t)) (sym introduced) can.over in
    let first = c.in_ok-term.ensures.within frame v over in
    let second = c.in_ok-term-2.ensures.writing frame first can.measure_over in
    let whole = c.in_ok-formals.ensures.writing frame second can.spelled in
    let body = c.in_ok-formals.ensures.keeps.terms t (c.in_ok-term-2.ensures.keeps.terms t c.in_ok-term.ensures.written) in
    let measure = c.in_ok-formals.ensures.keeps.terms m c.in_ok-term-2.ensures.written in
    let names = c.in_ok-formals.ensures.written in
    let k = c.number-measure.result in
    let found = subst (λ n. block_term_at (block_of frame whole.waiting whole.terms) n ≡ Some (term_at bank m)) (sym c.number-measure.ensures) (term_number bank frame old whole m measure) in
    let k_fits = subst (λ n. n < 2 ^ 64) (sym c.number-measure.ensures) (term_fits bank frame old whole m measure) in
    let fit = subst (All (λ r. r < 2 ^ 64)) c.as_slice.ensures.value c.in_ok-lines.ensures.fit in
    let line = subst (λ ls. AddsLine (measure_line k o ls) old mid) (c.in_ok-lines.ensures.items ∙ c.as_slice.ensures.value) c.in_ok-measure.ensures.line in
    let led = measure_led bank frame old mid new whole x formals t m o rs can k found k_fits c.in_ok-measure.ensures.fits fit line in
    let n = c.number-body.result in
    let ns = c.in_ok-formals.formals.items in
    let same_terms : mid.terms ≡ old.terms = ap (λ (w : Writer). w.terms) c.in_ok-measure.ensures.line in
    let same_body : n ≡ number_in old.terms t.0 = c.number-body.ensures ∙ ap (λ (known : Numbers). number_in known t.0) same_terms in
    let found_body = subst (λ n. block_term_at (block_of frame whole.waiting whole.terms) n ≡ Some (term_at bank t)) (sym same_body) (term_number bank frame old whole t body) in
    let n_fits = subst (λ n. n < 2 ^ 64) (sym same_body) (term_fits bank frame old whole t body) in
    let found_names = subst (λ ns. variables_at (block_of frame whole.waiting whole.terms) ns ≡ Some (texts_at bank formals)) (sym c.in_ok-formals.ensures.numbers) (names_found bank frame old whole formals names) in
    let ns_fit = subst (λ ns. HasKinds (of_number ∷ []) [] (flat_map one_number ns)) (sym c.in_ok-formals.ensures.numbers) (names_fit bank frame old whole formals names) in
    on_ok_weaker c.put.result
    (λ adds. definition_closed bank frame old mid new whole x formals t m o rs can n k ns introduced parts cases found found_body found_names n_fits ns_fit led
    (subst (λ f. AddsLine (after word.Defn (name f ∷ number n ∷ flat_map one_number ns)) mid new) (c.in_ok-function.ensures ∙ c.text.ensures.value) adds))
    c.put.ensures.line
