use Rattle.std.proofs.Common.{◌≡◌, sym, ap, refl, ◌∙◌}
use Rattle.std.specs.Prelude.{map}
use Rattle.nq_form.specs.Form.{Form, symbol}
use Rattle.nq_form.specs.Bytes.{upper}
use Rattle.nq_form.specs.Kinds.{Kind}
use Rattle.nq_form.specs.Machine.{given, judged, takes}
use Rattle.nq_sexp.specs.Stacks.{stack_of}
use Rattle.nq_sexp.proofs.Stacks.{leads-as}
use Rattle.nq_sexp.proofs.TokenKinds.{symbol-kind, number-kind, wide-kind, bad-kind}
use Rattle.nq_sexp.proofs.Trees.{tree-Symbol, tree-Numeral}
use Rattle.nq_sexp.proofs.stack.Stack.judge.Goals as goal

pub returns-in_ok-name-in-Symbol : goal.returns-in_ok-name-in-Symbol
returns-in_ok-name-in-Symbol c =
    let k = stack_of c.args.self.now in
    let same : c.in_ok-name-in-Symbol.field-0.now ≡ map upper c.args.word.now = c.in_ok-name-in-Symbol.ensures ∙ c.deref.ensures.value ∙ c.in_ok-upper-in-Symbol.ensures in
    leads-as _ _ _ _ _ _
    (ap (λ (z : Form). given (takes k) k z) (tree-Symbol _ ∙ ap symbol same) ∙ sym (ap (λ (z : Kind). judged z c.args.place k) (symbol-kind c.args.word.now c.in-Symbol.ensures))) refl c.give_form.ensures

pub returns-in-Numeral : goal.returns-in-Numeral
returns-in-Numeral c =
    let k = stack_of c.args.self.now in
    leads-as _ _ _ _ _ _
    (ap (λ (z : Form). given (takes k) k z) (tree-Numeral c.in-Numeral.negative c.in-Numeral.n) ∙ sym (ap (λ (z : Kind). judged z c.args.place k) (number-kind c.args.word.now _ _ c.in-Numeral.ensures))) refl
    c.give_form-in-Numeral.ensures

pub returns-in-TooWide : goal.returns-in-TooWide
returns-in-TooWide c = ap (λ (z : Kind). judged z c.args.place (stack_of c.args.self.now)) (wide-kind c.args.word.now c.in-TooWide.ensures)

pub returns-in-Bad : goal.returns-in-Bad
returns-in-Bad c = ap (λ (z : Kind). judged z c.args.place (stack_of c.args.self.now)) (bad-kind c.args.word.now c.in-Bad.ensures)
