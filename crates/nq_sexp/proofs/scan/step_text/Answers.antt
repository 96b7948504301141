use Rattle.std.proofs.Common.{◌≡◌, ℕ, Bool, true, false, List, [], nat_eq, ap, sym, ◌∙◌}
use Rattle.std.specs.Prelude.{not}
use Rattle.nq_form.specs.Form.{Form, text}
use Rattle.nq_form.specs.Machine.{Stack as StackPart, Mode as ModePart, word, live, give, string_step}
use Rattle.nq_sexp.specs.Stacks.{stack_of}
use Rattle.nq_sexp.specs.Modes.{mode_of}
use Rattle.nq_sexp.proofs.Trees.{tree-Str}
use Rattle.nq_sexp.proofs.scan.step_text.Goals as goal

-- the quotation mark that ends a string
string-closed : (escaped : Bool) (b p : ℕ) (bytes : List ℕ) (k new : StackPart) (m : ModePart) (g : Form) → not escaped ≡ true → b ≡ 34 → new ≡ give k g → g ≡ text bytes → m ≡ word 0 []
    → string_step escaped (nat_eq b 34) (nat_eq b 92) p bytes k b ≡ live new m
string-closed true b p bytes k new m g e f h i j = cc
string-closed false b p bytes k new m g e f h i j =
    ap (λ (z : ℕ). string_step false (nat_eq z 34) (nat_eq z 92) p bytes k z) f
    ∙ sym (ap (λ (z : StackPart). live z m) (h ∙ ap (λ (z : Form). give k z) i) ∙ ap (λ (z : ModePart). live (give k (text bytes)) z) j)

pub returns-then-byte-eq34 : goal.returns-then-byte-eq34
returns-then-byte-eq34 c =
    let same = c.in_ok-copy.ensures ∙ c.deref.ensures.value in
    string-closed c.args.escaped c.args.byte c.args.place c.args.text.items (stack_of c.args.stack.now) (stack_of c.give.new.self) (mode_of c.idle.result) _ (ap not c.if-not-escaped.true) c.if-byte-eq34.true c.in_ok-give.ensures
    (tree-Str _ ∙ ap text same) c.idle.ensures
