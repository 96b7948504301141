use Rattle.std.proofs.Common.{ap, length, Option, Some, subst, sym, ◌≡◌, ◌∙◌}
use Rattle.std.proofs.lemmas.List.{length-map}
use Rattle.std.proofs.lemmas.Result.{on_ok_weaker}
use Rattle.std.specs.Prelude.{OnOk}
use Rattle.nq_logic.specs.Terms.{Symbol}
use Rattle.nq_bank.specs.Content.{text_at}
use Rattle.nq_bank.specs.Shells.{texts_at}
use Rattle.nq_block.specs.Closings.{introduced_by}
use Rattle.nq_block.specs.Writing.{AddsLine, IsNew, IsWriting, frame_at_start, function_line}
use Rattle.nq_block.proofs.RecursionLemmas.{function_begun, none_begun}
use Rattle.nq_block.proofs.writer.Writer.begin.Goals as goal

pub returns-in-Recursion-clause-writing : goal.returns-in-Recursion-clause-writing
returns-in-Recursion-clause-writing c =
    λ h sound names fresh new.
    let bank = c.args.bank.now in
    let f = text_at bank c.in-Recursion.name in
    let k = length (texts_at bank c.in-Recursion.formals.items) in
    let is : introduced_by bank c.args.closing.now ≡ Some (f, k) = ap (introduced_by bank) c.in-Recursion.is in
    let arity : length c.as_slice.result.now ≡ k = ap length c.as_slice.ensures.value ∙ sym (length-map c.in-Recursion.formals.items (text_at bank)) in
    subst (λ (o : Option Symbol). OnOk c.function.result (IsWriting bank (frame_at_start h o) c.function.new.self)) (sym is)
    (on_ok_weaker c.function.result
    (λ adds. function_begun bank h f k c.args.self.now c.function.new.self sound names fresh (subst (IsNew h) is new) (subst (λ n. AddsLine (function_line f n) c.args.self.now c.function.new.self) arity adds)) c.function.ensures.line)

pub returns-in-BootStrap-clause-writing : goal.returns-in-BootStrap-clause-writing
returns-in-BootStrap-clause-writing c = λ h sound names fresh new. none_begun c.args.bank.now h c.args.closing.now c.args.self.now (ap (introduced_by c.args.bank.now) c.in-BootStrap.is) sound names fresh

pub returns-in-Lemma-clause-writing : goal.returns-in-Lemma-clause-writing
returns-in-Lemma-clause-writing c = λ h sound names fresh new. none_begun c.args.bank.now h c.args.closing.now c.args.self.now (ap (introduced_by c.args.bank.now) c.in-Lemma.is) sound names fresh

pub returns-in-Axiomatize-clause-writing : goal.returns-in-Axiomatize-clause-writing
returns-in-Axiomatize-clause-writing c = λ h sound names fresh new. none_begun c.args.bank.now h c.args.closing.now c.args.self.now (ap (introduced_by c.args.bank.now) c.in-Axiomatize.is) sound names fresh

pub returns-in-Dcl-clause-writing : goal.returns-in-Dcl-clause-writing
returns-in-Dcl-clause-writing c = λ h sound names fresh new. none_begun c.args.bank.now h c.args.closing.now c.args.self.now (ap (introduced_by c.args.bank.now) c.in-Dcl.is) sound names fresh

pub returns-in-Defn-clause-writing : goal.returns-in-Defn-clause-writing
returns-in-Defn-clause-writing c = λ h sound names fresh new. none_begun c.args.bank.now h c.args.closing.now c.args.self.now (ap (introduced_by c.args.bank.now) c.in-Defn.is) sound names fresh

pub returns-in-Shell-clause-writing : goal.returns-in-Shell-clause-writing
returns-in-Shell-clause-writing c = λ h sound names fresh new. none_begun c.args.bank.now h c.args.closing.now c.args.self.now (ap (introduced_by c.args.bank.now) c.in-Shell.is) sound names fresh

pub returns-in-Toggle-clause-writing : goal.returns-in-Toggle-clause-writing
returns-in-Toggle-clause-writing c = λ h sound names fresh new. none_begun c.args.bank.now h c.args.closing.now c.args.self.now (ap (introduced_by c.args.bank.now) c.in-Toggle.is) sound names fresh

pub returns-in-Undo-clause-writing : goal.returns-in-Undo-clause-writing
returns-in-Undo-clause-writing c = λ h sound names fresh new. none_begun c.args.bank.now h c.args.closing.now c.args.self.now (ap (introduced_by c.args.bank.now) c.in-Undo.is) sound names fresh
