use Rattle.std.proofs.Common.{◌≡◌, ◌∙◌, ◌++◌, ◌∷◌, [], take, get_or, sym, ap}
use Rattle.std.specs.declared.alloc.Global.{Global}
use Rattle.std.specs.Prelude.{Vec}
use Rattle.nq_bank.specs.declared.node.TermId.{TermId}
use Rattle.nq_simplify.specs.Simplified.{literals_but}
use Rattle.nq_simplify.proofs.LeavingLemmas.{but_dropped, but_kept_on}
use Rattle.nq_simplify.proofs.leaving.literals_but.Goals.{then-ne+in_ok-push, else-ne}
use Rattle.nq_simplify.proofs.leaving.literals_but.Goals as goal

pub loop-t-preserved : goal.loop-t-preserved
loop-t-preserved c =
    let d : TermId = record { 0 = 0 } in
    let i = c.loop-t.t-index in
    let so_far : c.loop-t.kept.items ≡ literals_but c.args.falsity (take i c.args.goal.now) = c.loop-t.invariant in
    elim c.if-ne.branch [
      | then-ne+in_ok-push w ↦ ap (λ (v : Vec TermId Global). v.items) w.kept-is ∙ w.in_ok-push.ensures.items ∙ ap (λ ts. ts ++ (get_or c.args.goal.now i d ∷ [])) so_far ∙ sym (but_kept_on c.args.falsity c.args.goal.now i d c.loop-t-test.true (sym c.ne.ensures ∙ w.if-ne.true))
      | else-ne w ↦ ap (λ (v : Vec TermId Global). v.items) w.kept-is ∙ so_far ∙ sym (but_dropped c.args.falsity c.args.goal.now i d c.loop-t-test.true (sym c.ne.ensures ∙ w.if-ne.false))
    ]
