use Rattle.std.proofs.Common.{◌∙◌, [], ◌∷◌, ◌++◌, ap}
use Rattle.std.specs.Prelude.{Vec}
use Rattle.std.specs.declared.alloc.Global.{Global}
use Rattle.nq_bank.specs.declared.node.TermId.{TermId}
use Rattle.nq_eliminate.specs.Literals.{joined}
use Rattle.nq_eliminate.proofs.LiteralLemmas.{ids_assoc, joined-all, joined-more}
use Rattle.nq_eliminate.proofs.literals.known_terms.Goals as goal

pub loop-earlier-preserved : goal.loop-earlier-preserved
loop-earlier-preserved c =
    let g : Vec TermId Global = c.earlier-item.result in
    joined-more c.args.path.now c.loop-earlier.earlier-index g g c.loop-earlier.all.items c.put_all.new.ids.items c.loop-earlier-test.true c.earlier-item.is c.loop-earlier.invariant (c.in_ok-put_all.ensures.ok ∙ ap (λ xs. c.loop-earlier.all.items ++ xs) c.as_slice.ensures.value)

pub returns-clause-all : goal.returns-clause-all
returns-clause-all c =
    c.in_ok-put_all-3.ensures.ok
    ∙ ap (λ ids. ids ++ c.args.others.now)
    (c.in_ok-push_id.ensures.ok
    ∙ ap (λ ids. ids ++ c.args.t ∷ []) (joined-all c.args.path.now c.args.goal.now c.loop-earlier.all.items c.put_all-2.new.ids.items c.loop-earlier.earlier-index c.loop-earlier-test.false c.loop-earlier.invariant c.in_ok-put_all-2.ensures.ok))
    ∙ ids_assoc (joined c.args.path.now ++ c.args.goal.now) (c.args.t ∷ []) c.args.others.now
