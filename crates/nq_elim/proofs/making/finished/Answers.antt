use Rattle.std.proofs.Common.{◌≡◌, ◌∷◌, [], ◌∙◌, List, ap}
use Rattle.std.specs.Prelude.{Vec}
use Rattle.std.specs.declared.alloc.Global.{Global}
use Rattle.nq_bank.specs.declared.node.TermId.{TermId}
use Rattle.nq_moves.proofs.NamingLemmas.{some_as}
use Rattle.nq_elim.specs.Cases.{next_ids}
use Rattle.nq_elim.specs.Eliminations.{ids_of}
use Rattle.nq_elim.proofs.WayLemmas.{way_made}
use Rattle.nq_elim.proofs.making.finished.Goals as goal

pub returns-in_ok-nexts-in-Some-clause-way : goal.returns-in_ok-nexts-in-Some-clause-way
returns-in_ok-nexts-in-Some-clause-way c =
    let child : List TermId = c.in-Some.child.items in
    way_made c.args.history.now c.args.work.now c.args.goal.now (record { nexts = c.in_ok-nexts-in-Some.nexts; reason = c.args.reason; renaming = c.args.renaming; moved = c.args.moved }) child c.requires.goal c.requires.reason c.requires.renaming c.requires.moved
    (some_as (λ (v : Vec TermId Global). ids_of c.args.moved.children.items ≡ v.items ∷ []) c.in_ok-child.field-0 c.in-Some.child c.in_ok-child.ensures.child c.in-Some.is) (c.in_ok-nexts-in-Some.ensures.nexts ∙ ap (λ cs. child ∷ next_ids cs c.args.goal.now) c.as_slice.ensures.value)
