use Rattle.std.proofs.Common.{◌∙◌, ap}
use Rattle.std.specs.Prelude.{Vec}
use Rattle.std.specs.declared.alloc.Global.{Global}
use Rattle.nq_bank.specs.declared.node.TermId.{TermId}
use Rattle.nq_moves.specs.Found.{goals_at}
use Rattle.nq_moves.proofs.EliminatedLemmas.{eliminated_move}
use Rattle.nq_moves.proofs.eliminating.eliminate_by.Goals as goal

pub returns-clause-moved : goal.returns-clause-moved
returns-clause-moved c =
    eliminated_move c.args.history.now c.args.work.now c.children_of.new.work c.requires.stands c.children_of.ensures.grows c.args.goal.now c.requires.goal c.args.e c.requires.serves c.moved_by.result c.in_ok-children.children c.moved_by.ensures.kind c.moved_by.ensures.children
    c.moved_by.ensures.kept c.in_ok-children.ensures.children c.in_ok-children.ensures.over

pub returns-clause-leads : goal.returns-clause-leads
returns-clause-leads c = ap (λ (v : Vec (Vec TermId Global) Global). goals_at c.children_of.new.work.bank v.items) c.moved_by.ensures.children ∙ c.in_ok-children.ensures.children
