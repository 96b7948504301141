use Rattle.std.specs.Prelude.{All, Vec}
use Rattle.std.specs.declared.alloc.Global.{Global}
use Rattle.nq_bank.specs.declared.node.TermId.{TermId}
use Rattle.nq_lines.specs.Lines.{IsTermIn}
use Rattle.nq_schemes.proofs.GrownLemmas.{none_all}
use Rattle.nq_schemes.proofs.owed.nothing_owed.Goals as goal

pub returns : goal.returns
returns c = none_all (λ (g : Vec TermId Global). All (IsTermIn c.args.history.now c.args.work.now) g.items) c.new.result.items c.new.ensures.items
