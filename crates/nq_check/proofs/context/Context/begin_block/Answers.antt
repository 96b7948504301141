use Rattle.std.proofs.Common.{refl}
use Rattle.std.specs.Prelude.{None}
use Rattle.nq_check.proofs.ContextLemmas.{whole_begun, state_begun}
use Rattle.nq_check.proofs.context.Context.begin_block.Goals as goal

pub returns-clause-whole : goal.returns-clause-whole
returns-clause-whole c kept = whole_begun (record c.args.self.now { terms = c.clear.new.self; log = c.new.result; parts = c.clear-2.new.self; cases = c.clear-3.new.self; introduced = None; measure = None }) kept refl c.clear.ensures.items c.new.ensures c.clear-2.ensures.items

pub returns-clause-state : goal.returns-clause-state
returns-clause-state c = state_begun (record c.args.self.now { terms = c.clear.new.self; log = c.new.result; parts = c.clear-2.new.self; cases = c.clear-3.new.self; introduced = None; measure = None }) refl c.clear.ensures.items c.new.ensures c.clear-2.ensures.items c.clear-3.ensures.items refl
