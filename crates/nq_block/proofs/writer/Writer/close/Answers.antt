use Rattle.std.proofs.Common.{sym, subst}
use Rattle.nq_block.specs.Writing.{WritesClosing, WritesDefinition}
use Rattle.nq_block.proofs.writer.Writer.close.Goals as goal

pub returns-in-BootStrap : goal.returns-in-BootStrap
returns-in-BootStrap c = subst (WritesClosing c.args.bank.now c.args.self.now c.bootstrap.result c.bootstrap.new.self) (sym c.in-BootStrap.is) (c.bootstrap.ensures c.args.bank.now)

pub returns-in-Defn : goal.returns-in-Defn
returns-in-Defn c =
    let bank = c.args.bank.now in
    let defined = subst (λ names. WritesDefinition bank c.args.self.now c.definition.result c.definition.new.self c.in-Defn.name names c.in-Defn.body) c.as_slice.ensures.value c.definition.ensures in
    subst (WritesClosing bank c.args.self.now c.definition.result c.definition.new.self) (sym c.in-Defn.is) defined
