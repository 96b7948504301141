use Rattle.nq_bank.specs.declared.node.Sym.{Sym}
use Rattle.nq_bank.specs.Content.{Names, NamesText}
use Rattle.nq_rule.proofs.Made.{for_ok}
use Rattle.nq_steps.proofs.NameLemmas.{one_name}
use Rattle.nq_replay.proofs.UncountedLemmas.{names_grow, bank_uncounted}
use Rattle.nq_part_lines.proofs.lines.symbol.Goals as goal

pub returns-clause-name : goal.returns-clause-name
returns-clause-name c =
    let P : Sym → Type 0 = λ s. Names c.args.work.now.bank c.name.new.self s c.args.text.now in
    let Q : Sym → Type 0 = λ s. NamesText c.name.new.self s c.args.text.now in
    for_ok c.name.result P Q (λ s h. record { named = h.named; reads = h.reads }) c.name.ensures.ok

pub returns-clause-grows : goal.returns-clause-grows
returns-clause-grows c = bank_uncounted c.args.history.now c.args.work.now c.name.new.self c.requires.stands (names_grow c.args.work.now.bank c.name.new.self c.name.result c.args.text.now c.name.ensures.ok c.name.ensures.err) (one_name c.args.work.now.bank c.name.new.self c.name.result c.args.text.now c.requires.symbol c.name.ensures.ok c.name.ensures.err)
