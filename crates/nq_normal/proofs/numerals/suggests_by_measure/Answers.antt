use Rattle.std.proofs.Common.{drop, get_or}
use Rattle.nq_bank.specs.declared.node.Sym.{Sym}
use Rattle.nq_bank.specs.Content.{text_at, term_at}
use Rattle.nq_bank.specs.Shells.{texts_at}
use Rattle.nq_normal.specs.Definitions.{definition_at}
use Rattle.nq_normal.proofs.NumeralLemmas.{first_formal, suggests_with}
use Rattle.nq_normal.proofs.numerals.suggests_by_measure.Goals as goal

pub returns-in_ok-stands-in-len1-up : goal.returns-in_ok-stands-in-len1-up
returns-in_ok-stands-in-len1-up c =
    let s : Sym = record { 0 = 0 } in
    let bank = c.args.bank.now in
    let formals = c.args.definition.formals.now in
    λ n.
    suggests_with (definition_at bank c.args.definition) (term_at bank c.args.measure) (text_at bank (get_or formals 0 s)) (texts_at bank (drop 1 formals)) c.in_ok-stands-in-len1-up.stands n
    (first_formal bank formals s c.in-len1-up.len_at_least) c.in_ok-stands-in-len1-up.ensures
