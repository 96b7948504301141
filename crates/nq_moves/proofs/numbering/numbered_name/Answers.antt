use Rattle.std.proofs.Common.{◌∙◌, sym, subst, arith}
use Rattle.std.specs.Prelude.{IsTrue, IfOk}
use Rattle.nq_logtext.specs.Symbols.{is_symbol}
use Rattle.nq_bank.specs.Content.{NamesText}
use Rattle.nq_kernel.proofs.GrowingLemmas.{WorkGrows-refl}
use Rattle.nq_moves.proofs.NamingLemmas.{numbered_symbol}
use Rattle.nq_moves.proofs.numbering.numbered_name.Goals as goal

pub symbol-requires-clause-symbol : goal.symbol-requires-clause-symbol
symbol-requires-clause-symbol c = subst (λ w. IsTrue (is_symbol w)) (sym (c.as_slice.ensures.value ∙ c.in-Ok.ensures)) (numbered_symbol c.args.number c.requires.number (omega (arith, c.ranges.number.fits)))

pub returns-in-Ok-clause-name : goal.returns-in-Ok-clause-name
returns-in-Ok-clause-name c = subst (λ w. IfOk c.symbol.result (λ s. NamesText c.symbol.new.work.bank s w)) (c.as_slice.ensures.value ∙ c.in-Ok.ensures) c.symbol.ensures.name

pub returns-in-Err-clause-grows : goal.returns-in-Err-clause-grows
returns-in-Err-clause-grows c = WorkGrows-refl c.args.history.now c.args.work.now c.requires.stands
