use Rattle.nq_proof.proofs.KeptSymbols.{kept_symbols_law}
use Rattle.nq_proof.proofs.kept_symbols.Goals as goal

pub returns : goal.returns
returns c = kept_symbols_law
