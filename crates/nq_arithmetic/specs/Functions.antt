-- The functions of which facts speak.
use Rattle.std.specs.Prelude.{ℕ}
use Rattle.nq_logic.specs.Terms.{IsAmong}
use Rattle.nq_logic.specs.Histories.{History}
use Rattle.nq_logic.specs.Ground.{symbols_of}
use Rattle.nq_bank.specs.declared.node.Sym.{Sym}
use Rattle.nq_bank.specs.Soundness.{ground_text}

-- the ground name is a function of so many arguments in every history
abbrev pub IsFunctionOf : Sym → ℕ → Type 0
IsFunctionOf f n = (h : History) → IsAmong (ground_text f, n) (symbols_of h)
