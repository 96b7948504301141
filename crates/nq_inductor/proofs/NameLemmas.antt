-- Banks that got no name.
use Rattle.std.proofs.Common.{◌≡◌, ◌∙◌, length, sym, arith}
use Rattle.std.proofs.lemmas.List.{take_all}
use Rattle.nq_bank.specs.Content.{Content, Grows}

-- a bank that grew has the names that it had, where there are as many
pub names_kept : (old new : Content) → Grows old new → length new.names ≡ length old.names → new.names ≡ old.names
names_kept old new grows count = sym (take_all (length old.names) new.names (omega (arith, count))) ∙ grows.names
