-- The names that a bank gets.
use Rattle.std.specs.Prelude.{◌≡◌, ◌++◌, IsTrue, List}
use Rattle.nq_logic.specs.Terms.{Name, Each}
use Rattle.nq_logtext.specs.Symbols.{is_symbol}
use Rattle.nq_bank.specs.Content.{Content}

-- each name that the bank got is a symbol in upper case
pub record AddsSymbols (old new : Content) : Type 0 where
  pub more : List Name
  pub names : new.names ≡ old.names ++ more
  pub symbols : Each (λ n. IsTrue (is_symbol n)) more
