-- What hints mean over a bank.
use Rattle.std.specs.Prelude.{All, IfSome}
use Rattle.nq_bank.specs.Content.{Content, Stands, IsNamed}
use Rattle.nq_clause.specs.Substitution.{PairStands}
use Rattle.nq_history.specs.declared.hints.Instance.{Instance}
use Rattle.nq_history.specs.declared.hints.Hints.{Hints}

-- the names and terms of the instance stand in the bank
pub record InstanceStands (bank : Content) (i : Instance) : Type 0 where
  pub name : IsNamed bank i.name
  pub pairs : All (PairStands bank) i.pairs.items

-- the names and terms of the hints stand in the bank
pub record HintsStand (bank : Content) (hints : Hints) : Type 0 where
  pub instances : All (InstanceStands bank) hints.instances.items
  pub enable : All (IsNamed bank) hints.enable.items
  pub disable : All (IsNamed bank) hints.disable.items
  pub expand : All (Stands bank) hints.expand.items
  pub induct : IfSome hints.induct (Stands bank)
  pub hands_off : All (IsNamed bank) hints.hands_off.items
