-- A body, and an instance of it, walked side by side.
use Rattle.std.specs.Prelude.{◌<◌}
use Rattle.nq_bank.specs.Content.{Content, Stands}
use Rattle.nq_schemes.specs.declared.parted.Place.{Place}

-- both terms stand
pub record PlaceStands (bank : Content) (p : Place) : Type 0 where
  pub body : Stands bank p.body
  pub here : Stands bank p.here

-- the part stands, and its body is earlier than the whole one
pub record IsPartOf (bank : Content) (whole part : Place) : Type 0 where
  pub stands : PlaceStands bank part
  pub earlier : part.body.0 < whole.body.0
