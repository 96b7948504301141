-- The parts of rules over ids.
use Rattle.nq_bank.specs.Content.{Content, Stands, term_at}
use Rattle.nq_goals.specs.Normal.{PartKind as KindOfTerms, Everywhere as EverywhereOf, Permutes as PermutesOf, Literally as LiterallyOf}
use Rattle.nq_normal.specs.declared.parts.PartKind.{PartKind}
use Rattle.nq_normal.specs.declared.parts.PartKind.TheVariants.{Everywhere, Permutes, Literally}

abbrev pub kind_at : Content → PartKind → KindOfTerms
kind_at bank (Everywhere left) = EverywhereOf (term_at bank left)
kind_at bank Permutes = PermutesOf
kind_at bank Literally = LiterallyOf

abbrev pub KindStands : Content → PartKind → Type 0
KindStands bank (Everywhere left) = Stands bank left
KindStands bank Permutes = Unit {0}
KindStands bank Literally = Unit {0}
