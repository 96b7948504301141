-- The measure of a hint as a bank grows.
use Rattle.std.proofs.Common.{◌≡◌, List, ℕ, map, ap, ap₂}
use Rattle.nq_logic.specs.Terms.{Term}
use Rattle.nq_bank.specs.Content.{Content, Grows, text_at}
use Rattle.nq_bank.specs.declared.node.Sym.{Sym}
use Rattle.nq_bank.specs.Shells.{texts_at}
use Rattle.nq_bank.proofs.Growth.{text_at-grown, term_at-grown}
use Rattle.nq_event.specs.declared.event.Measure.{Measure}
use Rattle.nq_event.specs.EventsAt.{measure_at, MeasureStands}

pub measure_same : (old new : Content) (m : Measure) → Grows old new → MeasureStands old m → measure_at new m ≡ measure_at old m
measure_same old new m grows stands = ap₂ (λ (n : List ℕ) (t : Term). record { relation = n; term = t }) (text_at-grown old new m.relation grows stands.relation) (term_at-grown old new m.term grows stands.measure)

pub texts_still : (old new : Content) (names : List Sym) → new.names ≡ old.names → texts_at new names ≡ texts_at old names
texts_still old new names e = ap (λ ns. map (λ s. text_at (record { names = ns; terms = old.terms }) s) names) e
