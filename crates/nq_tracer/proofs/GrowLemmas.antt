-- Pairs, tests and terms over a bank that grows.
use Rattle.std.proofs.Common.{◌≡◌, Bool, true, false, List, [], ◌∷◌, refl, ap, ap₂, subst}
use Rattle.std.specs.Prelude.{All}
use Rattle.nq_logic.specs.Terms.{Term, Substitution, substituted}
use Rattle.nq_logic.specs.Words.{not_term}
use Rattle.nq_bank.specs.declared.node.TermId.{TermId}
use Rattle.nq_bank.specs.Content.{Content, Grows, IsIdOf}
use Rattle.nq_bank.proofs.Growth.{Stands-grown, IsNamed-grown, term_at-grown}
use Rattle.nq_bank.proofs.NodesLemmas.{All-head, All-tail}
use Rattle.nq_clause.specs.declared.substitution.Pair.{Pair}
use Rattle.nq_clause.specs.Substitution.{PairStands}
use Rattle.nq_event.proofs.GrownLemmas.{all_keep, pairs_stay}
use Rattle.nq_calls.specs.declared.calls.Guard.{Guard}
use Rattle.nq_calls.specs.Calls.{GuardStands, guard_at, guards_at, signed}
use Rattle.nq_event.specs.EventsAt.{pair_at}

pub pairs_keep : (old new : Content) (pairs : List Pair) → Grows old new → All (PairStands old) pairs → All (PairStands new) pairs
pairs_keep old new pairs grows stand = all_keep PairStands pair_at pairs_stay old new grows pairs stand

pub pair_keeps : (old new : Content) (p : Pair) → Grows old new → PairStands old p → PairStands new p
pair_keeps old new p grows h = record { variable = IsNamed-grown old new p.variable grows h.variable; term = Stands-grown old new p.term grows h.term }

pub guards_keep : (old new : Content) (guards : List Guard) → Grows old new → All (GuardStands old) guards → All (GuardStands new) guards
guards_keep old new guards grows stand = λ i d below. Stands-grown old new _ grows (stand i d below)

pub guard_same : (old new : Content) (g : Guard) → Grows old new → GuardStands old g → guard_at new g ≡ guard_at old g
guard_same old new g grows h = ap (signed g.holds) (term_at-grown old new g.test grows h)

pub guards_same : (old new : Content) (guards : List Guard) → Grows old new → All (GuardStands old) guards → guards_at new guards ≡ guards_at old guards
guards_same old new [] grows h = refl
guards_same old new (g ∷ guards) grows h =
    ap₂ (λ (t : Term) (ts : List Term). t ∷ ts) (guard_same old new g grows (All-head (GuardStands old) g guards h)) (guards_same old new guards grows (All-tail (GuardStands old) g guards h))

-- a test that holds, and one that fails
pub signed_true : (s : Substitution) (b : Bool) (t : Term) → b ≡ true → substituted s (signed b t) ≡ substituted s t
signed_true s b t e = ap (λ c. substituted s (signed c t)) e

pub signed_false : (s : Substitution) (b : Bool) (t : Term) → b ≡ false → substituted s (signed b t) ≡ not_term (substituted s t)
signed_false s b t e = ap (λ c. substituted s (signed c t)) e

-- an id of a term, by an equation
pub id_by : (bank : Content) (t : TermId) (a b : Term) → a ≡ b → IsIdOf bank t a → IsIdOf bank t b
id_by bank t a b e is = subst (IsIdOf bank t) e is
