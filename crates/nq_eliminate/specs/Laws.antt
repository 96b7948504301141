-- What the list of eliminations promises.
use Rattle.std.specs.Prelude.{◌≡◌, []}
use Rattle.nq_logic.specs.Terms.{IsAmong}
use Rattle.nq_logic.specs.Histories.{History}
use Rattle.nq_proof.specs.Clauses.{Clause}
use Rattle.nq_events.specs.Events.{Hints}
use Rattle.nq_goals.specs.Eliminating.{Eliminating, EliminateCandidate, eliminations_of}
use Rattle.nq_eliminate.specs.Finding.{HasNoneOfEvents}
use Rattle.nq_eliminate.specs.Shells.{HasNoneOfShells}

-- where the list is empty, no elimination is a candidate, whatever its variables are
abbrev pub NoneIsNone : Type 0
NoneIsNone = (h : History) (hints : Hints) (goal : Clause) → eliminations_of h hints goal ≡ [] → (e : Eliminating) → EliminateCandidate h hints goal e → ⊥

-- each elimination of the list is a candidate
abbrev pub ListedAreCandidates : Type 0
ListedAreCandidates = (h : History) (hints : Hints) (goal : Clause) (e : Eliminating) → IsAmong e (eliminations_of h hints goal) → EliminateCandidate h hints goal e

-- each candidate is by the rule of a shell, or by that of an axiom or a lemma
abbrev pub RulesSuffice : Type 0
RulesSuffice = (h : History) (hints : Hints) (goal : Clause) → HasNoneOfEvents h hints goal → HasNoneOfShells h goal → (e : Eliminating) → EliminateCandidate h hints goal e → ⊥
