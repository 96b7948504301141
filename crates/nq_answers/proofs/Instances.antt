-- An instance of an earlier axiom or lemma is derivable.
use Rattle.std.proofs.Common.{ℕ, refl, ap, sym, subst}
use Rattle.std.specs.Prelude.{Some, None, List, [], ◌∷◌, Option}
use Rattle.nq_logic.specs.Terms.{Term, IsTerm}
use Rattle.nq_logic.specs.Formulas.{holds, clause}
use Rattle.nq_logic.specs.Histories.{History}
use Rattle.nq_logic.specs.Ground.{symbols_of}
use Rattle.nq_logic.specs.Derivations.{Derivable}
use Rattle.nq_logic.proofs.Clauses.{instance_law}
use Rattle.nq_proof.specs.Laws.{LinesHold}
use Rattle.nq_proof.specs.Rules.{EventTerm, given}
use Rattle.nq_proof.proofs.SoundRules.{soundness_law}
use Rattle.nq_log.specs.Laws.{IsSound}
use Rattle.nq_log.proofs.Events.{closed_history, lemmas_hold}
use Rattle.nq_fragments.specs.Instances.{IsEarlierInstance}

-- the lines of an empty log
abbrev no_line : ℕ → Option (List Term)
no_line n = None

no_line_holds : (h : History) → LinesHold h no_line
no_line_holds h n c e = absurd cc

-- What an axiom or a lemma says is derivable by the rule that cites it; an instance follows, whatever else is substituted.
pub instance_derivable : (h : History) (t : Term) → IsSound h → IsTerm (symbols_of h) t → IsEarlierInstance h t → Derivable h (holds t)
instance_derivable h t sound over found =
    let event : Derivable h (clause (found.pattern ∷ [])) =
    soundness_law h no_line (EventTerm found.name) (found.pattern ∷ []) refl (closed_history h sound) (lemmas_hold h sound) (no_line_holds h) tt
    (ap (λ o. given o (λ u. Some (u ∷ []))) found.event) in
    subst (λ u. Derivable h (holds u)) found.instance_is
    (instance_law h found.pairs (found.pattern ∷ []) event (subst (IsTerm (symbols_of h)) (sym found.instance_is) over, tt))
