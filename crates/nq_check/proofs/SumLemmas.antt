-- Runs of multiples, each with its literal.
use Rattle.std.proofs.Common.{◌≡◌, List, [], ◌∷◌, ◌++◌, map, refl, ap, ◌∙◌}
use Rattle.std.specs.Prelude.{Option, Some, None}
use Rattle.std.specs.List.{flat_map}
use Rattle.nq_logtext.specs.Reading.{◌>>=◌}
use Rattle.nq_logtext.specs.declared.line.Multiple as line
use Rattle.nq_logtext.specs.Views.{of_multiple}
use Rattle.nq_logic.specs.Terms.{Term}
use Rattle.nq_proof.specs.Rules.{Summand}
use Rattle.nq_log.specs.States.{Block, term_at}
use Rattle.nq_log.specs.Fields.{Multiple, multiples_in}
use Rattle.nq_log.specs.RuleLines.{side_of, summands_at}
use Rattle.nq_check.specs.Sums.{multiple_of, summand_in}
use Rattle.nq_check.proofs.NumberLemmas.{with_front, by_rest}

pub multiples_again : (ms : List line.Multiple) → multiples_in (flat_map of_multiple ms) ≡ Some (map multiple_of ms)
multiples_again [] = refl
multiples_again (m ∷ ms) = ap (λ (o : Option (List Multiple)). o >>= λ rest. Some (multiple_of m ∷ rest)) (multiples_again ms)

-- one summand, and then the others
by_literal : (m : Multiple) (rest : Option (List Summand)) (t : Option Term) →
    (t >>= λ t. rest >>= λ ss. Some (record { factor = m.factor; literal = t; side = side_of m.sign } ∷ ss))
    ≡ ((t >>= λ t. Some (record { factor = m.factor; literal = t; side = side_of m.sign })) >>= λ s. rest >>= λ ss. Some (s ∷ ss))
by_literal m rest None = refl
by_literal m rest (Some t) = refl

summand_first : (block : Block) (m : Multiple) (ms : List Multiple) → summands_at block (m ∷ ms) ≡ (summand_in block m >>= λ s. summands_at block ms >>= λ ss. Some (s ∷ ss))
summand_first block m ms = by_literal m (summands_at block ms) (term_at block m.term)

pub summands_more : (block : Block) (m : Multiple) (ms : List Multiple) (xs : List Summand) (s : Summand) → summand_in block m ≡ Some s →
    with_front xs (summands_at block (m ∷ ms)) ≡ with_front (xs ++ (s ∷ [])) (summands_at block ms)
summands_more block m ms xs s e =
    ap (with_front xs) (summand_first block m ms) ∙ ap (λ (o : Option Summand). with_front xs (o >>= λ s. summands_at block ms >>= λ ss. Some (s ∷ ss))) e ∙ by_rest xs s (summands_at block ms)

pub summands_stop : (block : Block) (m : Multiple) (ms : List Multiple) (xs : List Summand) → summand_in block m ≡ None → with_front xs (summands_at block (m ∷ ms)) ≡ None
summands_stop block m ms xs e =
    ap (with_front xs) (summand_first block m ms) ∙ ap (λ (o : Option Summand). with_front xs (o >>= λ s. summands_at block ms >>= λ ss. Some (s ∷ ss))) e
