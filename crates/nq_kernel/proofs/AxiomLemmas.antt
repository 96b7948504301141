-- Literals made by steps that are too deep.
use Rattle.std.proofs.Common.{List, [], ◌∷◌, inl, inr, refl}
use Rattle.nq_logic.specs.Terms.{Term}
use Rattle.nq_steps.specs.Steps as steps
use Rattle.nq_rule.specs.Conclusions.{HasDeep}

pub deep_literal : (ts : List Term) → steps.HasDeep ts → HasDeep ts
deep_literal [] h = absurd h
deep_literal (t ∷ ts) (inl h) = record { term = t; among = inl refl; deep = h }
deep_literal (t ∷ ts) (inr h) = let r = deep_literal ts h in record { term = r.term; among = inr r.among; deep = r.deep }
