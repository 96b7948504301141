-- Instances of lines over the history's own functions are not too deep.
use Rattle.std.proofs.Common.{◌≤◌, ◌+◌, Some, List, [], ◌∷◌, map, refl, sym, subst, inl, inr, arith}
use Rattle.nq_logic.specs.Terms.{Symbol, Term, IsTerm, IsAmong, Each, Substitution, substituted}
use Rattle.nq_logic.specs.Sizes.{depth_of, depth_limit}
use Rattle.nq_proof.specs.Clauses.{Clause}
use Rattle.nq_proof.specs.Rules.{pair_terms}
use Rattle.nq_rule.specs.Results.{instance_of}
use Rattle.nq_lines.proofs.LineLemmas.{from_distinct}
use Rattle.nq_replay.specs.Uncounted.{IsShallow}
use Rattle.nq_replay.proofs.UncountedLemmas.{all_shallow}
use Rattle.nq_part_lines.specs.LawLines.{term_room}
use Rattle.nq_part_lines.specs.Known.{row_room}
use Rattle.nq_part_lines.proofs.DepthLemmas.{instance_depth}

module _ (symbols : List Symbol) (s : Substitution) (room : Each (λ t. depth_of t ≤ term_room) (pair_terms s)) where
  among_images : (c : Clause) → Each (IsTerm symbols) c → Each (λ t. depth_of t ≤ row_room) c → (u : Term) → IsAmong u (map (substituted s) c) → depth_of u ≤ depth_limit
  among_images [] over low u m = absurd m
  among_images (t ∷ c) over low u (inl e) =
      let little : depth_of t ≤ row_room = low.0 in
      let deep : depth_of (substituted s t) ≤ depth_of t + term_room = instance_depth symbols s term_room room (omega arith) t over.0 in
      let within : depth_of (substituted s t) ≤ depth_limit = omega (arith, little, deep) in
      subst (λ v. depth_of v ≤ depth_limit) (sym e) within
  among_images (t ∷ c) over low u (inr m) = among_images c over.1 low.1 u m

  pub own_shallow : (c : Clause) → Each (IsTerm symbols) c → Each (λ t. depth_of t ≤ row_room) c → IsShallow (Some (instance_of s c))
  own_shallow c over low = all_shallow (Some (instance_of s c)) (instance_of s c) refl (λ u m. among_images c over low u (from_distinct u (map (substituted s) c) m))
