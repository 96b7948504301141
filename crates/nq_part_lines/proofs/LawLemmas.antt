-- Instances of laws are not too deep.
use Rattle.std.proofs.Common.{◌≡◌, ◌≤◌, ◌+◌, true, Some, List, [], ◌∷◌, map, refl, sym, subst, inl, inr, arith}
use Rattle.std.specs.Prelude.{nat_le}
use Rattle.std.specs.List.{list_all}
use Rattle.std.proofs.lemmas.Bool.{leb-true}
use Rattle.nq_logic.specs.Terms.{Term, IsTerm, IsAmong, Each, Substitution, substituted}
use Rattle.nq_logic.specs.Ground.{symbols_of}
use Rattle.nq_logic.specs.Sizes.{depth_of, depth_limit}
use Rattle.nq_proof.specs.Clauses.{Clause}
use Rattle.nq_proof.specs.Rules.{pair_terms}
use Rattle.nq_proof.specs.Logs.{are_terms}
use Rattle.nq_proof.proofs.Tests.{and_left, and_right}
use Rattle.nq_proof.proofs.TermTests.{are_terms_is}
use Rattle.nq_rule.specs.Results.{instance_of}
use Rattle.nq_lines.proofs.LineLemmas.{from_distinct}
use Rattle.nq_replay.specs.Uncounted.{IsShallow}
use Rattle.nq_replay.proofs.UncountedLemmas.{all_shallow}
use Rattle.nq_part_lines.specs.LawLines.{is_law, IsLaw, law_depth, term_room}
use Rattle.nq_part_lines.proofs.DepthLemmas.{instance_depth}

among_images : (s : Substitution) (c : List Term) → Each (IsTerm (symbols_of [])) c → list_all (λ t. nat_le (depth_of t) law_depth) c ≡ true → Each (λ t. depth_of t ≤ term_room) (pair_terms s) → (u : Term) → IsAmong u (map (substituted s) c) → depth_of u ≤ depth_limit
among_images s [] over low room u m = absurd m
among_images s (t ∷ c) over low room u (inl e) =
    let little : depth_of t ≤ law_depth = leb-true (depth_of t) law_depth (and_left (nat_le (depth_of t) law_depth) (list_all (λ t. nat_le (depth_of t) law_depth) c) low) in
    let deep : depth_of (substituted s t) ≤ depth_of t + term_room = instance_depth (symbols_of []) s term_room room (omega arith) t over.0 in
    let within : depth_of (substituted s t) ≤ depth_limit = omega (arith, little, deep) in
    subst (λ v. depth_of v ≤ depth_limit) (sym e) within
among_images s (t ∷ c) over low room u (inr m) = among_images s c over.1 (and_right (nat_le (depth_of t) law_depth) (list_all (λ t. nat_le (depth_of t) law_depth) c) low) room u m

pub law_shallow : (s : Substitution) (c : Clause) → IsLaw c → Each (λ t. depth_of t ≤ term_room) (pair_terms s) → IsShallow (Some (instance_of s c))
unfolding is_law
law_shallow s c law room =
    let over = are_terms_is (symbols_of []) c (and_left (are_terms (symbols_of []) c) (list_all (λ t. nat_le (depth_of t) law_depth) c) law) in
    let low = and_right (are_terms (symbols_of []) c) (list_all (λ t. nat_le (depth_of t) law_depth) c) law in
    all_shallow (Some (instance_of s c)) (instance_of s c) refl (λ u m. among_images s c over low room u (from_distinct u (map (substituted s) c) m))
