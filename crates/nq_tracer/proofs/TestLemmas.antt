-- The tests of a case over a bank that grows.
use Rattle.std.proofs.Common.{◌≡◌, ◌∙◌, ◌≤◌, ◌-◌, true, false, List, [], ◌∷◌, map, length, get_or, take, drop, sym, ap, ap₂}
use Rattle.std.specs.Prelude.{All}
use Rattle.nq_logic.specs.Terms.{Term, Substitution, substituted}
use Rattle.nq_logic.specs.Words.{not_term, and_term}
use Rattle.nq_bank.specs.declared.node.TermId.{TermId}
use Rattle.nq_bank.specs.Content.{Content, Grows, IsIdOf, term_at}
use Rattle.nq_bank.proofs.Growth.{term_at-grown}
use Rattle.nq_clause.specs.declared.substitution.Pair.{Pair}
use Rattle.nq_clause.specs.Substitution.{PairStands, substitution_at}
use Rattle.nq_clause.proofs.SubstitutionLemmas.{substitution_at-grown}
use Rattle.nq_clause.proofs.SubsumptionLemmas.{first_rest}
use Rattle.nq_calls.specs.declared.calls.Guard.{Guard}
use Rattle.nq_calls.specs.Calls.{GuardStands, guard_at, guards_at}
use Rattle.nq_goals.specs.Inducting.{all_of}
use Rattle.nq_tracer.proofs.GrowLemmas.{id_by, guard_same, signed_true, signed_false}

-- a test that holds where it governs
pub held_test : (old bank : Content) (s : Substitution) (g : Guard) (t : TermId) → g.holds ≡ true → IsIdOf bank t (substituted s (term_at old g.test)) → IsIdOf bank t (substituted s (guard_at old g))
held_test old bank s g t e is = id_by bank t (substituted s (term_at old g.test)) (substituted s (guard_at old g)) (sym (signed_true s g.holds (term_at old g.test) e)) is

-- one that fails
pub failed_test : (old bank new : Content) (s : Substitution) (g : Guard) (t d : TermId) → g.holds ≡ false → IsIdOf bank t (substituted s (term_at old g.test)) → IsIdOf new d (not_term (term_at bank t)) → IsIdOf new d (substituted s (guard_at old g))
failed_test old bank new s g t d e is denied =
    id_by new d (not_term (term_at bank t)) (substituted s (guard_at old g)) (ap not_term is.denotes ∙ sym (signed_false s g.holds (term_at old g.test) e)) denied

-- the last test
pub only_test : (old bank : Content) (s : Substitution) (first : Guard) (rest : List Guard) (t : TermId) → rest ≡ [] → IsIdOf bank t (substituted s (guard_at old first))
    → IsIdOf bank t (all_of (map (substituted s) (guard_at old first ∷ guards_at old rest)))
only_test old bank s first rest t none is =
    id_by bank t (substituted s (guard_at old first)) (all_of (map (substituted s) (guard_at old first ∷ guards_at old rest)))
    (ap (λ (gs : List Guard). all_of (map (substituted s) (guard_at old first ∷ guards_at old gs))) (sym none)) is

-- a test and those behind it
pub both_tests : (old b1 b2 b3 : Content) (here : List Pair) (first : Guard) (rest : List Guard) (d : Guard) (test later whole : TermId) → 1 ≤ length rest → Grows old b1 → Grows b1 b2 → All (PairStands old) here → GuardStands old first
    → IsIdOf b1 later (all_of (map (substituted (substitution_at old here)) (guard_at old (get_or rest 0 d) ∷ guards_at old (take (length rest - 1) (drop 1 rest)))))
    → IsIdOf b2 test (substituted (substitution_at b1 here) (guard_at b1 first)) → IsIdOf b3 whole (and_term (term_at b2 test) (term_at b2 later))
    → IsIdOf b3 whole (all_of (map (substituted (substitution_at old here)) (guard_at old first ∷ guards_at old rest)))
both_tests old b1 b2 b3 here first rest d test later whole some grows more pairs stands last one is =
    let s : Substitution = substitution_at old here in
    let here_is : term_at b2 test ≡ substituted s (guard_at old first) = one.denotes ∙ ap₂ (λ (z : Substitution) (g : Term). substituted z g) (substitution_at-grown old b1 here grows pairs) (guard_same old b1 first grows stands) in
    let later_is : term_at b2 later ≡ all_of (map (substituted s) (guard_at old (get_or rest 0 d) ∷ guards_at old (take (length rest - 1) (drop 1 rest)))) = term_at-grown b1 b2 later more last.stands ∙ last.denotes in
    id_by b3 whole (and_term (term_at b2 test) (term_at b2 later)) (all_of (map (substituted s) (guard_at old first ∷ guards_at old rest)))
    (ap₂ and_term here_is later_is ∙ ap (λ (gs : List Guard). all_of (map (substituted s) (guard_at old first ∷ guards_at old gs))) (sym (first_rest rest d some))) is
