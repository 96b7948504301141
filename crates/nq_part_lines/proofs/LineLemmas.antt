-- Lines whose literals are not too deep.
use Rattle.std.proofs.Common.{◌≡◌, ◌≤◌, ℕ, Option, Some, None, List, [], ◌∷◌, ◌++◌, refl, sym, subst, inl, inr}
use Rattle.std.specs.Prelude.{All}
use Rattle.std.specs.Option.{option_map}
use Rattle.nq_logic.specs.Terms.{Term, Function, IsAmong}
use Rattle.nq_logic.specs.Words.{not_term}
use Rattle.nq_logic.specs.Sizes.{depth_of, depth_limit}
use Rattle.nq_bank.specs.declared.node.TermId.{TermId}
use Rattle.nq_bank.specs.Content.{Content, Stands, term_at, terms_at}
use Rattle.nq_bank.specs.Soundness.{IsSound}
use Rattle.nq_bank.proofs.NodesLemmas.{All-head, All-tail}
use Rattle.nq_proof.specs.Clauses.{Clause, without}
use Rattle.nq_rule.specs.Results.{cut_of}
use Rattle.nq_history.specs.declared.entry.Entry.{Entry}
use Rattle.nq_kernel.specs.declared.work.Work.{Work}
use Rattle.nq_kernel.specs.declared.rule.Rule.TheVariants.{Cut}
use Rattle.nq_kernel.specs.Lines.{ids_at}
use Rattle.nq_kernel.specs.Meaning.{conclusion_at}
use Rattle.nq_kernel.specs.Growing.{WorkStands, LineStands, LineHolds, held}
use Rattle.nq_kernel.proofs.LogLemmas.{ids_stand}
use Rattle.nq_kernel.proofs.HeldLines.{cut_held}
use Rattle.nq_lines.proofs.LineLemmas.{from_distinct, among_either, left_among}
use Rattle.nq_replay.specs.Uncounted.{IsShallow}
use Rattle.nq_replay.proofs.UncountedLemmas.{all_shallow}
use Rattle.nq_replay.proofs.HeldLemmas.{held_holds}

ids_shallow : (bank : Content) (ids : List TermId) (u : Term) → IsSound bank → All (Stands bank) ids → IsAmong u (terms_at bank ids) → depth_of u ≤ depth_limit
ids_shallow bank [] u sound stand m = absurd m
ids_shallow bank (t ∷ ids) u sound stand (inl e) = subst (λ v. depth_of v ≤ depth_limit) (sym e) (sound.shallow t.0 (Function []) (All-head (Stands bank) t ids stand))
ids_shallow bank (t ∷ ids) u sound stand (inr m) = ids_shallow bank ids u sound (All-tail (Stands bank) t ids stand) m

-- a literal of a line is not too deep
pub line_shallow : (history : List Entry) (work : Work) (n : ℕ) (c : Clause) (u : Term) → IsSound work.bank → WorkStands history work → LineHolds work n c → IsAmong u c → depth_of u ≤ depth_limit
line_shallow history work n c u sound stands holds m = by_ids (ids_at work.log n) refl holds
  where
    by_ids : (o : Option (List TermId)) → ids_at work.log n ≡ o → option_map (terms_at work.bank) o ≡ Some c → depth_of u ≤ depth_limit
    by_ids None e h = absurd cc
    by_ids (Some ids) e h =
        let same : terms_at work.bank ids ≡ c = cc in
        ids_shallow work.bank ids u sound (ids_stand work.bank work.log n ids stands.log e) (subst (λ d. IsAmong u d) (sym same) m)

-- what a cut gives is not too deep
pub cut_shallow : (history : List Entry) (work : Work) (a b : ℕ) (t : TermId) → IsSound work.bank → WorkStands history work → LineStands work a → LineStands work b → IsShallow (conclusion_at work.bank history work.log (Cut a b t))
cut_shallow history work a b t sound stands h k =
    let u : Term = term_at work.bank t in
    let c : Clause = held work a in
    let d : Clause = held work b in
    all_shallow (conclusion_at work.bank history work.log (Cut a b t)) (cut_of u c d) (cut_held history work (Cut a b t) a b t refl h k) (λ v m.
    elim (among_either v (without u c) (without (not_term u) d) (from_distinct v (without u c ++ without (not_term u) d) m)) [
      | inl l ↦ line_shallow history work a c v sound stands (held_holds work a h) (left_among v u c l)
      | inr r ↦ line_shallow history work b d v sound stands (held_holds work b k) (left_among v (not_term u) d r)
    ]
    )
