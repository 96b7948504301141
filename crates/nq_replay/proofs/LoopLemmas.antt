-- A rule line more of a law.
use Rattle.std.proofs.Common.{◌≡◌, ◌<◌, ◌+◌, ◌∙◌, ℕ, suc, List, [], ◌∷◌, ◌++◌, drop, length, get_or, ap, ap₂, subst, arith}
use Rattle.std.specs.Prelude.{Some, IsSome}
use Rattle.std.proofs.Math.Seq.{drop-cons}
use Rattle.nq_logic.specs.Terms.{Name, Term}
use Rattle.nq_bank.specs.Content.{Content, Grows, terms_at}
use Rattle.nq_bank.specs.Shells.{texts_at}
use Rattle.nq_bank.proofs.Growth.{terms_at-grown, Stands-grown}
use Rattle.nq_proof.specs.Clauses.{Clause}
use Rattle.nq_replay.specs.declared.table.LawRule.{LawRule}
use Rattle.nq_replay.specs.declared.parts.Parts.{Parts}
use Rattle.nq_replay.specs.Replaying.{law_line, after_rules}
use Rattle.nq_replay.specs.Parts.{PartsStand}
use Rattle.nq_replay.proofs.HeldLemmas.{first_rule}
use Rattle.nq_replay.proofs.NameLemmas.{named_grown, texts_grown}

pub next_rule : (xs : List Name) (ts : List Term) (cs : List Clause) (rules : List LawRule) (i : ℕ) (d : LawRule) → i < length rules → IsSome (after_rules xs ts cs (drop i rules)) → (c : Clause) × (law_line xs ts cs (get_or rules i d) ≡ Some c) × (after_rules xs ts cs (drop i rules) ≡ after_rules xs ts (cs ++ c ∷ []) (drop (i + 1) rules))
next_rule xs ts cs rules i d below h =
    let further : suc i ≡ i + 1 = omega arith in
    let e : drop i rules ≡ get_or rules i d ∷ drop (i + 1) rules = drop-cons rules i d below ∙ ap (λ k. get_or rules i d ∷ drop k rules) further in
    let f = first_rule xs ts cs (get_or rules i d) (drop (i + 1) rules) (subst (λ rs. IsSome (after_rules xs ts cs rs)) e h) in
    (f.0, f.1, ap (after_rules xs ts cs) e ∙ f.2)

-- the same line, in a bank that grew
pub line_same : (old new : Content) (parts : Parts) (cs ds : List Clause) (r : LawRule) → Grows old new → PartsStand old parts → cs ≡ ds → law_line (texts_at new parts.names.items) (terms_at new parts.terms.items) cs r ≡ law_line (texts_at old parts.names.items) (terms_at old parts.terms.items) ds r
line_same old new parts cs ds r grows h e =
    ap₂ (λ xs ts. law_line xs ts cs r) (texts_grown old new parts.names.items grows h.names) (terms_at-grown old new parts.terms.items grows h.terms) ∙
    ap (λ cs. law_line (texts_at old parts.names.items) (terms_at old parts.terms.items) cs r) e

pub parts_stand_grown : (old new : Content) (parts : Parts) → Grows old new → PartsStand old parts → PartsStand new parts
parts_stand_grown old new parts grows h = record { names = named_grown old new parts.names.items grows h.names; terms = λ k d below. Stands-grown old new (get_or parts.terms.items k d) grows (h.terms k d below) }
