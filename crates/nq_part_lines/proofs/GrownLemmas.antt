-- Lines of laws and instances, and terms, however the work grows.
use Rattle.std.proofs.Common.{◌≡◌, ◌≤◌, ℕ, List, map, sym, ap, ◌∙◌, subst}
use Rattle.nq_logic.specs.Terms.{Substitution, substituted}
use Rattle.nq_logic.specs.Sizes.{depth_of}
use Rattle.nq_bank.specs.declared.node.TermId.{TermId}
use Rattle.nq_bank.specs.Content.{term_at}
use Rattle.nq_proof.specs.Clauses.{Clause}
use Rattle.nq_history.specs.declared.entry.Entry.{Entry}
use Rattle.nq_kernel.specs.declared.work.Work.{Work}
use Rattle.nq_kernel.specs.Growing.{WorkStands, WorkGrows, LineHolds}
use Rattle.nq_lines.specs.Lines.{IsTermIn, LineHasOnly, AreAmong}
use Rattle.nq_lines.specs.Instances.{InstancesTo}
use Rattle.nq_lines.proofs.LineLemmas.{only_grown, only_more}
use Rattle.nq_lines.proofs.TermLemmas.{same_term_grown}
use Rattle.nq_part_lines.specs.LawLines.{term_room}
use Rattle.nq_part_lines.specs.Pairs.{three_pairs}

pub instances_since : (history : List Entry) (old mid new : Work) (s : Substitution) (line n : ℕ) → WorkStands history old → WorkGrows history old mid → InstancesTo mid new s line n → InstancesTo old new s line n
instances_since history old mid new s line n stands grows h = λ these k. h these (only_grown history old mid line these stands grows k)

pub itself : (c : Clause) → AreAmong c c
itself c v m = m

-- the line of a law's instance
pub law_made : (old new : Work) (s : Substitution) (c these : Clause) (line n : ℕ) → LineHolds old line c → InstancesTo old new s line n → AreAmong (map (substituted s) c) these → LineHasOnly new n these
law_made old new s c these line n holds h within =
    only_more new n (map (substituted s) c) these within (h c (record { literals = c; stands = holds; only = itself c }))

module _ (history : List Entry) (old new : Work) (grows : WorkGrows history old new) where
  pub room_grown : (t : TermId) → IsTermIn history old t → depth_of (term_at old.bank t) ≤ term_room → depth_of (term_at new.bank t) ≤ term_room
  room_grown t k room = subst (λ t. depth_of t ≤ term_room) (sym (same_term_grown history old new t grows k)) room

  pub three_grown : (x y z : TermId) → IsTermIn history old x → IsTermIn history old y → IsTermIn history old z →
      three_pairs (term_at new.bank x) (term_at new.bank y) (term_at new.bank z) ≡ three_pairs (term_at old.bank x) (term_at old.bank y) (term_at old.bank z)
  three_grown x y z kx ky kz =
      ap (λ t. three_pairs t (term_at new.bank y) (term_at new.bank z)) (same_term_grown history old new x grows kx) ∙
      ap (λ t. three_pairs (term_at old.bank x) t (term_at new.bank z)) (same_term_grown history old new y grows ky) ∙
      ap (λ t. three_pairs (term_at old.bank x) (term_at old.bank y) t) (same_term_grown history old new z grows kz)
