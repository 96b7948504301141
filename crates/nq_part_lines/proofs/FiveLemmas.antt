-- Pairs of five variables and terms, and instances of laws over them.
use Rattle.std.proofs.Common.{◌≡◌, ◌≤◌, true, List, [], ◌∷◌, refl, sym, ap, ap₂, ◌∙◌, subst, arith}
use Rattle.std.specs.Prelude.{All, codes}
use Rattle.nq_logic.specs.Terms.{Each}
use Rattle.nq_logic.specs.Sizes.{depth_of}
use Rattle.nq_bank.specs.declared.node.Sym.{Sym}
use Rattle.nq_bank.specs.Content.{NamesText, text_at, term_at}
use Rattle.nq_bank.proofs.Standing.{All-push}
use Rattle.nq_clause.specs.declared.substitution.Pair.{Pair}
use Rattle.nq_clause.specs.Substitution.{substitution_at, PairStands}
use Rattle.nq_proof.specs.Rules.{is_substitution, pair_terms}
use Rattle.nq_history.specs.declared.entry.Entry.{Entry}
use Rattle.nq_kernel.specs.declared.work.Work.{Work}
use Rattle.nq_kernel.specs.Over.{IsVariable, pair_names}
use Rattle.nq_kernel.specs.Growing.{WorkStands, WorkGrows}
use Rattle.nq_lines.specs.Lines.{IsTermIn}
use Rattle.nq_lines.specs.Instances.{ArePairsIn}
use Rattle.nq_lines.proofs.TermLemmas.{IsOver, term_grown, same_term_grown}
use Rattle.nq_lines.proofs.PairLemmas.{over_still, x_plain, y_plain}
use Rattle.nq_part_lines.specs.LawLines.{term_room}
use Rattle.nq_part_lines.specs.Five.{AreSmall, five_at}
use Rattle.nq_part_lines.specs.declared.five.Five.{Five}

one_stands : (P : Pair → Type 0) (a : Pair) → P a → All P (a ∷ [])
one_stands P a h = All-push P [] a (λ i d below. absurd (omega arith)) h

a_plain : IsVariable (codes "A")
a_plain = record { symbol = refl; other = refl }

b_plain : IsVariable (codes "B")
b_plain = record { symbol = refl; other = refl }

z_plain : IsVariable (codes "Z")
z_plain = record { symbol = refl; other = refl }

module _ (history : List Entry) (old new : Work) (stands : WorkStands history old) (grows : WorkGrows history old new) (f : Five) (small : AreSmall history old f) (pairs : List Pair) (sa sb sx sy sz : Sym)
    (e : pairs ≡ record { variable = sa; term = f.a } ∷ record { variable = sb; term = f.b } ∷ record { variable = sx; term = f.x } ∷ record { variable = sy; term = f.y } ∷ record { variable = sz; term = f.z } ∷ [])
    (ha : NamesText new.bank sa (codes "A")) (hb : NamesText new.bank sb (codes "B")) (hx : NamesText new.bank sx (codes "X")) (hy : NamesText new.bank sy (codes "Y")) (hz : NamesText new.bank sz (codes "Z")) where
  in_a : IsTermIn history old f.a
  in_a = small.a.inside

  in_b : IsTermIn history old f.b
  in_b = small.b.inside

  in_x : IsTermIn history old f.x
  in_x = small.x.inside

  in_y : IsTermIn history old f.y
  in_y = small.y.inside

  in_z : IsTermIn history old f.z
  in_z = small.z.inside

  pub five_paired : substitution_at new.bank pairs ≡ five_at old.bank f
  five_paired =
      ap (substitution_at new.bank) e
      ∙ ap₂ (λ n t. (n, t) ∷ (text_at new.bank sb, term_at new.bank f.b) ∷ (text_at new.bank sx, term_at new.bank f.x) ∷ (text_at new.bank sy, term_at new.bank f.y) ∷ (text_at new.bank sz, term_at new.bank f.z) ∷ []) ha.reads (same_term_grown history old new f.a grows in_a)
      ∙ ap₂ (λ n t. (codes "A", term_at old.bank f.a) ∷ (n, t) ∷ (text_at new.bank sx, term_at new.bank f.x) ∷ (text_at new.bank sy, term_at new.bank f.y) ∷ (text_at new.bank sz, term_at new.bank f.z) ∷ []) hb.reads (same_term_grown history old new f.b grows in_b)
      ∙ ap₂ (λ n t. (codes "A", term_at old.bank f.a) ∷ (codes "B", term_at old.bank f.b) ∷ (n, t) ∷ (text_at new.bank sy, term_at new.bank f.y) ∷ (text_at new.bank sz, term_at new.bank f.z) ∷ []) hx.reads (same_term_grown history old new f.x grows in_x)
      ∙ ap₂ (λ n t. (codes "A", term_at old.bank f.a) ∷ (codes "B", term_at old.bank f.b) ∷ (codes "X", term_at old.bank f.x) ∷ (n, t) ∷ (text_at new.bank sz, term_at new.bank f.z) ∷ []) hy.reads (same_term_grown history old new f.y grows in_y)
      ∙ ap₂ (λ n t. (codes "A", term_at old.bank f.a) ∷ (codes "B", term_at old.bank f.b) ∷ (codes "X", term_at old.bank f.x) ∷ (codes "Y", term_at old.bank f.y) ∷ (n, t) ∷ []) hz.reads (same_term_grown history old new f.z grows in_z)

  pub five_in : ArePairsIn history new pairs
  five_in =
      let pa : Pair = record { variable = sa; term = f.a } in
      let pb : Pair = record { variable = sb; term = f.b } in
      let px : Pair = record { variable = sx; term = f.x } in
      let py : Pair = record { variable = sy; term = f.y } in
      let pz : Pair = record { variable = sz; term = f.z } in
      let P : Pair → Type 0 = PairStands new.bank in
      let ka : P pa = record { variable = ha.named; term = (term_grown history old new f.a stands grows in_a).stands } in
      let kb : P pb = record { variable = hb.named; term = (term_grown history old new f.b stands grows in_b).stands } in
      let kx : P px = record { variable = hx.named; term = (term_grown history old new f.x stands grows in_x).stands } in
      let ky : P py = record { variable = hy.named; term = (term_grown history old new f.y stands grows in_y).stands } in
      let kz : P pz = record { variable = hz.named; term = (term_grown history old new f.z stands grows in_z).stands } in
      let two = All-push P (pa ∷ []) pb (one_stands P pa ka) kb in
      let three = All-push P (pa ∷ pb ∷ []) px two kx in
      let four = All-push P (pa ∷ pb ∷ px ∷ []) py three ky in
      record {
        stand = subst (All P) (sym e) (All-push P (pa ∷ pb ∷ px ∷ py ∷ []) pz four kz);
        distinct = subst (λ s. is_substitution s ≡ true) (sym five_paired) refl;
        terms = subst (λ s. Each (IsOver history new) (pair_terms s)) (sym five_paired) (over_still history old new f.a stands grows in_a, (over_still history old new f.b stands grows in_b, (over_still history old new f.x stands grows in_x, (over_still history old new f.y stands grows in_y, (over_still history old new f.z stands grows in_z, tt)))));
        names = subst (λ s. Each IsVariable (pair_names s)) (sym five_paired) (a_plain, (b_plain, (x_plain, (y_plain, (z_plain, tt)))));
      }

-- the rooms of the terms
pub five_rooms : (history : List Entry) (old : Work) (f : Five) → AreSmall history old f → Each (λ t. depth_of t ≤ term_room) (pair_terms (five_at old.bank f))
five_rooms history old f small = (small.a.room, (small.b.room, (small.x.room, (small.y.room, (small.z.room, tt)))))
