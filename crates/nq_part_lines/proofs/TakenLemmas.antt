-- What the accessor takes from an object just made: the terms as the work grows, and cuts of the laws.
use Rattle.std.proofs.Common.{◌≡◌, ℕ, List, [], ◌∷◌, inl, inr, refl, sym, ap, ap₂, ◌∙◌, subst}
use Rattle.nq_logic.specs.Terms.{Term, IsAmong}
use Rattle.nq_logic.specs.Words.{call1, call2, not_term, equal_term, if_term, zero_term, add1_term}
use Rattle.nq_logic.specs.Ground.{symbols_of}
use Rattle.nq_logic.specs.Numerals.{number_of}
use Rattle.nq_logic.specs.Sizes.{tree_depth}
use Rattle.nq_logic.proofs.Lists.{each_at}
use Rattle.nq_bank.specs.Content.{term_at}
use Rattle.nq_proof.specs.Clauses.{Clause}
use Rattle.nq_history.specs.declared.entry.Entry.{Entry}
use Rattle.nq_kernel.specs.declared.work.Work.{Work}
use Rattle.nq_kernel.specs.Growing.{WorkStands, WorkGrows, LineHolds}
use Rattle.nq_arith.specs.Nests.{is_smaller}
use Rattle.nq_lines.specs.Lines.{AreAmong, CutsTo, LineHasOnly}
use Rattle.nq_lines.specs.Instances.{InstancesTo}
use Rattle.nq_lines.proofs.LineLemmas.{only_more}
use Rattle.nq_lines.proofs.TermLemmas.{same_term_grown}
use Rattle.nq_shell_parts.specs.LawClauses.{allowed_is_smaller_clause, base_is_smaller_clause}
use Rattle.nq_shell_parts.specs.Summands.{IsSum, summand}
use Rattle.nq_part_lines.specs.LawLines.{is_law, IsLaw}
use Rattle.nq_part_lines.specs.Five.{AreSmall}
use Rattle.nq_part_lines.specs.Pairs.{five_pairs}
use Rattle.nq_part_lines.specs.Pieces.{IsPiece}
use Rattle.nq_part_lines.specs.Taken.{allowed_literals, base_literals}
use Rattle.nq_part_lines.specs.declared.five.Five.{Five}
use Rattle.nq_part_lines.specs.declared.piece.Piece.{Piece}
use Rattle.nq_part_lines.proofs.GrownLemmas.{law_made}
use Rattle.nq_part_lines.proofs.ReadingLemmas.{small_grown}

pub allowed_is_law : IsLaw allowed_is_smaller_clause
unfolding is_law symbols_of number_of tree_depth
allowed_is_law = refl

pub base_is_law : IsLaw base_is_smaller_clause
unfolding is_law symbols_of number_of tree_depth
base_is_law = refl

pub allowed_made : (old new : Work) (a b x y z : Term) (line n : ℕ) → LineHolds old line allowed_is_smaller_clause → InstancesTo old new (five_pairs a b x y z) line n → LineHasOnly new n (allowed_literals a b x y z)
allowed_made old new a b x y z line n holds h = law_made old new (five_pairs a b x y z) allowed_is_smaller_clause (allowed_literals a b x y z) line n holds h (λ v m. m)

pub base_made : (old new : Work) (a b x y z : Term) (line n : ℕ) → LineHolds old line base_is_smaller_clause → InstancesTo old new (five_pairs a b x y z) line n → LineHasOnly new n (base_literals a b x z)
base_made old new a b x y z line n holds h = law_made old new (five_pairs a b x y z) base_is_smaller_clause (base_literals a b x z) line n holds h (λ v m. m)

module _ (history : List Entry) (old new : Work) (stands : WorkStands history old) (grows : WorkGrows history old new) where
  pub five_small : (f : Five) → AreSmall history old f → AreSmall history new f
  five_small f k =
      record {
        a = small_grown history old new f.a stands grows k.a;
        b = small_grown history old new f.b stands grows k.b;
        x = small_grown history old new f.x stands grows k.x;
        y = small_grown history old new f.y stands grows k.y;
        z = small_grown history old new f.z stands grows k.z;
      }

  -- what is made of five terms
  pub five_moved : {X : Type 0} (F : Term → Term → Term → Term → Term → X) (f : Five) → AreSmall history old f →
      F (term_at new.bank f.a) (term_at new.bank f.b) (term_at new.bank f.x) (term_at new.bank f.y) (term_at new.bank f.z) ≡ F (term_at old.bank f.a) (term_at old.bank f.b) (term_at old.bank f.x) (term_at old.bank f.y) (term_at old.bank f.z)
  five_moved F f k =
      ap (λ t. F t (term_at new.bank f.b) (term_at new.bank f.x) (term_at new.bank f.y) (term_at new.bank f.z)) (same_term_grown history old new f.a grows k.a.inside)
      ∙ ap (λ t. F (term_at old.bank f.a) t (term_at new.bank f.x) (term_at new.bank f.y) (term_at new.bank f.z)) (same_term_grown history old new f.b grows k.b.inside)
      ∙ ap (λ t. F (term_at old.bank f.a) (term_at old.bank f.b) t (term_at new.bank f.y) (term_at new.bank f.z)) (same_term_grown history old new f.x grows k.x.inside)
      ∙ ap (λ t. F (term_at old.bank f.a) (term_at old.bank f.b) (term_at old.bank f.x) t (term_at new.bank f.z)) (same_term_grown history old new f.y grows k.y.inside)
      ∙ ap (λ t. F (term_at old.bank f.a) (term_at old.bank f.b) (term_at old.bank f.x) (term_at old.bank f.y) t) (same_term_grown history old new f.z grows k.z.inside)

  pub piece_grown : (place more : ℕ) (p : Piece) → IsPiece history old place more p → IsPiece history new place more p
  piece_grown place more p k =
      let sum : term_at new.bank p.sum ≡ term_at old.bank p.sum = same_term_grown history old new p.sum grows k.sum.inside in
      let successor : term_at new.bank p.successor ≡ term_at old.bank p.successor = same_term_grown history old new p.successor grows k.successor.inside in
      let size : term_at new.bank p.size ≡ term_at old.bank p.size = same_term_grown history old new p.size grows k.size.inside in
      let object : term_at new.bank p.object ≡ term_at old.bank p.object = same_term_grown history old new p.object grows k.object.inside in
      let allowed : term_at new.bank p.allowed ≡ term_at old.bank p.allowed = same_term_grown history old new p.allowed grows k.allowed.inside in
      let variable : term_at new.bank p.variable ≡ term_at old.bank p.variable = same_term_grown history old new p.variable grows k.variable.inside in
      record {
        equation = small_grown history old new p.equation stands grows k.equation;
        object = small_grown history old new p.object stands grows k.object;
        successor = small_grown history old new p.successor stands grows k.successor;
        sum = small_grown history old new p.sum stands grows k.sum;
        size = small_grown history old new p.size stands grows k.size;
        allowed = small_grown history old new p.allowed stands grows k.allowed;
        variable = small_grown history old new p.variable stands grows k.variable;
        equation_is = same_term_grown history old new p.equation grows k.equation.inside ∙ k.equation_is ∙ sym (ap₂ (λ o s. equal_term (call1 "COUNT" o) s) object successor);
        successor_is = successor ∙ k.successor_is ∙ sym (ap add1_term sum);
        is_sum = subst (IsSum place more) (sym sum) k.is_sum;
        size_is = ap (summand place more) sum ∙ k.size_is ∙ sym size;
        size_of = size ∙ k.size_of ∙ sym (ap₂ (λ m x. if_term m (call1 "COUNT" x) zero_term) allowed variable);
      }

-- the literals of the laws
pub allowed_within : (a b x y z size successor equation : Term) → size ≡ if_term y (call1 "COUNT" x) zero_term → successor ≡ add1_term z → equation ≡ equal_term (call1 "COUNT" b) successor →
    AreAmong (allowed_literals a b x y z) (not_term (call2 "LESSP" size successor) ∷ not_term equation ∷ not_term (equal_term a x) ∷ not_term y ∷ is_smaller a b ∷ [])
allowed_within a b x y z size successor equation e f g v m =
    let these : List Term = not_term (call2 "LESSP" size successor) ∷ not_term equation ∷ not_term (equal_term a x) ∷ not_term y ∷ is_smaller a b ∷ [] in
    each_at (λ t. IsAmong t these) v (allowed_literals a b x y z) (
      inr (inr (inr (inl refl))),
      (inr (inr (inr (inr (inl refl)))), (inl (ap not_term (sym (ap₂ (call2 "LESSP") e f))), (inr (inl (ap not_term (sym (g ∙ ap (equal_term (call1 "COUNT" b)) f)))), (inr (inr (inl refl)), tt)))),
    ) m

pub base_within : (a b x z allowed none successor equation : Term) → none ≡ equal_term (call1 "COUNT" x) zero_term → successor ≡ add1_term z → equation ≡ equal_term (call1 "COUNT" b) successor →
    AreAmong (base_literals a b x z) (not_term none ∷ not_term equation ∷ not_term (equal_term a x) ∷ allowed ∷ is_smaller a b ∷ [])
base_within a b x z allowed none successor equation e f g v m =
    let these : List Term = not_term none ∷ not_term equation ∷ not_term (equal_term a x) ∷ allowed ∷ is_smaller a b ∷ [] in
    each_at (λ t. IsAmong t these) v (base_literals a b x z) (
      inr (inr (inr (inr (inl refl)))),
      (inl (ap not_term (sym e)), (inr (inl (ap not_term (sym (g ∙ ap (equal_term (call1 "COUNT" b)) f)))), (inr (inr (inl refl)), tt))),
    ) m

pub only_first : (l : Term) (these : List Term) → AreAmong (l ∷ []) (l ∷ these)
only_first l these v (inl e) = inl e
only_first l these v (inr none) = absurd none

pub turned : (q g : Term) (these : List Term) → AreAmong (g ∷ q ∷ []) (q ∷ g ∷ these)
turned q g these v (inl e) = inr (inl e)
turned q g these v (inr (inl e)) = inl e
turned q g these v (inr (inr none)) = absurd none

-- three cuts of a law
pub three_cuts : (w0 w1 w2 w3 : Work) (c : Clause) (l e q g s : Term) (law first_line second_line third_line one two n : ℕ) → AreAmong c (not_term l ∷ not_term e ∷ not_term q ∷ g ∷ s ∷ []) → LineHasOnly w0 law c → LineHasOnly w0 first_line (l ∷ []) → LineHasOnly w1 second_line (e ∷ []) → LineHasOnly w2 third_line (g ∷ q ∷ []) →
    CutsTo w0 w1 l first_line law one → CutsTo w1 w2 e second_line one two → CutsTo w2 w3 q third_line two n → LineHasOnly w3 n (g ∷ s ∷ [])
three_cuts w0 w1 w2 w3 c l e q g s law first_line second_line third_line one two n within held first second third cut1 cut2 cut3 =
    let these1 : List Term = not_term e ∷ not_term q ∷ g ∷ s ∷ [] in
    let these2 : List Term = not_term q ∷ g ∷ s ∷ [] in
    let these3 : List Term = g ∷ s ∷ [] in
    let made1 : LineHasOnly w1 one these1 = cut1 these1 (only_more w0 first_line (l ∷ []) (l ∷ these1) (only_first l these1) first) (only_more w0 law c (not_term l ∷ these1) within held) in
    let made2 : LineHasOnly w2 two these2 = cut2 these2 (only_more w1 second_line (e ∷ []) (e ∷ these2) (only_first e these2) second) made1 in
    cut3 these3 (only_more w2 third_line (g ∷ q ∷ []) (q ∷ these3) (turned q g (s ∷ [])) third) made2
