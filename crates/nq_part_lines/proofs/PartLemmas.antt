-- The parts of a shell: rows that speak of one, and what its accessor takes from an object.
use Rattle.std.proofs.Common.{◌≡◌, ◌≤◌, ◌<◌, ◌+◌, ℕ, suc, Bool, true, false, ◌||◌, Some, List, [], ◌∷◌, length, inl, inr, refl, sym, ap, ap₂, ◌∙◌, subst, arith}
use Rattle.std.specs.Prelude.{All, codes, get_or, slice_get}
use Rattle.std.specs.Option.{option_map}
use Rattle.std.proofs.lemmas.List.{length-map}
use Rattle.std.proofs.lemmas.Option.{slice_get-map, slice_get-get_or}
use Rattle.nq_logic.specs.Terms.{Name, Term, Function, Applied, IsAmong}
use Rattle.nq_logic.specs.Words.{add1_term, call1, not_term, true_term}
use Rattle.nq_logic.specs.Ground.{symbols_of}
use Rattle.nq_logic.specs.Sizes.{depth_of}
use Rattle.nq_logic.specs.Histories.{History, Restriction, OneOf, NoneOf, Part as PartOfTexts, Shell}
use Rattle.nq_logic.specs.Shells.{made, part_sizes, restricted, sum_of}
use Rattle.nq_bank.specs.declared.shell.Part.{Part}
use Rattle.nq_bank.specs.declared.node.TermId.{TermId}
use Rattle.nq_bank.specs.Content.{Content, IsIdOf, term_at, text_at}
use Rattle.nq_bank.specs.Shells.{PartStands, part_at, parts_at}
use Rattle.nq_proof.specs.Clauses.{Clause, distinct}
use Rattle.nq_proof.proofs.Tests.{some_same}
use Rattle.nq_history.specs.declared.entry.Entry.{Entry}
use Rattle.nq_history.specs.Events.{events_at}
use Rattle.nq_history.proofs.HistoryLemmas.{events_at-grown}
use Rattle.nq_kernel.specs.declared.work.Work.{Work}
use Rattle.nq_kernel.specs.Over.{IsVariable, IsTermOf}
use Rattle.nq_kernel.specs.Growing.{WorkStands, WorkGrows, LineHolds}
use Rattle.nq_arith.specs.Nests.{accessor_of, is_smaller}
use Rattle.nq_lines.specs.Lines.{AreAmong, CutsTo, LineHasOnly}
use Rattle.nq_lines.proofs.LineLemmas.{from_distinct, only_grown}
use Rattle.nq_lines.proofs.TermLemmas.{id_in}
use Rattle.nq_part_lines.specs.Defaults.{is_free}
use Rattle.nq_part_lines.specs.LawLines.{term_room}
use Rattle.nq_part_lines.specs.Known.{IsKnownPart, IsKnownShell, IsRow, allowed, row_room, size_is}
use Rattle.nq_part_lines.specs.Objects.{IsAccessed, IsSized, IsTaken}
use Rattle.nq_part_lines.specs.Small.{IsSmallIn}
use Rattle.nq_part_lines.specs.declared.objects.Sized.{Sized}
use Rattle.nq_part_lines.proofs.CallLemmas.{one_depth}
use Rattle.nq_part_lines.proofs.ObjectLemmas.{some_part}
use Rattle.nq_part_lines.proofs.RoomLemmas.{constant_low}
use Rattle.nq_part_lines.proofs.ReadingLemmas.{argument_low, count_parts, equal_parts, there}

pub parts_many : (bank : Content) (parts : List Part) → length (parts_at bank parts) ≡ length parts
parts_many bank parts = length-map parts (part_at bank)

-- a part as the logic sees it
part_there : (bank : Content) (parts : List Part) (k : ℕ) (d : Part) → k < length parts → slice_get (parts_at bank parts) k ≡ Some (part_at bank (get_or parts k d))
part_there bank parts k d l = slice_get-map (part_at bank) parts k ∙ ap (option_map (part_at bank)) (slice_get-get_or parts k d l)

pub part_read : (bank : Content) (parts : List Part) (k : ℕ) (p : Part) → k < length parts → p ≡ get_or parts k p → slice_get (parts_at bank parts) k ≡ Some (part_at bank p)
part_read bank parts k p l is = part_there bank parts k p l ∙ ap (λ q. Some (part_at bank q)) (sym is)

pub part_named : (bank : Content) (parts : List Part) (k : ℕ) (p : Part) → k < length parts → p ≡ get_or parts k p → All (PartStands bank) parts → PartStands bank p
part_named bank parts k p l is stand = subst (PartStands bank) (sym is) (stand k p l)

-- what is known of the part at a place
pub known_part : (bank : Content) (parts : List Part) (k : ℕ) (s : Shell) → {h : History} → s.parts ≡ parts_at bank parts → k < length parts → IsKnownShell h s → (part : PartOfTexts) × (slice_get s.parts k ≡ Some part) × IsKnownPart h s k part
known_part bank parts k s same l known =
    let many : length s.parts ≡ length parts = ap length same ∙ parts_many bank parts in
    let one = some_part s.parts k (omega (arith, many, l)) in
    (one.0, one.1, known.parts k one.0 one.1)

-- the number of a part's row, counted from 1
pub row_next : (h : History) (name : Name) (row k : ℕ) (c : Clause) → IsRow h name row (suc k) c → IsRow h name row (k + 1) c
row_next h name row k c is = let same : suc k ≡ k + 1 = omega arith in subst (λ n. IsRow h name row n c) same is

-- the row that says of T that it is true
pub truth_row : (h : History) → IsRow h (codes "TRUE") 1 0 (true_term ∷ [])
truth_row h = let low : depth_of true_term ≤ 1 = constant_low (codes "TRUE") in record { is = refl; low = (omega (arith, low), tt) }

-- each object meets no restriction
pub free_allowed : (r : Restriction) (t : Term) → is_free r ≡ true → restricted r t ≡ true_term
free_allowed (OneOf rs) t e = absurd (cc)
free_allowed (NoneOf []) t e = refl
free_allowed (NoneOf (r ∷ rs)) t e = absurd (cc)

pub right_side : (a b : Bool) → a ≡ false → (a || b) ≡ true → b ≡ true
right_side true b e h = absurd (cc)
right_side false b e h = h

-- a line of one literal, or of two, by their terms
pub one_line : (work : Work) (n : ℕ) (a b : Term) (these : List Term) → b ≡ a → LineHolds work n (a ∷ []) → LineHasOnly work n (b ∷ these)
one_line work n a b these e holds = record { literals = a ∷ []; stands = holds; only = among }
  where
    among : AreAmong (a ∷ []) (b ∷ these)
    among v (inl k) = inl (k ∙ sym e)
    among v (inr none) = absurd none

pub two_line : (work : Work) (n : ℕ) (a b x y : Term) → x ≡ a → y ≡ b → LineHolds work n (distinct (a ∷ b ∷ [])) → LineHasOnly work n (x ∷ y ∷ [])
two_line work n a b x y e f holds = record { literals = distinct (a ∷ b ∷ []); stands = holds; only = λ v m. among v (from_distinct v (a ∷ b ∷ []) m) }
  where
    among : AreAmong (a ∷ b ∷ []) (x ∷ y ∷ [])
    among v (inl k) = inl (k ∙ sym e)
    among v (inr (inl k)) = inr (inl (k ∙ sym f))
    among v (inr (inr none)) = absurd none

-- the object of a row of sizes is not deep
pub object_low : (s : Shell) → depth_of (size_is s) ≤ row_room → depth_of (made s) ≤ row_room
object_low s low =
    let count : Term = call1 "COUNT" (made s) in
    let successor : Term = add1_term (sum_of (part_sizes 0 s.parts)) in
    let first : depth_of count ≤ depth_of (size_is s) = argument_low 1 (size_is s) count (there 1 (size_is s) (size_is s) count (count ∷ successor ∷ []) refl (equal_parts count successor) refl) in
    let second : depth_of (made s) ≤ depth_of count = argument_low 1 count (made s) (there 1 count count (made s) (made s ∷ []) refl (count_parts (made s)) refl) in
    omega (arith, first, second, low)

-- the call of a function of one small term is small
pub one_small : (history : List Entry) (old new : Work) → WorkStands history old → WorkGrows history old new → (f : Name) (t u : TermId) → IsAmong (f, 1) (symbols_of (events_at old.bank history)) → IsSmallIn history old t → depth_of (term_at old.bank t) ≤ row_room → IsIdOf new.bank u (Applied (Function f) (term_at old.bank t)) →
    IsSmallIn history new u
one_small history old new stands grows f t u m small room is =
    let deep = one_depth f (term_at old.bank t) in
    let low : depth_of (Applied (Function f) (term_at old.bank t)) ≤ term_room = omega (arith, deep, room) in
    record {
      inside =
          id_in history new u (Applied (Function f) (term_at old.bank t)) is (
          subst (λ es. IsTermOf IsVariable (symbols_of es) (Applied (Function f) (term_at old.bank t))) (sym (events_at-grown old.bank new.bank grows.bank history stands.history.entries)) (record { over = (m, small.inside.over.over); variables = (tt, small.inside.over.variables) }));
      room = subst (λ v. depth_of v ≤ term_room) (sym is.denotes) low;
    }

-- what the accessor takes from the object
pub accessed_told : (history : List Entry) (work : Work) (bank : Content) (s : Shell) (parts : List Part) (place : ℕ) (p : Part) (f : Name) (object : Term) (t : TermId) → s.parts ≡ parts_at bank parts → place < length parts → p ≡ get_or parts place p → f ≡ text_at bank p.accessor → object ≡ made s → IsSmallIn history work t → IsIdOf work.bank t (Applied (Function f) object) →
    IsAccessed history work s place t
accessed_told history work bank s parts place p f object t same below is f_is object_is small call =
    record {
      small = small;
      is = λ part e.
          let got : part_at bank p ≡ part = some_same _ _ (sym (part_read bank parts place p below is) ∙ ap (λ ps. slice_get ps place) (sym same) ∙ e) in
          let name : f ≡ part.accessor = f_is ∙ ap (λ (q : PartOfTexts). q.accessor) got in
          call.denotes ∙ ap (λ n. Applied (Function n) object) name ∙ ap (accessor_of part) object_is;
    }

smaller_as : (work : Work) (n : ℕ) (F : Term → Term) (a b t u o p : Term) → a ≡ b → t ≡ u → o ≡ p → LineHasOnly work n (F a ∷ is_smaller t o ∷ []) → LineHasOnly work n (F b ∷ is_smaller u p ∷ [])
smaller_as work n F a b t u o p e f g h = subst (LineHasOnly work n) (ap₂ (λ x y. F x ∷ y ∷ []) e (ap₂ is_smaller f g)) h

-- the line that is cut from that of a part that is allowed and that of another
pub taken_told : (history : List Entry) (w2 w3 w4 w5 : Work) (s : Shell) (place : ℕ) (z : Sized) (t : TermId) (part other n : ℕ) → WorkStands history w3 → WorkGrows history w3 w4 → IsSized history w2 s place z → IsSized history w3 s place z → IsSized history w4 s place z → IsSized history w5 s place z → IsAccessed history w2 s place t → IsAccessed history w3 s place t →
    LineHasOnly w3 part (not_term (term_at w2.bank z.piece.allowed) ∷ is_smaller (term_at w2.bank t) (term_at w2.bank z.piece.object) ∷ []) → LineHasOnly w4 other (term_at w3.bank z.piece.allowed ∷ is_smaller (term_at w3.bank t) (term_at w3.bank z.piece.object) ∷ []) → CutsTo w4 w5 (term_at w4.bank z.piece.allowed) other part n →
    IsTaken history w5 s place (record { object = z.piece.object; line = n })
taken_told history w2 w3 w4 w5 s place z t part other n stands grows z2 z3 z4 z5 t2 t3 part_line other_line cuts =
    record {
      object = z5.piece.object;
      object_is = z5.object_is;
      line = λ p e.
          let smaller : Term = is_smaller (accessor_of p (made s)) (made s) in
          let here : term_at w4.bank z.piece.allowed ≡ allowed place p = z4.allowed_is p e in
          let first : LineHasOnly w4 other (term_at w4.bank z.piece.allowed ∷ smaller ∷ []) = smaller_as w4 other (λ v. v) _ _ _ _ _ _ (z3.allowed_is p e ∙ sym here) (t3.is p e) z3.object_is other_line in
          let denied : LineHasOnly w3 part (not_term (term_at w4.bank z.piece.allowed) ∷ smaller ∷ []) = smaller_as w3 part not_term _ _ _ _ _ _ (z2.allowed_is p e ∙ sym here) (t2.is p e) z2.object_is part_line in
          cuts (smaller ∷ []) first (only_grown history w3 w4 part (not_term (term_at w4.bank z.piece.allowed) ∷ smaller ∷ []) stands grows denied);
    }
