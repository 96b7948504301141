-- Objects that a shell's constructor makes of its variables: their size, and rows as lines.
use Rattle.std.proofs.Common.{◌≡◌, ◌≤◌, ◌<◌, ◌+◌, ℕ, zero, suc, Some, None, List, [], ◌∷◌, length, refl, sym, ap, ◌∙◌, subst, arith}
use Rattle.std.specs.Prelude.{codes, slice_get}
use Rattle.nq_logic.specs.Terms.{Name, Term, Function, Applied, IsAmong}
use Rattle.nq_logic.specs.Words.{call1, equal_term, if_term, zero_term, add1_term}
use Rattle.nq_logic.specs.Ground.{symbols_of}
use Rattle.nq_logic.specs.Numerals.{number_of}
use Rattle.nq_logic.specs.Sizes.{depth_of}
use Rattle.nq_logic.specs.Histories.{Part, Shell}
use Rattle.nq_logic.specs.Shells.{made, part_sizes, part_variable, sum_of}
use Rattle.nq_logic.proofs.Lists.{each_at}
use Rattle.nq_bank.specs.declared.node.TermId.{TermId}
use Rattle.nq_bank.specs.Content.{Stands, term_at}
use Rattle.nq_proof.specs.Clauses.{Clause}
use Rattle.nq_proof.proofs.Tests.{none_is_not_some, some_same}
use Rattle.nq_history.specs.declared.entry.Entry.{Entry}
use Rattle.nq_history.specs.Events.{events_at}
use Rattle.nq_history.proofs.HistoryLemmas.{events_at-grown}
use Rattle.nq_kernel.specs.declared.work.Work.{Work}
use Rattle.nq_kernel.specs.Growing.{WorkStands, WorkGrows, LineHolds}
use Rattle.nq_kernel.specs.Over.{IsVariable, IsTermOf}
use Rattle.nq_shell_parts.specs.Summands.{SummandsAreFound, summand}
use Rattle.nq_part_lines.specs.LawLines.{term_room}
use Rattle.nq_part_lines.specs.Known.{HasKnownRows, IsRow, allowed, row_room, size_is}
use Rattle.nq_part_lines.specs.Pieces.{IsPiece, IsSizeEquation}
use Rattle.nq_part_lines.specs.Objects.{IsSized}
use Rattle.nq_part_lines.specs.Small.{IsSmallIn}
use Rattle.nq_part_lines.specs.declared.piece.Piece.{Piece}

-- a part at each place
pub some_part : (parts : List Part) (k : ℕ) → k < length parts → (part : Part) × (slice_get parts k ≡ Some part)
some_part [] k l = absurd (omega (arith, l))
some_part (p ∷ parts) zero l = (p, refl)
some_part (p ∷ parts) (suc k) l = some_part parts k (omega (arith, l))

abbrev size_of_part : ℕ → Part → Term
size_of_part k part = if_term (allowed k part) (call1 "COUNT" (part_variable k)) zero_term

size_got : (k : ℕ) (parts : List Part) (i : ℕ) (part : Part) → slice_get parts i ≡ Some part → slice_get (part_sizes k parts) i ≡ Some (size_of_part (k + i) part)
size_got k [] i part e = absurd (none_is_not_some part e)
size_got k (p ∷ parts) zero part e =
    let n : k ≡ k + 0 = omega arith in
    subst (λ m. Some (size_of_part k p) ≡ Some (size_of_part m part)) n (ap (λ q. Some (size_of_part k q)) (some_same p part e))
size_got k (p ∷ parts) (suc i) part e =
    let n : suc k + i ≡ k + suc i = omega arith in
    subst (λ m. slice_get (part_sizes (suc k) parts) i ≡ Some (size_of_part m part)) n (size_got (suc k) parts i part e)

sizes_many : (k : ℕ) (parts : List Part) → length (part_sizes k parts) ≡ length parts
sizes_many k [] = refl
sizes_many k (part ∷ parts) = ap suc (sizes_many (suc k) parts)

-- the sum of the sizes of some parts is no numeral
plain_sum : (k : ℕ) (parts : List Part) → 0 < length parts → number_of (sum_of (part_sizes k parts)) ≡ None
unfolding number_of
plain_sum k [] l = absurd (omega (arith, l))
plain_sum k (p ∷ []) l = refl
plain_sum k (p ∷ q ∷ parts) l = refl

pub size_equation : SummandsAreFound → (s : Shell) (place more : ℕ) (part : Part) → length s.parts ≡ place + suc more → slice_get s.parts place ≡ Some part → IsSizeEquation place more (size_is s)
size_equation law s place more part count e =
    let many : length (part_sizes 0 s.parts) ≡ length s.parts = sizes_many 0 s.parts in
    let all : length (part_sizes 0 s.parts) ≡ place + suc more = many ∙ count in
    let some : 0 < length s.parts = omega (arith, count) in
    let found = law (part_sizes 0 s.parts) place more all in
    let n : 0 + place ≡ place = omega arith in
    let got : slice_get (part_sizes 0 s.parts) place ≡ Some (size_of_part place part) = subst (λ m. slice_get (part_sizes 0 s.parts) place ≡ Some (size_of_part m part)) n (size_got 0 s.parts place part e) in
    record {
      object = made s;
      sum = sum_of (part_sizes 0 s.parts);
      allowed = allowed place part;
      variable = part_variable place;
      whole = refl;
      plain = plain_sum 0 s.parts some;
      is_sum = found.0;
      summand_is = some_same _ _ (sym found.1 ∙ got);
    }

-- a literal of a row is a small term
pub row_small : (history : List Entry) (old mid : Work) → WorkStands history old → WorkGrows history old mid → HasKnownRows (events_at old.bank history) → (name : Name) (row i : ℕ) (c : Clause) → IsRow (events_at old.bank history) name row i c → (t : Term) → IsAmong t c → (id : TermId) → Stands mid.bank id → term_at mid.bank id ≡ t →
    IsSmallIn history mid id
row_small history old mid stands grows known name row i c is t m id there e =
    let over : IsTermOf IsVariable (symbols_of (events_at old.bank history)) t = each_at (λ u. IsTermOf IsVariable (symbols_of (events_at old.bank history)) u) t c (known.own.rows name row i c is.is) m in
    let low : depth_of t ≤ row_room = each_at (λ u. depth_of u ≤ row_room) t c is.low m in
    let room : depth_of t ≤ term_room = omega (arith, low) in
    record {
      inside =
          record {
            stands = there;
            over =
                subst (IsTermOf IsVariable (symbols_of (events_at mid.bank history))) (sym e)
                (subst (λ es. IsTermOf IsVariable (symbols_of es) t) (sym (events_at-grown old.bank mid.bank grows.bank history stands.history.entries)) over);
          };
      room = subst (λ u. depth_of u ≤ term_room) (sym e) room;
    }

one_argument : (f a b : Term) → Applied f a ≡ Applied f b → a ≡ b
one_argument f a b e = cc

first_of_two : (f a b c d : Term) → Applied (Applied f a) b ≡ Applied (Applied f c) d → a ≡ c
first_of_two f a b c d e = cc

second_of_two : (f a b c d : Term) → Applied (Applied f a) b ≡ Applied (Applied f c) d → b ≡ d
second_of_two f a b c d e = cc

-- the terms that are read from an equation of a size are its terms
pub record IsReadFrom (work : Work) (p : Piece) (object allowed variable : Term) : Type 0 where
  pub object_is : term_at work.bank p.object ≡ object
  pub allowed_is : term_at work.bank p.allowed ≡ allowed
  pub variable_is : term_at work.bank p.variable ≡ variable

pub piece_terms : (history : List Entry) (work : Work) (place more : ℕ) (e : Term) (p : Piece) → (v : IsSizeEquation place more e) → IsPiece history work place more p → term_at work.bank p.equation ≡ e → IsReadFrom work p v.object v.allowed v.variable
piece_terms history work place more e p v k is =
    let whole : equal_term (call1 "COUNT" (term_at work.bank p.object)) (term_at work.bank p.successor) ≡ equal_term (call1 "COUNT" v.object) (add1_term v.sum) = sym k.equation_is ∙ is ∙ v.whole in
    let count : call1 "COUNT" (term_at work.bank p.object) ≡ call1 "COUNT" v.object = first_of_two _ _ _ _ _ whole in
    let successor : term_at work.bank p.successor ≡ add1_term v.sum = second_of_two _ _ _ _ _ whole in
    let sum : term_at work.bank p.sum ≡ v.sum = one_argument _ _ _ (sym k.successor_is ∙ successor) in
    let size : if_term (term_at work.bank p.allowed) (call1 "COUNT" (term_at work.bank p.variable)) zero_term ≡ if_term v.allowed (call1 "COUNT" v.variable) zero_term =
    sym k.size_of ∙ sym k.size_is ∙ ap (summand place more) sum ∙ v.summand_is in
    let first : Applied (Applied (Function (codes "IF")) (term_at work.bank p.allowed)) (call1 "COUNT" (term_at work.bank p.variable)) ≡ Applied (Applied (Function (codes "IF")) v.allowed) (call1 "COUNT" v.variable) = (let both = size in cc) in
    record {
      object_is = one_argument _ _ _ count;
      allowed_is = first_of_two _ _ _ _ _ first;
      variable_is = one_argument _ _ _ (second_of_two _ _ _ _ _ first);
    }

-- what is read of the size of an object
pub size_told : SummandsAreFound → (history : List Entry) (work : Work) (s : Shell) (place more line : ℕ) (p : Piece) → length s.parts ≡ place + more + 1 → IsPiece history work place more p → term_at work.bank p.equation ≡ size_is s → LineHolds work line (size_is s ∷ []) →
    IsSized history work s place (record { piece = p; line = line })
unfolding size_equation
size_told law history work s place more line p count piece is holds =
    let all : length s.parts ≡ place + suc more = omega (arith, count) in
    let told : (part : Part) → slice_get s.parts place ≡ Some part → IsReadFrom work p (made s) (allowed place part) (part_variable place) = λ part e. piece_terms history work place more (size_is s) p (size_equation law s place more part all e) piece is in
    let one = some_part s.parts place (omega (arith, count)) in
    record {
      more = more;
      count = count;
      piece = piece;
      object_is = (told one.0 one.1).object_is;
      allowed_is = λ part e. (told part e).allowed_is;
      variable_is = (told one.0 one.1).variable_is;
      line = record { literals = size_is s ∷ []; stands = holds; only = λ v m. subst (λ t. IsAmong v (t ∷ [])) (sym is) m };
    }
