-- The calls of a shell's accessors on X, and the object that is made again of them.
use Rattle.std.proofs.Common.{◌≡◌, ◌<◌, ◌≤◌, ◌+◌, ◌∙◌, ℕ, zero, suc, Bool, true, false, Option, Some, None, List, [], ◌∷◌, ◌++◌, length, get_or, drop, refl, sym, ap, ap₂, subst, append_assoc, inl, inr, arith}
use Rattle.std.specs.Prelude.{slice_get, All, bytes_eq, codes, if◌then◌else◌}
use Rattle.std.proofs.lemmas.List.{append-nil, drop_all, drop_more, length-map}
use Rattle.nq_logic.specs.Terms.{Name, Symbol, Term, Function, Applied, Each, IsAmong, call}
use Rattle.nq_logic.specs.Words.{not_term, equal_term}
use Rattle.nq_logic.specs.Ground.{symbols_of}
use Rattle.nq_logic.specs.Numerals.{number_of}
use Rattle.nq_logic.specs.Histories.{History, Part, Shell}
use Rattle.nq_logic.specs.Shells.{accessed, is_base, made, part_variable, part_variables, recognizes, remade, whole}
use Rattle.nq_logic.proofs.Lists.{among_at, among_right, each_at}
use Rattle.nq_bank.specs.declared.node.Sym.{Sym}
use Rattle.nq_bank.specs.declared.node.TermId.{TermId}
use Rattle.nq_bank.specs.declared.shell.Part.{Part as PartOfIds}
use Rattle.nq_bank.specs.Content.{Content, IsIdOf, IsNamed, Stands, term_at, terms_at, text_at}
use Rattle.nq_bank.specs.Parts.{parts_of}
use Rattle.nq_bank.specs.Shells.{part_at, parts_at}
use Rattle.nq_bank.proofs.CallLemmas.{parts_of-other}
use Rattle.nq_bank.proofs.Growth.{terms_at-grown, text_at-grown}
use Rattle.nq_bank.proofs.Numerals.{number_of-call}
use Rattle.nq_bank.proofs.Standing.{All-push}
use Rattle.nq_proof.specs.Clauses.{literal_at}
use Rattle.nq_proof.proofs.Tests.{none_is_not_some, some_same}
use Rattle.nq_history.specs.declared.entry.Entry.{Entry}
use Rattle.nq_history.specs.Events.{events_at}
use Rattle.nq_history.proofs.HistoryLemmas.{events_at-grown}
use Rattle.nq_kernel.specs.declared.work.Work.{Work}
use Rattle.nq_kernel.specs.Growing.{WorkStands, WorkGrows}
use Rattle.nq_kernel.specs.Over.{IsTermOf, IsVariable}
use Rattle.nq_part_lines.specs.Known.{HasKnownRows, IsKnownShell}
use Rattle.nq_part_lines.specs.Small.{IsSmallIn}
use Rattle.nq_part_lines.proofs.PartLemmas.{part_read}
use Rattle.nq_part_lines.proofs.ReadingLemmas.{small_grown}

-- one call more
terms_push : (bank : Content) (ids : List TermId) (t : TermId) → terms_at bank (ids ++ t ∷ []) ≡ terms_at bank ids ++ term_at bank t ∷ []
terms_push bank [] t = refl
terms_push bank (i ∷ ids) t = ap (λ ts. term_at bank i ∷ ts) (terms_push bank ids t)

pub small_stand : (history : List Entry) (work : Work) (ids : List TermId) → All (IsSmallIn history work) ids → All (Stands work.bank) ids
small_stand history work ids h = λ k d below. (h k d below).inside.stands

module _ (history : List Entry) (old new : Work) (stands : WorkStands history old) (grows : WorkGrows history old new) where
  pub calls_grown : (ids : List TermId) → All (IsSmallIn history old) ids → All (IsSmallIn history new) ids
  calls_grown ids h = λ k d below. small_grown history old new (get_or ids k d) stands grows (h k d below)

  pub same_calls : (ids : List TermId) → All (IsSmallIn history old) ids → terms_at new.bank ids ≡ terms_at old.bank ids
  same_calls ids h = terms_at-grown old.bank new.bank ids grows.bank (small_stand history old ids h)

  pub call_more : (ids : List TermId) (t : TermId) → All (IsSmallIn history old) ids → IsSmallIn history new t → All (IsSmallIn history new) (ids ++ t ∷ [])
  call_more ids t h k = All-push (IsSmallIn history new) ids t (calls_grown ids h) k

  pub call_next : (base : Content) (ids : List TermId) (t : TermId) (items : List PartOfIds) (i : ℕ) (part : PartOfIds) → All (IsSmallIn history old) ids → terms_at old.bank ids ++ accessed whole (parts_at base (drop i items)) ≡ accessed whole (parts_at base items) → i < length items → part ≡ get_or items i part → IsIdOf new.bank t (Applied (Function (text_at base part.accessor)) whole) →
      terms_at new.bank (ids ++ t ∷ []) ++ accessed whole (parts_at base (drop (i + 1) items)) ≡ accessed whole (parts_at base items)
  call_next base ids t items i part small so_far below is id =
      let rest : List Term = accessed whole (parts_at base (drop (i + 1) items)) in
      let here : drop i items ≡ part ∷ drop (i + 1) items = drop_more items i part below ∙ ap (λ p. p ∷ drop (i + 1) items) (sym is) in
      ap (λ ts. ts ++ rest) (terms_push new.bank ids t)
      ∙ append_assoc (terms_at new.bank ids) (term_at new.bank t ∷ []) rest
      ∙ ap₂ (λ ts u. ts ++ (u ∷ rest)) (same_calls ids small) id.denotes
      ∙ ap (λ ps. terms_at old.bank ids ++ accessed whole (parts_at base ps)) (sym here)
      ∙ so_far

-- the call of the accessor at a place
first_same : (t u : Term) (ts us : List Term) → ◌≡◌ {A = List Term} (t ∷ ts) (u ∷ us) → t ≡ u
first_same t u ts us e = cc

rest_same : (t u : Term) (ts us : List Term) → ◌≡◌ {A = List Term} (t ∷ ts) (u ∷ us) → ts ≡ us
rest_same t u ts us e = cc

none_same : (t : Term) (ts : List Term) → ◌≡◌ {A = List Term} [] (t ∷ ts) → ⊥
none_same t ts e = cc

pub call_got : (bank : Content) (ids : List TermId) (parts : List Part) (i : ℕ) (d : TermId) (part : Part) → terms_at bank ids ≡ accessed whole parts → slice_get parts i ≡ Some part → term_at bank (get_or ids i d) ≡ Applied (Function part.accessor) whole
call_got bank ids [] i d part e k = absurd (none_is_not_some part k)
call_got bank [] (p ∷ parts) i d part e k = absurd (none_same _ _ e)
call_got bank (t ∷ ids) (p ∷ parts) zero d part e k = first_same _ _ _ _ e ∙ ap (λ (q : Part). Applied (Function q.accessor) whole) (some_same p part k)
call_got bank (t ∷ ids) (p ∷ parts) (suc i) d part e k = call_got bank ids parts i d part (rest_same _ _ _ _ e) k

accessed_length : (parts : List Part) → length (accessed whole parts) ≡ length parts
accessed_length [] = refl
accessed_length (p ∷ parts) = ap suc (accessed_length parts)

pub calls_length : (bank : Content) (ids : List TermId) (parts : List Part) → terms_at bank ids ≡ accessed whole parts → length ids ≡ length parts
calls_length bank ids parts e = sym (length-map ids (term_at bank)) ∙ ap length e ∙ accessed_length parts

-- the variable at a place of the object that is made of variables
variable_got : (k : ℕ) (parts : List Part) (i : ℕ) (part : Part) → slice_get parts i ≡ Some part → slice_get (part_variables k parts) i ≡ Some (part_variable (k + i))
variable_got k [] i part e = absurd (none_is_not_some part e)
variable_got k (p ∷ parts) zero part e = let n : k ≡ k + 0 = omega arith in ap (λ m. Some (part_variable m)) n
variable_got k (p ∷ parts) (suc i) part e =
    let n : suc k + i ≡ k + suc i = omega arith in
    subst (λ m. slice_get (part_variables (suc k) parts) i ≡ Some (part_variable m)) n (variable_got (suc k) parts i part e)

plain_made : (f : Name) (k : ℕ) (p : Part) (parts : List Part) → number_of (call f (part_variables k (p ∷ parts))) ≡ None
unfolding number_of
plain_made f k p [] = by_name (bytes_eq f (codes "ADD1"))
  where
    by_name : (b : Bool) → ◌≡◌ {A = Option ℕ} (if b then None else None) None
    by_name true = refl
    by_name false = refl
plain_made f k p (q ∷ parts) = number_of-call f (part_variable k ∷ part_variable (suc k) ∷ part_variables (suc (suc k)) parts)

pub variable_there : (s : Shell) (k : ℕ) (part : Part) → slice_get s.parts k ≡ Some part → literal_at (k + 1) (parts_of (made s)) ≡ Some (part_variable k)
variable_there s k part e =
    let n : suc k ≡ k + 1 = omega arith in
    let m : 0 + k ≡ k = omega arith in
    let got : slice_get (part_variables 0 s.parts) k ≡ Some (part_variable k) = subst (λ i. slice_get (part_variables 0 s.parts) k ≡ Some (part_variable i)) m (variable_got 0 s.parts k part e) in
    let plain : number_of (made s) ≡ None = by_parts s.parts e in
    subst (λ place. literal_at place (parts_of (made s)) ≡ Some (part_variable k)) n (ap (λ ts. slice_get ts k) (parts_of-other s.constructor (part_variables 0 s.parts) plain) ∙ got)
  where
    by_parts : (parts : List Part) → slice_get parts k ≡ Some part → number_of (call s.constructor (part_variables 0 parts)) ≡ None
    by_parts [] h = absurd (none_is_not_some part h)
    by_parts (p ∷ parts) h = plain_made s.constructor 0 p parts

-- the object is over the history's functions
pub remade_over : (h : History) (s : Shell) → IsKnownShell h s → HasKnownRows h → IsTermOf IsVariable (symbols_of h) (remade s)
remade_over h s known rows =
    let c : List Term = not_term (recognizes s whole) ∷ (is_base s.base ++ (equal_term (remade s) whole ∷ [])) in
    let again : IsTermOf IsVariable (symbols_of h) (equal_term (remade s) whole) =
    each_at (IsTermOf IsVariable (symbols_of h)) (equal_term (remade s) whole) c (rows.own.rows s.constructor 5 0 c known.again.is) (inr (among_right (equal_term (remade s) whole) (is_base s.base) (equal_term (remade s) whole ∷ []) (inl refl))) in
    record { over = again.over.0.1; variables = again.variables.0.1 }

-- all of the calls
pub calls_all : (bank : Content) (ts : List Term) (i : ℕ) (items : List PartOfIds) → ts ++ accessed whole (parts_at bank (drop i items)) ≡ accessed whole (parts_at bank items) → length items ≤ i → ts ≡ accessed whole (parts_at bank items)
calls_all bank ts i items so_far l = sym (append-nil ts) ∙ ap (λ ps. ts ++ accessed whole (parts_at bank ps)) (sym (drop_all i items l)) ∙ so_far

-- the accessor of a part at a place is a function of one argument
pub accessor_in : (bank : Content) (symbols : List Symbol) (items : List PartOfIds) (i : ℕ) (part : PartOfIds) → Each (λ part. IsAmong (part.accessor, 1) symbols) (parts_at bank items) → i < length items → part ≡ get_or items i part → IsAmong (text_at bank part.accessor, 1) symbols
accessor_in bank symbols items i part each below is =
    each_at (λ part. IsAmong (part.accessor, 1) symbols) (part_at bank part) (parts_at bank items) each (among_at (part_at bank part) (parts_at bank items) i (part_read bank items i part below is))

-- a function of the history stays one
pub symbol_grown : (history : List Entry) (old new : Work) (f : Sym) (n : ℕ) → WorkStands history old → WorkGrows history old new → IsNamed old.bank f → IsAmong (text_at old.bank f, n) (symbols_of (events_at old.bank history)) → IsAmong (text_at new.bank f, n) (symbols_of (events_at new.bank history))
symbol_grown history old new f n stands grows named h =
    subst (λ x. IsAmong (x, n) (symbols_of (events_at new.bank history))) (sym (text_at-grown old.bank new.bank f grows.bank named))
    (subst (λ es. IsAmong (text_at old.bank f, n) (symbols_of es)) (sym (events_at-grown old.bank new.bank grows.bank history stands.history.entries)) h)

pub none_small : (history : List Entry) (work : Work) (ids : List TermId) → ids ≡ [] → All (IsSmallIn history work) ids
none_small history work ids e = subst (All (IsSmallIn history work)) (sym e) (λ i d below. absurd (omega (arith, below)))
