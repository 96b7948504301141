-- Nodes that lie one after another, one more and some fewer.
use Rattle.std.proofs.Common.{◌≡◌, ℕ, zero, suc, ◌+◌, ◌-◌, ◌*◌, ◌/◌, ◌%◌, ◌^◌, ◌<◌, ◌≤◌, List, [], ◌∷◌, ◌++◌, length, get_or, take, drop, refl, sym, ap, ◌∙◌, subst, arith, length-append}
use Rattle.std.proofs.lemmas.List.{take-take, take-append-le, take_all, length-take-le}
use Rattle.std.proofs.Math.Nat.{div-add-mod', add_comm}
use Rattle.std.proofs.Math.Seq.{drop-append_seam}
use Rattle.std.proofs.lemmas.Slice.{between_is}
use Rattle.nq_bank.specs.declared.node.Sym.{Sym}
use Rattle.nq_bank.specs.declared.node.TermId.{TermId}
use Rattle.nq_bank.specs.declared.node.Node.TheVariants.{Var, Num, App}
use Rattle.nq_bank.specs.declared.node.Kept.{Kept}
use Rattle.nq_bank.specs.declared.record.Kind.TheVariants.{Variable, Numeral, Call}
use Rattle.nq_bank.specs.declared.record.Record.{Record}
use Rattle.nq_bank.specs.Entries.{Stored, blank, entry_at, part, entry_with, entry_of, entries, AreLaid, no_record, record_of, halves, start_from, start_at, stored}

pub length-entries : (ids : List TermId) (start : ℕ) (rs : List Record) → length (entries ids start rs) ≡ length rs
unfolding entries
length-entries ids start [] = refl
length-entries ids start (r ∷ rs) = ap suc (length-entries ids r.end rs)

pub entries_none : (ids : List TermId) (start : ℕ) → entries ids start [] ≡ []
unfolding entries
entries_none ids start = refl

start_from-more : (start : ℕ) (r : Record) (rs : List Record) (i : ℕ) → start_from r.end rs i ≡ start_from start (r ∷ rs) (suc i)
start_from-more start r rs zero = refl
start_from-more start r rs (suc i) = refl

entry_from : (ids : List TermId) (start : ℕ) (rs : List Record) (i : ℕ) → i < length rs → get_or (entries ids start rs) i blank ≡ entry_of ids (start_from start rs i) (get_or rs i no_record)
unfolding entries
entry_from ids start [] i h = absurd (omega arith)
entry_from ids start (r ∷ rs) zero h = refl
entry_from ids start (r ∷ rs) (suc i) h =
    entry_from ids r.end rs i (omega arith) ∙ ap (λ n. entry_of ids n (get_or rs i no_record)) (start_from-more start r rs i)

-- the arguments of a record lie within the whole
pub record LiesIn (start end whole : ℕ) : Type 0 where
  pub forward : start ≤ end
  pub within : end ≤ whole

laid_within : (start end : ℕ) (rs : List Record) → AreLaid start rs end → start ≤ end
unfolding AreLaid
laid_within start end [] h = omega (arith, h)
laid_within start end (r ∷ rs) h = omega (arith, h.0, laid_within r.end end rs h.1)

laid_at : (start end : ℕ) (rs : List Record) (i : ℕ) → AreLaid start rs end → i < length rs → LiesIn (start_from start rs i) (get_or rs i no_record).end end
unfolding AreLaid
laid_at start end [] i h below = absurd (omega arith)
laid_at start end (r ∷ rs) zero h below = record { forward = h.0; within = laid_within r.end end rs h.1 }
laid_at start end (r ∷ rs) (suc i) h below =
    subst (λ n. LiesIn n (get_or rs i no_record).end end) (start_from-more start r rs i) (laid_at r.end end rs i h.1 (omega arith))

laid_push : (start end : ℕ) (rs : List Record) (r : Record) → AreLaid start rs end → end ≤ r.end → AreLaid start (rs ++ r ∷ []) r.end
unfolding AreLaid
laid_push start end [] r h more = (omega (arith, h, more), refl)
laid_push start end (x ∷ rs) r h more = (h.0, laid_push x.end end rs r h.1 more)

laid_take : (start end n : ℕ) (rs : List Record) → AreLaid start rs end → n ≤ length rs → AreLaid start (take n rs) (start_from start rs n)
unfolding AreLaid
laid_take start end zero [] h within = refl
laid_take start end zero (r ∷ rs) h within = refl
laid_take start end (suc n) [] h within = absurd (omega arith)
laid_take start end (suc n) (r ∷ rs) h within =
    (h.0, subst (AreLaid r.end (take n rs)) (start_from-more start r rs n) (laid_take r.end end n rs h.1 (omega arith)))

part-longer : (ids more : List TermId) (start end : ℕ) → end ≤ length ids → part (ids ++ more) start end ≡ part ids start end
part-longer ids more start end h = between_is (ids ++ more) start end ∙ ap (drop start) (take-append-le end ids more h) ∙ sym (between_is ids start end)

part-cut : (ids : List TermId) (n start end : ℕ) → end ≤ n → part (take n ids) start end ≡ part ids start end
part-cut ids n start end h = between_is (take n ids) start end ∙ ap (drop start) (take-take end n ids h) ∙ sym (between_is ids start end)

part-last : (ids more : List TermId) (start end : ℕ) → start ≡ length ids → end ≡ length ids + length more → part (ids ++ more) start end ≡ more
part-last ids more start end h k =
    ap (λ n. take (end - start) (drop n (ids ++ more))) h ∙ ap (take (end - start)) (drop-append_seam ids more) ∙ take_all (end - start) more (omega (arith, h, k))

pub entries_push : (ids more : List TermId) (start : ℕ) (rs : List Record) (r : Record) → AreLaid start rs (length ids) → r.end ≡ length ids + length more → entries (ids ++ more) start (rs ++ r ∷ []) ≡ entries ids start rs ++ entry_with r more ∷ []
unfolding entries AreLaid
entries_push ids more start [] r h k = ap (λ x. entry_with r x ∷ []) (part-last ids more start r.end h k)
entries_push ids more start (x ∷ rs) r h k =
    ap (λ p. entry_with x p ∷ entries (ids ++ more) x.end (rs ++ r ∷ [])) (part-longer ids more start x.end (laid_within x.end (length ids) rs h.1))
    ∙ ap (λ es. entry_of ids start x ∷ es) (entries_push ids more x.end rs r h.1 k)

entries_cut : (ids : List TermId) (start whole n : ℕ) (rs : List Record) → AreLaid start rs whole → n ≤ length rs → entries (take (start_from start rs n) ids) start (take n rs) ≡ take n (entries ids start rs)
unfolding entries AreLaid
entries_cut ids start whole zero [] h within = refl
entries_cut ids start whole zero (r ∷ rs) h within = refl
entries_cut ids start whole (suc n) [] h within = absurd (omega arith)
entries_cut ids start whole (suc n) (r ∷ rs) h within =
    let cut = start_from start (r ∷ rs) (suc n) in
    let same : start_from r.end rs n ≡ cut = start_from-more start r rs n in
    let reaches : r.end ≤ cut = subst (λ e. r.end ≤ e) same (laid_within r.end (start_from r.end rs n) (take n rs) (laid_take r.end whole n rs h.1 (omega arith))) in
    ap (λ p. entry_with r p ∷ entries (take cut ids) r.end (take n rs)) (part-cut ids cut start r.end reaches)
    ∙ ap (λ es. entry_of ids start r ∷ es) (subst (λ e. entries (take e ids) r.end (take n rs) ≡ take n (entries ids r.end rs)) same (entries_cut ids r.end whole n rs h.1 (omega arith)))

pub below : (ids : List TermId) (rs : List Record) (es : List Stored) (i : ℕ) → entries ids 0 rs ≡ es → i < length es → i < length rs
below ids rs es i view h = let count = length-entries ids 0 rs in subst (λ n. i < n) (ap length (sym view) ∙ count) h

-- the node at a place is that of its record
pub reads : (ids : List TermId) (rs : List Record) (es : List Stored) (i : ℕ) → entries ids 0 rs ≡ es → i < length es → entry_at es i ≡ entry_of ids (start_at rs i) (get_or rs i no_record)
reads ids rs es i view h = ap (λ x. entry_at x i) (sym view) ∙ entry_from ids 0 rs i (below ids rs es i view h)

pub lies : (ids : List TermId) (rs : List Record) (i : ℕ) → AreLaid 0 rs (length ids) → i < length rs → LiesIn (start_at rs i) (get_or rs i no_record).end (length ids)
lies ids rs i h k = laid_at 0 (length ids) rs i h k

pub record Pushed (ids : List TermId) (rs : List Record) (es : List Stored) (e : Stored) : Type 0 where
  pub laid : AreLaid 0 rs (length ids)
  pub view : entries ids 0 rs ≡ es ++ e ∷ []

-- one more record, whose arguments lie last
pub pushed : (ids more : List TermId) (rs : List Record) (r : Record) (es : List Stored) → entries ids 0 rs ≡ es → AreLaid 0 rs (length ids) → r.end ≡ length ids + length more → Pushed (ids ++ more) (rs ++ r ∷ []) es (entry_with r more)
pushed ids more rs r es view laid end =
    record {
      laid = subst (AreLaid 0 (rs ++ r ∷ [])) (end ∙ sym (length-append ids more)) (laid_push 0 (length ids) rs r laid (omega (arith, end)));
      view = entries_push ids more 0 rs r laid end ∙ ap (λ x. x ++ entry_with r more ∷ []) view;
    }

pub record Cut (ids : List TermId) (rs : List Record) (n : ℕ) (es : List Stored) : Type 0 where
  pub laid : AreLaid 0 (take n rs) (length (take (start_at rs n) ids))
  pub view : entries (take (start_at rs n) ids) 0 (take n rs) ≡ take n es

-- only the first records, and what lies before the arguments of the next
pub cut : (ids : List TermId) (rs : List Record) (n : ℕ) (es : List Stored) → entries ids 0 rs ≡ es → AreLaid 0 rs (length ids) → n < length rs → Cut ids rs n es
cut ids rs n es view laid h =
    let lies_in = lies ids rs n laid h in
    let within : start_at rs n ≤ length ids = omega (arith, lies_in.forward, lies_in.within) in
    record {
      laid = subst (AreLaid 0 (take n rs)) (sym (length-take-le (start_at rs n) ids within)) (laid_take 0 (length ids) n rs laid (omega arith));
      view = entries_cut ids 0 (length ids) n rs laid (omega arith) ∙ ap (take n) view;
    }

halves_joined : (n whole : ℕ) → n % whole + n / whole * whole ≡ n
halves_joined n whole = add_comm (n % whole) (n / whole * whole) ∙ div-add-mod' n whole

-- what a record keeps of a variable, of a numeral and of a call
pub variable_kept : (s : Sym) (ids : List TermId) (kept : Kept) → entry_with (record_of Variable s.0 0 kept) ids ≡ stored (Var s) ids kept
variable_kept s ids kept = ap (λ n. stored (Var s) ids (record { depth = kept.depth; size = n; value = kept.value })) (halves_joined kept.size (2 ^ 32))

pub numeral_kept : (n : ℕ) (ids : List TermId) (kept : Kept) → ids ≡ [] → entry_with (record_of Numeral 0 0 kept) (halves n) ≡ stored (Num n) ids kept
numeral_kept n ids kept none =
    ap (λ m. stored (Num m) [] (record { depth = kept.depth; size = kept.size % 2 ^ 32 + kept.size / 2 ^ 32 * 2 ^ 32; value = kept.value })) (halves_joined n (2 ^ 64))
    ∙ ap (λ m. stored (Num n) [] (record { depth = kept.depth; size = m; value = kept.value })) (halves_joined kept.size (2 ^ 32))
    ∙ ap (λ xs. stored (Num n) xs kept) (sym none)

pub call_kept : (f : Sym) (count : ℕ) (ids : List TermId) (kept : Kept) → count ≡ length ids → entry_with (record_of Call f.0 0 kept) ids ≡ stored (App f count) ids kept
call_kept f count ids kept counted =
    ap (λ n. stored (App f (length ids)) ids (record { depth = kept.depth; size = n; value = kept.value })) (halves_joined kept.size (2 ^ 32))
    ∙ ap (λ k. stored (App f k) ids kept) (sym counted)
