-- A line that is read is spelled so, and what is spelled so is read: once for all kinds of lines.
use Rattle.std.proofs.Common.{◌≡◌, ℕ, Bool, true, false, cond, nat_eq, List, [], ◌∷◌, ◌++◌, Some, None, refl, sym, ap, subst, ◌∙◌}
use Rattle.std.specs.Prelude.{map}
use Rattle.std.specs.List.{find, AllByRecursion}
use Rattle.std.specs.Str.{bytes_eq}
use Rattle.std.proofs.lemmas.Slice.Eq.{bytes_eq-Decides}
use Rattle.nq_logtext.specs.declared.word.Word.{Word}
use Rattle.nq_logtext.specs.declared.word.Word.TheVariants.{Header}
use Rattle.nq_logtext.specs.Fields.{Field, text, Kind}
use Rattle.nq_logtext.specs.Symbols.{is_constituent}
use Rattle.nq_logtext.specs.Lines.{Line, word_text, shape, HasKinds, IsSpellable, spelled, spelling}
use Rattle.nq_logtext.specs.Reading.{◌>>=◌, words, word_named, field_of, field_at, run_of, fields_of, with_word, line_at, line_of_words, line_of, parts_of}
use Rattle.nq_logtext.proofs.Cuts.{IsFree, rejoined, rejoined_cut, cut_rejoined}
use Rattle.nq_logtext.proofs.Runs.{bind_some, some_is, with_words}
use Rattle.nq_logtext.proofs.FieldLaws.{field_takes, field_again, flat_map_map}
use Rattle.nq_logtext.proofs.Constituents.{word_free, field_free}

abbrev IsRead : List Kind → List Kind → List (List ℕ) → List Field → Type 0
IsRead run ks ws fs = (ws ≡ map text fs) × HasKinds run ks fs

-- ---- runs and fields

run_takes : (run ks : List Kind) (ws : List (List ℕ)) (fs : List Field) → run_of run ks ws ≡ Some fs → IsRead run ks ws fs
unfolding run_of
run_takes run [] [] fs e = subst (IsRead run [] []) (some_is [] fs e) (refl, tt)
run_takes run (k ∷ ks) [] fs e = absurd cc
run_takes [] [] (w ∷ ws) fs e = absurd cc
run_takes (k ∷ ks) [] (w ∷ ws) fs e =
    let a = bind_some (field_of k w) (λ f. run_of (k ∷ ks) ks ws >>= λ gs. Some (f ∷ gs)) fs e in
    let b = bind_some (run_of (k ∷ ks) ks ws) (λ gs. Some (a.0 ∷ gs)) fs a.2 in
    let first = field_takes k w a.0 a.1 in
    let others = run_takes (k ∷ ks) ks ws b.0 b.1 in
    subst (IsRead (k ∷ ks) [] (w ∷ ws)) (some_is (a.0 ∷ b.0) fs b.2) (ap (λ (v : List ℕ). v ∷ ws) first.0 ∙ ap (λ (vs : List (List ℕ)). text a.0 ∷ vs) others.0, (first.1, others.1))
run_takes run (k ∷ ks) (w ∷ ws) fs e =
    let a = bind_some (field_of k w) (λ f. run_of run ks ws >>= λ gs. Some (f ∷ gs)) fs e in
    let b = bind_some (run_of run ks ws) (λ gs. Some (a.0 ∷ gs)) fs a.2 in
    let first = field_takes k w a.0 a.1 in
    let others = run_takes run ks ws b.0 b.1 in
    subst (IsRead run (k ∷ ks) (w ∷ ws)) (some_is (a.0 ∷ b.0) fs b.2) (ap (λ (v : List ℕ). v ∷ ws) first.0 ∙ ap (λ (vs : List (List ℕ)). text a.0 ∷ vs) others.0, (first.1, others.1))

run_again : (run ks : List Kind) (fs : List Field) → HasKinds run ks fs → run_of run ks (map text fs) ≡ Some fs
unfolding run_of
run_again run [] [] h = refl
run_again run (k ∷ ks) [] h = absurd h
run_again [] [] (f ∷ fs) h = absurd h
run_again (k ∷ ks) [] (f ∷ fs) h = rw (field_again k f h.0, run_again (k ∷ ks) ks fs h.1) refl
run_again run (k ∷ ks) (f ∷ fs) h = rw (field_again k f h.0, run_again run ks fs h.1) refl

fields_take : (run ks : List Kind) (ws : List (List ℕ)) (fs : List Field) → fields_of run ks ws ≡ Some fs → IsRead run ks ws fs
fields_take run [] ws fs e = run_takes run [] ws fs e
fields_take run (k ∷ ks) [] fs e = absurd cc
fields_take run (k ∷ ks) (w ∷ ws) fs e =
    let z = bind_some (field_at k (w ∷ ws)) (λ f. fields_of run ks f.1 >>= λ gs. Some (f.0 ∷ gs)) fs e in
    let a = bind_some (field_of k w) (with_words ws) z.0 z.1 in
    let is : (a.0, ws) ≡ z.0 = some_is (a.0, ws) z.0 a.2 in
    let b = bind_some (fields_of run ks z.0.1) (λ gs. Some (z.0.0 ∷ gs)) fs z.2 in
    let rest : fields_of run ks ws ≡ Some b.0 = ap (λ (p : Field × List (List ℕ)). fields_of run ks p.1) is ∙ b.1 in
    let first = field_takes k w a.0 a.1 in
    let others = fields_take run ks ws b.0 rest in
    let front : a.0 ∷ b.0 ≡ fs = ap (λ (p : Field × List (List ℕ)). p.0 ∷ b.0) is ∙ some_is (z.0.0 ∷ b.0) fs b.2 in
    subst (IsRead run (k ∷ ks) (w ∷ ws)) front (ap (λ (v : List ℕ). v ∷ ws) first.0 ∙ ap (λ (vs : List (List ℕ)). text a.0 ∷ vs) others.0, (first.1, others.1))

fields_again : (run ks : List Kind) (fs : List Field) → HasKinds run ks fs → fields_of run ks (map text fs) ≡ Some fs
fields_again run [] fs h = run_again run [] fs h
fields_again run (k ∷ ks) [] h = absurd h
fields_again run (k ∷ ks) (f ∷ fs) h = rw (field_again k f h.0, fields_again run ks fs h.1) refl

fields_free : (run ks : List Kind) (fs : List Field) → HasKinds run ks fs → AllByRecursion (IsFree 32) (map text fs)
fields_free run [] [] h = tt
fields_free run (k ∷ ks) [] h = absurd h
fields_free [] [] (f ∷ fs) h = absurd h
fields_free (k ∷ ks) [] (f ∷ fs) h = (field_free 32 refl k f h.0, fields_free (k ∷ ks) ks fs h.1)
fields_free run (k ∷ ks) (f ∷ fs) h = (field_free 32 refl k f h.0, fields_free run ks fs h.1)

-- ---- first words

find_step : (test : Word → Bool) (v : Word) (ws : List Word) (w : Word) (b : Bool) → test v ≡ b → (find test ws ≡ Some w → test w ≡ true) → cond b (Some v) (find test ws) ≡ Some w → test w ≡ true
find_step test v ws w true is later e = subst (λ (x : Word). test x ≡ true) (some_is v w e) is
find_step test v ws w false is later e = later e

find_takes : (test : Word → Bool) (ws : List Word) (w : Word) → find test ws ≡ Some w → test w ≡ true
find_takes test [] w e = absurd cc
find_takes test (v ∷ ws) w e = find_step test v ws w (test v) refl (find_takes test ws w) e

named_takes : (bytes : List ℕ) (w : Word) → word_named bytes ≡ Some w → bytes ≡ word_text w
named_takes bytes w e = sym ((bytes_eq-Decides (word_text w) bytes).0 (find_takes (λ v. bytes_eq (word_text v) bytes) words w e))

named_again : (w : Word) → word_named (word_text w) ≡ Some w
named_again w = elim w as (λ v. word_named (word_text v) ≡ Some v) [ Header ↦ refl | _ ↦ refl ]

-- ---- lines

words_take : (ws : List (List ℕ)) (line : Line) → line_of_words ws ≡ Some line → IsSpellable line × (ws ≡ word_text line.word ∷ map text line.fields)
unfolding line_of_words
words_take [] line e = absurd cc
words_take (w ∷ ws) line e =
    let a = bind_some (word_named w) (λ word. line_at word ws) line e in
    let b = bind_some (fields_of (shape a.0).run (shape a.0).first ws) (λ fields. Some (with_word a.0 fields)) line a.2 in
    let read = fields_take (shape a.0).run (shape a.0).first ws b.0 b.1 in
    let whole : w ∷ ws ≡ word_text a.0 ∷ map text b.0 = ap (λ (v : List ℕ). v ∷ ws) (named_takes w a.0 a.1) ∙ ap (λ (vs : List (List ℕ)). word_text a.0 ∷ vs) read.0 in
    subst (λ (l : Line). IsSpellable l × (w ∷ ws ≡ word_text l.word ∷ map text l.fields)) (some_is (with_word a.0 b.0) line b.2) (read.1, whole)

pub line_takes : (bytes : List ℕ) (line : Line) → line_of bytes ≡ Some line → IsSpellable line × (bytes ≡ spelling line)
line_takes bytes line e =
    let t = words_take (parts_of 32 bytes) line e in
    (t.0, sym (rejoined_cut 32 bytes) ∙ ap (rejoined 32) t.1 ∙ ap (λ (r : List ℕ). word_text line.word ++ r) (flat_map_map 32 text line.fields))

pub line_again : (line : Line) → IsSpellable line → line_of (spelling line) ≡ Some line
unfolding line_of_words
line_again line h =
    let free = fields_free (shape line.word).run (shape line.word).first line.fields h in
    let parts : parts_of 32 (spelling line) ≡ word_text line.word ∷ map text line.fields =
    ap (λ (r : List ℕ). parts_of 32 (word_text line.word ++ r)) (sym (flat_map_map 32 text line.fields)) ∙ cut_rejoined 32 (word_text line.word) (map text line.fields) refl (word_free 32 refl line.word) free in
    ap line_of_words parts ∙ rw (named_again line.word, fields_again (shape line.word).run (shape line.word).first line.fields h) refl

pub none_spelled : (bytes : List ℕ) → line_of bytes ≡ None → (line : Line) → IsSpellable line → bytes ≡ spelling line → ⊥
none_spelled bytes none line h e = let again : line_of bytes ≡ Some line = ap line_of e ∙ line_again line h in cc

pub one_line : (a b : Line) → IsSpellable a → IsSpellable b → spelling a ≡ spelling b → a ≡ b
one_line a b h k e = some_is a b (sym (line_again a h) ∙ ap line_of e ∙ line_again b k)

-- ---- bytes that stand in no line

free_append : (at : ℕ) (xs ys : List ℕ) → IsFree at xs → IsFree at ys → IsFree at (xs ++ ys)
free_append at [] ys f g = g
free_append at (x ∷ xs) ys f g = (f.0, free_append at xs ys f.1 g)

module _ (at : ℕ) (other : is_constituent at ≡ false) (no_space : nat_eq 32 at ≡ false) where
  spelled_free : (run ks : List Kind) (fs : List Field) → HasKinds run ks fs → IsFree at (spelled fs)
  spelled_free run [] [] h = tt
  spelled_free run (k ∷ ks) [] h = absurd h
  spelled_free [] [] (f ∷ fs) h = absurd h
  spelled_free (k ∷ ks) [] (f ∷ fs) h = (no_space, free_append at (text f) (spelled fs) (field_free at other k f h.0) (spelled_free (k ∷ ks) ks fs h.1))
  spelled_free run (k ∷ ks) (f ∷ fs) h = (no_space, free_append at (text f) (spelled fs) (field_free at other k f h.0) (spelled_free run ks fs h.1))

  -- a byte that is neither a constituent nor a space stands in no line
  pub line_free : (line : Line) → IsSpellable line → IsFree at (spelling line)
  line_free line h =
      free_append at (word_text line.word) (spelled line.fields) (word_free at other line.word) (spelled_free (shape line.word).run (shape line.word).first line.fields h)
