-- The clauses of a closed history's shells are over its symbols.
use Rattle.std.proofs.Common.{◌≡◌, ℕ, zero, suc, List, [], ◌∷◌, ◌++◌, length, set, inl, inr, refl, sym, ap, ◌∙◌, subst, append_assoc}
use Rattle.std.proofs.lemmas.List.{length-set}
use Rattle.std.specs.Prelude.{Option, Some, None, codes, slice_get}
use Rattle.nq_logic.specs.Terms.{Name, Term, Function, Applied, applied, call, Symbol, Takes, IsTerm, IsAmong, Each}
use Rattle.nq_logic.specs.Words.{equal_term}
use Rattle.nq_logic.specs.Histories.{History, AddShell, Declaration, Defines, Axiom, Lemma, Toggle, Shell, Part, Restriction, OneOf, NoneOf, shell_symbols, accessor_symbols, base_symbols, event_symbols, events_symbols, event_shells, events_shells}
use Rattle.nq_logic.specs.Ground.{symbols_of, ground_shells, ground_history}
use Rattle.nq_logic.specs.Shells.{either_of, recognized, restricted, part_variable, part_variables, made, made_with, whole, accessed, remade, is_base, part_sizes, sum_of, IsShellClause, recognizer_is_truth_value, made_is_recognized, base_is_recognized, made_is_no_base, remade_is_same, part_of_made, wrong_part_of_made, part_of_other, part_of_base, wrong_part, truth_is_none, falsity_is_none, kinds_differ, size_of_made, size_of_base}
use Rattle.nq_logic.specs.Laws.{IsClause}
use Rattle.nq_logic.proofs.Lists.{among_left, among_right, among_at, each_at, each_append, each_among}
use Rattle.nq_logic.proofs.Symbols.{true_symbol, false_symbol, not_symbol, or_symbol, plus_symbol, count_symbol, add1_symbol, equal_symbol, if_symbol, zero_symbol, numberp_symbol}
use Rattle.nq_logic.specs.ShellPrinciple.{listed}
use Rattle.nq_proof.specs.Closed.{PartOver, EventOver, IsClosed}

-- the names of a shell and of its parts are symbols
pub record ShellOver (symbols : List Symbol) (s : Shell) : Type 0 where
  pub constructor : IsAmong (s.constructor, length s.parts) symbols
  pub base : (b : List ℕ) → s.base ≡ Some b → IsAmong (b, 0) symbols
  pub recognizer : IsAmong (s.recognizer, 1) symbols
  pub accessors : Each (λ part. IsAmong (part.accessor, 1) symbols) s.parts
  pub parts : Each (PartOver symbols) s.parts

-- the clauses of a shell, where its names are symbols
module _ (h : History) where
  applied_here : (t : Term) (ts : List Term) → Takes (symbols_of h) t (length ts) → Each (IsTerm (symbols_of h)) ts → IsTerm (symbols_of h) (applied t ts)
  applied_here t [] o all = o
  applied_here t (u ∷ ts) o all = applied_here (Applied t u) ts (o, all.0) all.1

  pub either_over : (ts : List Term) → Each (IsTerm (symbols_of h)) ts → IsTerm (symbols_of h) (either_of ts)
  either_over [] o = false_symbol h
  either_over (t ∷ []) o = o.0
  either_over (t ∷ u ∷ rest) o = ((or_symbol h, o.0), either_over (u ∷ rest) o.1)

  pub recognized_over : (rs : List Name) (t : Term) → IsTerm (symbols_of h) t → Each (λ r. IsAmong (r, 1) (symbols_of h)) rs → Each (IsTerm (symbols_of h)) (recognized rs t)
  recognized_over [] t o all = tt
  recognized_over (r ∷ rs) t o all = ((all.0, o), recognized_over rs t o all.1)

  pub restricted_over : (r : Restriction) (t : Term) → IsTerm (symbols_of h) t → Each (λ r. IsAmong (r, 1) (symbols_of h)) (listed r) → IsTerm (symbols_of h) (restricted r t)
  restricted_over (OneOf rs) t o all = either_over (recognized rs t) (recognized_over rs t o all)
  restricted_over (NoneOf []) t o all = true_symbol h
  restricted_over (NoneOf (r ∷ rs)) t o all = (not_symbol h, either_over (recognized (r ∷ rs) t) (recognized_over (r ∷ rs) t o all))

  variables_over : (k : ℕ) (parts : List Part) → Each (IsTerm (symbols_of h)) (part_variables k parts)
  variables_over k [] = tt
  variables_over k (part ∷ parts) = (tt, variables_over (suc k) parts)

  variables_length : (k : ℕ) (parts : List Part) → length (part_variables k parts) ≡ length parts
  variables_length k [] = refl
  variables_length k (part ∷ parts) = ap suc (variables_length (suc k) parts)

  set_over : (ts : List Term) (k : ℕ) (t : Term) → Each (IsTerm (symbols_of h)) ts → IsTerm (symbols_of h) t → Each (IsTerm (symbols_of h)) (set ts k t)
  set_over [] k t all o = tt
  set_over (u ∷ ts) zero t all o = (o, all.1)
  set_over (u ∷ ts) (suc k) t all o = (all.0, set_over ts k t all.1 o)

  accessed_over : (t : Term) (parts : List Part) → IsTerm (symbols_of h) t → Each (λ part. IsAmong (part.accessor, 1) (symbols_of h)) parts → Each (IsTerm (symbols_of h)) (accessed t parts)
  accessed_over t [] o all = tt
  accessed_over t (part ∷ parts) o all = ((all.0, o), accessed_over t parts o all.1)

  accessed_length : (t : Term) (parts : List Part) → length (accessed t parts) ≡ length parts
  accessed_length t [] = refl
  accessed_length t (part ∷ parts) = ap suc (accessed_length t parts)

  sizes_over : (k : ℕ) (parts : List Part) → Each (PartOver (symbols_of h)) parts → Each (IsTerm (symbols_of h)) (part_sizes k parts)
  sizes_over k [] all = tt
  sizes_over k (part ∷ parts) all =
      ((((if_symbol h, restricted_over part.restriction (part_variable k) tt all.0.recognizers), (count_symbol h, tt)), zero_symbol h), sizes_over (suc k) parts all.1)

  sum_over : (ts : List Term) → Each (IsTerm (symbols_of h)) ts → IsTerm (symbols_of h) (sum_of ts)
  sum_over [] o = zero_symbol h
  sum_over (t ∷ []) o = o.0
  sum_over (t ∷ u ∷ rest) o = ((plus_symbol h, o.0), sum_over (u ∷ rest) o.1)

  base_over : (o : Option Name) → ((b : List ℕ) → o ≡ Some b → IsAmong (b, 0) (symbols_of h)) → Each (IsTerm (symbols_of h)) (is_base o)
  base_over None f = tt
  base_over (Some b) f = (((equal_symbol h, tt), f b refl), tt)

  module _ (earlier : List Shell) (s : Shell) (w : ShellOver (symbols_of h) s) (others : Each (ShellOver (symbols_of h)) earlier) where
    called_over : (ts : List Term) → length ts ≡ length s.parts → Each (IsTerm (symbols_of h)) ts → IsTerm (symbols_of h) (call s.constructor ts)
    called_over ts e all = applied_here (Function s.constructor) ts (subst (λ n. IsAmong (s.constructor, n) (symbols_of h)) (sym e) w.constructor) all

    made_over : IsTerm (symbols_of h) (made s)
    made_over = called_over (part_variables 0 s.parts) (variables_length 0 s.parts) (variables_over 0 s.parts)

    made_with_over : (k : ℕ) (t : Term) → IsTerm (symbols_of h) t → IsTerm (symbols_of h) (made_with s k t)
    made_with_over k t o =
        called_over (set (part_variables 0 s.parts) k t) (length-set (part_variables 0 s.parts) k t ∙ variables_length 0 s.parts) (set_over (part_variables 0 s.parts) k t (variables_over 0 s.parts) o)

    remade_over : IsTerm (symbols_of h) (remade s)
    remade_over = called_over (accessed whole s.parts) (accessed_length whole s.parts) (accessed_over whole s.parts tt w.accessors)

    part_at : (k : ℕ) (part : Part) → slice_get s.parts k ≡ Some part → PartOver (symbols_of h) part
    part_at k part e = each_at (PartOver (symbols_of h)) part s.parts w.parts (among_at part s.parts k e)

    accessor_at : (k : ℕ) (part : Part) → slice_get s.parts k ≡ Some part → IsAmong (part.accessor, 1) (symbols_of h)
    accessor_at k part e = each_at (λ part. IsAmong (part.accessor, 1) (symbols_of h)) part s.parts w.accessors (among_at part s.parts k e)

    pub shell_clause_over : {row i : ℕ} {c : List Term} → IsShellClause earlier s row i c → IsClause h c
    shell_clause_over recognizer_is_truth_value = (((equal_symbol h, (w.recognizer, tt)), true_symbol h), (((equal_symbol h, (w.recognizer, tt)), false_symbol h), tt))
    shell_clause_over made_is_recognized = ((w.recognizer, made_over), tt)
    shell_clause_over (base_is_recognized b e) = ((w.recognizer, w.base b e), tt)
    shell_clause_over (made_is_no_base b e) = ((not_symbol h, ((equal_symbol h, made_over), w.base b e)), tt)
    shell_clause_over remade_is_same =
        ((not_symbol h, (w.recognizer, tt)), each_append (IsTerm (symbols_of h)) (is_base s.base) (equal_term (remade s) whole ∷ []) (base_over s.base w.base) (((equal_symbol h, remade_over), tt), tt))
    shell_clause_over (part_of_made k part e) =
        let p = part_at k part e in
        ((not_symbol h, restricted_over part.restriction (part_variable k) tt p.recognizers), (((equal_symbol h, (accessor_at k part e, made_over)), tt), tt))
    shell_clause_over (wrong_part_of_made k part e) =
        let p = part_at k part e in
        (restricted_over part.restriction (part_variable k) tt p.recognizers, (((equal_symbol h, (accessor_at k part e, made_over)), p.default), tt))
    shell_clause_over (part_of_other k part e) = let p = part_at k part e in ((w.recognizer, tt), (((equal_symbol h, (accessor_at k part e, tt)), p.default), tt))
    shell_clause_over (part_of_base k part b e f) = let p = part_at k part e in (((equal_symbol h, (accessor_at k part e, w.base b f)), p.default), tt)
    shell_clause_over (wrong_part k part e) =
        let p = part_at k part e in
        (restricted_over part.restriction (part_variable k) tt p.recognizers, (((equal_symbol h, made_over), made_with_over k (Function part.default) p.default), tt))
    shell_clause_over truth_is_none = ((not_symbol h, (w.recognizer, true_symbol h)), tt)
    shell_clause_over falsity_is_none = ((not_symbol h, (w.recognizer, false_symbol h)), tt)
    shell_clause_over (kinds_differ j other e) =
        let o = each_at (ShellOver (symbols_of h)) other earlier others (among_at other earlier j e) in
        ((not_symbol h, (w.recognizer, tt)), ((not_symbol h, (o.recognizer, tt)), tt))
    shell_clause_over size_of_made =
        (((equal_symbol h, (count_symbol h, made_over)), (add1_symbol h, sum_over (part_sizes 0 s.parts) (sizes_over 0 s.parts w.parts))), tt)
    shell_clause_over (size_of_base b e) = (((equal_symbol h, (count_symbol h, w.base b e)), zero_symbol h), tt)

-- the shells of a history have symbols for names
among_accessors : (x : Part) (parts : List Part) → IsAmong x parts → IsAmong (x.accessor, 1) (accessor_symbols parts)
among_accessors x [] m = absurd m
among_accessors x (part ∷ parts) (inl e) = inl (ap (λ (p : Part). let s : Symbol = (p.accessor, 1) in s) e)
among_accessors x (part ∷ parts) (inr m) = inr (among_accessors x parts m)

pub base_among : (s : Shell) (b : List ℕ) → s.base ≡ Some b → IsAmong (b, 0) (shell_symbols s)
base_among s b e = inr (among_left (b, 0) (base_symbols s.base) ((s.recognizer, 1) ∷ accessor_symbols s.parts) (subst (λ o. IsAmong (b, 0) (base_symbols o)) (sym e) (inl refl)))

pub recognizer_among : (s : Shell) → IsAmong (s.recognizer, 1) (shell_symbols s)
recognizer_among s = inr (among_right (s.recognizer, 1) (base_symbols s.base) ((s.recognizer, 1) ∷ accessor_symbols s.parts) (inl refl))

pub accessor_among : (s : Shell) (part : Part) → IsAmong part s.parts → IsAmong (part.accessor, 1) (shell_symbols s)
accessor_among s part m = inr (among_right (part.accessor, 1) (base_symbols s.base) ((s.recognizer, 1) ∷ accessor_symbols s.parts) (inr (among_accessors part s.parts m)))

-- a shell's symbols are the history's
symbols_in : (s : Shell) (h : History) → IsAmong s (events_shells h) → (x : Symbol) → IsAmong x (shell_symbols s) → IsAmong x (events_symbols h)
symbols_in s [] m x i = absurd m
symbols_in s (AddShell t ∷ h) (inl e) x i = among_left x (shell_symbols t) (events_symbols h) (subst (λ s. IsAmong x (shell_symbols s)) e i)
symbols_in s (AddShell t ∷ h) (inr m) x i = among_right x (shell_symbols t) (events_symbols h) (symbols_in s h m x i)
symbols_in s (Declaration f n ∷ h) m x i = inr (symbols_in s h m x i)
symbols_in s (Defines d ∷ h) m x i = inr (symbols_in s h m x i)
symbols_in s (Axiom n classes t ∷ h) m x i = symbols_in s h m x i
symbols_in s (Lemma n classes t ∷ h) m x i = symbols_in s h m x i
symbols_in s (Toggle n old d ∷ h) m x i = symbols_in s h m x i

pub events_join : (g h : History) → events_shells (g ++ h) ≡ events_shells g ++ events_shells h
events_join [] h = refl
events_join (e ∷ g) h = ap (λ rest. event_shells e ++ rest) (events_join g h) ∙ sym (append_assoc (event_shells e) (events_shells g) (events_shells h))

pub symbols_join : (g h : History) → events_symbols (g ++ h) ≡ events_symbols g ++ events_symbols h
symbols_join [] h = refl
symbols_join (e ∷ g) h = ap (λ rest. event_symbols e ++ rest) (symbols_join g h) ∙ sym (append_assoc (event_symbols e) (events_symbols g) (events_symbols h))

-- a shell's names are symbols of every history that has the shell
pub shell_named : (h : History) (s : Shell) → IsAmong s (ground_shells ++ events_shells h) → (x : Symbol) → IsAmong x (shell_symbols s) → IsAmong x (symbols_of h)
unfolding symbols_of
shell_named h s m x i =
    subst (IsAmong x) (symbols_join ground_history h)
    (symbols_in s (ground_history ++ h) (subst (IsAmong s) (sym (events_join ground_history h)) m) x i)

-- the parts of a closed history's shells
parts_from : (symbols : List Symbol) (l : History) → Each (EventOver symbols) l → Each (λ s. Each (PartOver symbols) s.parts) (events_shells l)
parts_from symbols [] all = tt
parts_from symbols (AddShell s ∷ l) all = (all.0, parts_from symbols l all.1)
parts_from symbols (Declaration f n ∷ l) all = parts_from symbols l all.1
parts_from symbols (Defines d ∷ l) all = parts_from symbols l all.1
parts_from symbols (Axiom n classes t ∷ l) all = parts_from symbols l all.1
parts_from symbols (Lemma n classes t ∷ l) all = parts_from symbols l all.1
parts_from symbols (Toggle n old d ∷ l) all = parts_from symbols l all.1

module _ (h : History) where
  -- a part whose default is 0, and which is a number or anything
  number_over : (a : List ℕ) → PartOver (symbols_of h) (record { accessor = a; restriction = OneOf (codes "NUMBERP" ∷ []); default = codes "ZERO" })
  number_over a = record { recognizers = (numberp_symbol h, tt); default = zero_symbol h }

  any_over : (a : List ℕ) → PartOver (symbols_of h) (record { accessor = a; restriction = NoneOf []; default = codes "ZERO" })
  any_over a = record { recognizers = tt; default = zero_symbol h }

  ground_parts : Each (λ s. Each (PartOver (symbols_of h)) s.parts) ground_shells
  ground_parts = ((number_over (codes "SUB1"), tt), ((any_over (codes "CAR"), (any_over (codes "CDR"), tt)), ((any_over (codes "UNPACK"), tt), ((number_over (codes "NEGATIVE-GUTS"), tt), tt))))

  pub shell_over : (s : Shell) → IsAmong s (ground_shells ++ events_shells h) → Each (PartOver (symbols_of h)) s.parts → ShellOver (symbols_of h) s
  shell_over s m parts =
      let named = shell_named h s m in
      record {
        constructor = named (s.constructor, length s.parts) (inl refl);
        base = λ b e. named (b, 0) (base_among s b e);
        recognizer = named (s.recognizer, 1) (recognizer_among s);
        accessors = each_among (λ part. IsAmong (part.accessor, 1) (symbols_of h)) s.parts (λ part i. named (part.accessor, 1) (accessor_among s part i));
        parts = parts;
      }

  pub shells_over : IsClosed h → Each (ShellOver (symbols_of h)) (ground_shells ++ events_shells h)
  shells_over closed =
      let all = each_append (λ s. Each (PartOver (symbols_of h)) s.parts) ground_shells (events_shells h) ground_parts (parts_from (symbols_of h) h closed) in
      each_among (ShellOver (symbols_of h)) (ground_shells ++ events_shells h) (λ s m. shell_over s m (each_at (λ s. Each (PartOver (symbols_of h)) s.parts) s (ground_shells ++ events_shells h) all m))
