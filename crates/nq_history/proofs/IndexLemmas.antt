-- The index of entries: one more entry, a front of them, and a step that failed.
use Rattle.std.proofs.Common.{◌≡◌, ◌≤◌, ℕ, List, [], ◌∷◌, ◌++◌, length, take, drop, map, sym, ap, ◌∙◌, subst, arith, take-append-drop}
use Rattle.std.proofs.lemmas.List.{map-append, map_push, length-map, take-map}
use Rattle.std.proofs.Math.Seq.{take-append_seam}
use Rattle.nq_bank.specs.declared.node.Sym.{Sym}
use Rattle.nq_history.specs.declared.entry.Entry.{Entry}
use Rattle.nq_history.specs.declared.index.Index.{Index}
use Rattle.nq_history.specs.Functions.{entry_functions, functions_of, IsIndexOf, BeginsWith, HasAdded}
use Rattle.nq_history.specs.ShellLists.{shells_brought, AreCopies, IsShellCopy}
use Rattle.nq_history.proofs.FunctionLemmas.{functions_append, functions_push, fewer_functions}
use Rattle.nq_history.proofs.CopyLemmas.{pairwise_take, shells_front, shells_push}

abbrev name_of : Sym × ℕ → Sym
name_of f = f.0

abbrev arity_of : Sym × ℕ → ℕ
arity_of f = f.1

-- the index of one more entry
pub index_push : (entries : List Entry) (e : Entry) (old new : Index) → IsIndexOf entries old → HasAdded e old new → IsIndexOf (entries ++ e ∷ []) new
index_push entries e old new h k =
    record {
      events = k.events ∙ ap (λ xs. xs ++ e.name ∷ []) h.events ∙ sym (map_push (λ x. x.name) entries e);
      functions = k.functions ∙ ap (λ xs. xs ++ map name_of (entry_functions e)) h.functions ∙ sym (map-append name_of (functions_of entries) (entry_functions e)) ∙ ap (map name_of) (sym (functions_push entries e));
      arities = k.arities ∙ ap (λ xs. xs ++ map arity_of (entry_functions e)) h.arities ∙ sym (map-append arity_of (functions_of entries) (entry_functions e)) ∙ ap (map arity_of) (sym (functions_push entries e));
      shells = subst (λ ss. AreCopies ss new.shells.items) (sym (shells_push entries e)) (k.shells (shells_brought entries) h.shells);
    }

-- as many functions as arities
pub same_length : (entries : List Entry) (index : Index) → IsIndexOf entries index → length index.functions ≡ length index.arities.items
same_length entries index h =
    ap length h.functions ∙ length-map (functions_of entries) name_of ∙ sym (length-map (functions_of entries) arity_of) ∙ sym (ap length h.arities)

-- what failed is taken back
pub index_back : (entries : List Entry) (old grown new : Index) → IsIndexOf entries old → BeginsWith old grown → new.events ≡ take (length old.events) grown.events → new.functions ≡ take (length old.functions) grown.functions → new.arities.items ≡ take (length old.functions) grown.arities.items → new.shells.items ≡ take (length old.shells.items) grown.shells.items → IsIndexOf entries new
index_back entries old grown new h k events functions arities shells =
    record {
      events = events ∙ k.events ∙ h.events;
      functions = functions ∙ k.functions ∙ h.functions;
      arities = arities ∙ ap (λ n. take n grown.arities.items) (same_length entries old h) ∙ k.arities ∙ h.arities;
      shells = subst (AreCopies (shells_brought entries)) (sym (shells ∙ k.shells)) h.shells;
    }

-- the functions of a front of entries are a front of the functions of all
front : (entries : List Entry) (n : ℕ) → take (length (functions_of (take n entries))) (functions_of entries) ≡ functions_of (take n entries)
front entries n =
    ap (take (length (functions_of (take n entries)))) (ap functions_of (sym (take-append-drop n entries)) ∙ functions_append (take n entries) (drop n entries)) ∙
    take-append_seam (functions_of (take n entries)) (functions_of (drop n entries))

-- the index of a front of entries
pub index_take : (entries : List Entry) (n m k : ℕ) (old new : Index) → IsIndexOf entries old → m ≡ length (functions_of (take n entries)) → k ≡ length (shells_brought (take n entries)) → new.events ≡ take n old.events → new.functions ≡ take m old.functions → new.arities.items ≡ take m old.arities.items → new.shells.items ≡ take k old.shells.items → IsIndexOf (take n entries) new
index_take entries n m k old new h count shells_count events functions arities shells =
    record {
      events = events ∙ ap (take n) h.events ∙ take-map (λ e. e.name) n entries;
      functions = functions ∙ ap (take m) h.functions ∙ take-map name_of m (functions_of entries) ∙ ap (map name_of) (ap (λ k. take k (functions_of entries)) count ∙ front entries n);
      arities = arities ∙ ap (take m) h.arities ∙ take-map arity_of m (functions_of entries) ∙ ap (map arity_of) (ap (λ k. take k (functions_of entries)) count ∙ front entries n);
      shells =
          subst (AreCopies (shells_brought (take n entries))) (sym shells)
          (subst (λ ss. AreCopies ss (take k old.shells.items)) (ap (λ j. take j (shells_brought entries)) shells_count ∙ shells_front entries n)
          (pairwise_take IsShellCopy k (shells_brought entries) old.shells.items h.shells));
    }

-- a front of entries brings no more functions than the index has
pub index_holds : (entries : List Entry) (n : ℕ) (index : Index) → IsIndexOf entries index → length (functions_of (take n entries)) ≤ length index.functions
index_holds entries n index h =
    let size = ap length h.functions ∙ length-map (functions_of entries) name_of in
    let fewer = fewer_functions entries n in
    omega (arith, size, fewer)
