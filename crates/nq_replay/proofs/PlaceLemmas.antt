-- What stands at the places of a table.
use Rattle.std.proofs.Common.{◌≡◌, ◌<◌, ◌∙◌, ℕ, zero, suc, Bool, true, List, [], ◌∷◌, length, get_or, sym, ap, arith}
use Rattle.std.specs.Prelude.{IsTrue, nat_lt}
use Rattle.std.specs.List.{list_all}
use Rattle.std.proofs.lemmas.List.{get_or-map}
use Rattle.std.proofs.lemmas.Bool.{ltb-true}
use Rattle.nq_logic.specs.Terms.{Function}
use Rattle.nq_bank.specs.declared.node.Sym.{Sym}
use Rattle.nq_bank.specs.declared.node.TermId.{TermId}
use Rattle.nq_bank.specs.Content.{Content, text_at, term_at, terms_at}
use Rattle.nq_bank.specs.Shells.{texts_at}
use Rattle.nq_proof.proofs.Tests.{and_left, and_right}
use Rattle.nq_replay.specs.Tables.{name_in, term_in}

pub all_at : {X : Type 0} (p : X → Bool) (xs : List X) (i : ℕ) (d : X) → list_all p xs ≡ true → i < length xs → p (get_or xs i d) ≡ true
all_at p [] i d e h = absurd (omega (arith, h))
all_at p (x ∷ xs) zero d e h = and_left (p x) (list_all p xs) e
all_at p (x ∷ xs) (suc i) d e h = all_at p xs i d (and_right (p x) (list_all p xs) e) (omega (arith, h))

pub term_found : (bank : Content) (ids : List TermId) (n : ℕ) (t : TermId) → IsTrue (nat_lt n (length ids)) → t ≡ get_or ids n t → term_at bank t ≡ term_in (terms_at bank ids) n
term_found bank ids n t h e = ap (term_at bank) e ∙ sym (get_or-map (term_at bank) ids n t (Function []) (ltb-true n (length ids) h))

pub name_found : (bank : Content) (ids : List Sym) (n : ℕ) (s : Sym) → IsTrue (nat_lt n (length ids)) → s ≡ get_or ids n s → text_at bank s ≡ name_in (texts_at bank ids) n
name_found bank ids n s h e = ap (text_at bank) e ∙ sym (get_or-map (text_at bank) ids n s [] (ltb-true n (length ids) h))
