-- Symbols of a law's variables in a bank that grew.
use Rattle.std.proofs.Common.{◌≡◌, ◌<◌, ◌∙◌, ℕ, zero, suc, List, [], ◌∷◌, ◌++◌, map, length, get_or, refl, ap, ap₂, arith, Bor}
use Rattle.std.specs.Prelude.{IsTrue, All}
use Rattle.std.specs.List.{list_all}
use Rattle.nq_logtext.specs.Symbols.{is_symbol}
use Rattle.nq_bank.specs.declared.node.Sym.{Sym}
use Rattle.nq_bank.specs.Content.{Content, Grows, IsNamed, text_at}
use Rattle.nq_bank.specs.Shells.{texts_at}
use Rattle.nq_bank.proofs.Growth.{IsNamed-grown, text_at-grown}
use Rattle.nq_bank.proofs.NodesLemmas.{All-head, All-tail}
use Rattle.nq_bank.proofs.Standing.{All-push}
use Rattle.nq_proof.proofs.Tests.{and_left, and_right}

pub named_grown : (old new : Content) (ids : List Sym) → Grows old new → All (IsNamed old) ids → All (IsNamed new) ids
named_grown old new ids grows h = λ k d below. IsNamed-grown old new (get_or ids k d) grows (h k d below)

pub named_more : (old new : Content) (ids : List Sym) (s : Sym) → Grows old new → All (IsNamed old) ids → IsNamed new s → All (IsNamed new) (ids ++ s ∷ [])
named_more old new ids s grows h k = All-push (IsNamed new) ids s (named_grown old new ids grows h) k

pub texts_grown : (old new : Content) (ids : List Sym) → Grows old new → All (IsNamed old) ids → texts_at new ids ≡ texts_at old ids
texts_grown old new [] grows h = refl
texts_grown old new (s ∷ ids) grows h = ap₂ (λ x xs. x ∷ xs) (text_at-grown old new s grows (All-head (IsNamed old) s ids h)) (texts_grown old new ids grows (All-tail (IsNamed old) s ids h))

texts_more : (bank : Content) (ids : List Sym) (s : Sym) → texts_at bank (ids ++ s ∷ []) ≡ texts_at bank ids ++ text_at bank s ∷ []
texts_more bank [] s = refl
texts_more bank (t ∷ ids) s = ap (λ xs. text_at bank t ∷ xs) (texts_more bank ids s)

pub names_grown : (old new : Content) (ids : List Sym) (s : Sym) (text : List ℕ) {these : List (List ℕ)} → Grows old new → All (IsNamed old) ids → text_at new s ≡ text → texts_at old ids ≡ these → texts_at new (ids ++ s ∷ []) ≡ these ++ text ∷ []
names_grown old new ids s text grows h reads same =
    texts_more new ids s ∙ ap₂ (λ xs x. xs ++ x ∷ []) (texts_grown old new ids grows h ∙ same) reads

pub text_symbol : (texts : List (Bor (List ℕ))) (i : ℕ) (d : Bor (List ℕ)) → IsTrue (list_all is_symbol (map (λ text. text.now) texts)) → i < length texts → IsTrue (is_symbol (get_or texts i d).now)
text_symbol [] i d e h = absurd (omega (arith, h))
text_symbol (x ∷ xs) zero d e h = and_left (is_symbol x.now) (list_all is_symbol (map (λ text. text.now) xs)) e
text_symbol (x ∷ xs) (suc i) d e h = text_symbol xs i d (and_right (is_symbol x.now) (list_all is_symbol (map (λ text. text.now) xs)) e) (omega (arith, h))
