-- Nodes that are found by their heads and their arguments.
use Rattle.std.proofs.Common.{◌≡◌, ℕ, Bool, true, false, ◌&&◌, eqb, List, refl, sym, ap, ◌∙◌, subst}
use Rattle.std.specs.Bool.{Decides}
use Rattle.std.specs.Cmp.Lexicographic.{pointwise}
use Rattle.std.proofs.lemmas.Bool.{both_ways, eqb-true, eq-eqb, and_parts}
use Rattle.std.proofs.lemmas.Slice.Eq.{slice_eq-Decides}
use Rattle.nq_bank.specs.declared.node.Sym.{Sym}
use Rattle.nq_bank.specs.declared.node.TermId.{TermId}
use Rattle.nq_bank.specs.declared.node.Node.{Node}
use Rattle.nq_bank.specs.declared.node.Node.TheVariants.{Var, Num, App}
use Rattle.nq_bank.specs.Entries.{Stored}
use Rattle.nq_bank.specs.contracts.node.NodePartialEq.TheImpl.{eq-value as node_eq}
use Rattle.nq_bank.specs.contracts.node.TermIdPartialEq.TheImpl.{eq-value as id_eq}
use Rattle.nq_bank.specs.contracts.node.NodeEq.TheImpl.Laws.{laws-law as node_laws}
use Rattle.nq_bank.specs.Nodes.{IsStored}
use Rattle.nq_bank.specs.Wanted.{is_wanted}

abbrev symbol : ℕ → Sym
symbol n = record { 0 = n }

same_head : (a b : Node) → node_eq.it a b ≡ true → a ≡ b
same_head (Var s) (Var r) h = ap (λ n. Var (symbol n)) (eqb-true s.0 r.0 h)
same_head (Var s) (Num m) h = absurd (both_ways false refl h)
same_head (Var s) (App g m) h = absurd (both_ways false refl h)
same_head (Num n) (Var r) h = absurd (both_ways false refl h)
same_head (Num n) (Num m) h = ap Num (eqb-true n m h)
same_head (Num n) (App g m) h = absurd (both_ways false refl h)
same_head (App f n) (Var r) h = absurd (both_ways false refl h)
same_head (App f n) (Num m) h = absurd (both_ways false refl h)
same_head (App f n) (App g m) h =
    let parts = and_parts (eqb f.0 g.0) (eqb n m) h in
    ap (λ x. App (symbol x) n) (eqb-true f.0 g.0 parts.0) ∙ ap (App g) (eqb-true n m parts.1)

head_is : (a b : Node) → Decides (node_eq.it a b) (a ≡ b)
head_is a b = (same_head a b, λ same. subst (λ x. node_eq.it a x ≡ true) same (node_laws.refl a))

id_is : (a b : TermId) → Decides (id_eq.it a b) (a ≡ b)
id_is a b =
    let id : ℕ → TermId = λ n. record { 0 = n } in
    (λ h. ap id (eqb-true a.0 b.0 h), λ h. eq-eqb a.0 b.0 (ap (λ t. t.0) h))

ids_are : (ids others : List TermId) → Decides (pointwise id_eq.it ids others) (ids ≡ others)
ids_are ids others = slice_eq-Decides id_is ids others (pointwise id_eq.it ids others) refl

both_true : (a b : Bool) → a ≡ true → b ≡ true → (a && b) ≡ true
both_true a b h k = rw (h, k) refl

-- the test is that of being the node
pub wanted_is : (node : Node) (ids : List TermId) (e : Stored) → Decides (is_wanted node ids e) (IsStored e node ids)
wanted_is node ids e =
    let head : Bool = node_eq.it node e.node in
    let arguments : Bool = pointwise id_eq.it ids e.arguments in (
      λ h. let parts = and_parts head arguments h in (sym ((head_is node e.node).0 parts.0), sym ((ids_are ids e.arguments).0 parts.1)),
      λ same. both_true head arguments ((head_is node e.node).1 (sym same.0)) ((ids_are ids e.arguments).1 (sym same.1)),
    )
