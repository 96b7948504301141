use Rattle.std.proofs.Common.{◌≡◌, ℕ, ◌∙◌, Bool, List, length, ap, sym, subst, arith, Some, None}
use Rattle.nq_table.specs.Tables.{first_place, found, found_from}
use Rattle.std.specs.Prelude.{All}
use Rattle.nq_bank.specs.declared.node.TermId.{TermId}
use Rattle.nq_bank.specs.Nodes.{IsStored, IsStoredAt}
use Rattle.nq_bank.specs.Entries.{Stored}
use Rattle.nq_bank.specs.Hashes.{hash_of}
use Rattle.nq_bank.specs.Places.{is_at}
use Rattle.nq_bank.proofs.Hashing.{node_found, no_node_found}
use Rattle.nq_bank.proofs.nodes.Nodes.find.Goals as goal

pub returns-in-Some-clause-found : goal.returns-in-Some-clause-found
returns-in-Some-clause-found c =
    let es : List Stored = c.self.inside.pages in
    let places : List ℕ = c.self.inside.slots.places.items in
    let ids : List TermId = c.args.arguments.now in
    let t : ℕ → Bool = is_at es c.args.node ids in
    let long : c.len.result ≡ length places = omega (arith, c.len.ensures, c.self.inside.slots.places.ok.0) in
    let start : c.first_place-start.result ≡ first_place (length places) (hash_of c.args.node ids) = c.first_place-start.ensures.value ∙ ap (λ n. first_place n c.hash_of-hash.result) long ∙ ap (first_place (length places)) c.hash_of-hash.ensures in
    let whole : found_from t c.deref.result.now (length c.deref.result.now) c.first_place-start.result ≡ found t places (hash_of c.args.node ids) = ap (λ p. found_from t p (length p) c.first_place-start.result) c.deref.ensures.value ∙ ap (found_from t places (length places)) start in
    let is : found t places (hash_of c.args.node ids) ≡ Some c.from.result = sym whole ∙ sym c.in-Some.ensures ∙ ap (λ n. Some n) (sym c.from.ensures) in
    subst (λ xs. IsStoredAt xs (record { 0 = c.from.result }) c.args.node ids) c.self.view_is (node_found es places (hash_of c.args.node ids) c.args.node ids (record { 0 = c.from.result }) c.self.invariant.table is)

pub returns-in-None-clause-none : goal.returns-in-None-clause-none
returns-in-None-clause-none c =
    let es : List Stored = c.self.inside.pages in
    let places : List ℕ = c.self.inside.slots.places.items in
    let ids : List TermId = c.args.arguments.now in
    let t : ℕ → Bool = is_at es c.args.node ids in
    let long : c.len.result ≡ length places = omega (arith, c.len.ensures, c.self.inside.slots.places.ok.0) in
    let start : c.first_place-start.result ≡ first_place (length places) (hash_of c.args.node ids) = c.first_place-start.ensures.value ∙ ap (λ n. first_place n c.hash_of-hash.result) long ∙ ap (first_place (length places)) c.hash_of-hash.ensures in
    let whole : found_from t c.deref.result.now (length c.deref.result.now) c.first_place-start.result ≡ found t places (hash_of c.args.node ids) = ap (λ p. found_from t p (length p) c.first_place-start.result) c.deref.ensures.value ∙ ap (found_from t places (length places)) start in
    let is : found t places (hash_of c.args.node ids) ≡ None = sym whole ∙ sym c.in-None.ensures in
    subst (λ xs. All (λ e. ¬ IsStored e c.args.node ids) xs) c.self.view_is (no_node_found es places c.args.node ids c.self.invariant.table is)
