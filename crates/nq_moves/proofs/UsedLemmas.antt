-- The names of the variables that stand in terms.
use Rattle.std.proofs.Common.{◌≡◌, ℕ, ◌+◌, ◌<◌, ◌≤◌, Bool, true, false, ◌||◌, cond, eqb, Option, Some, List, [], ◌∷◌, length, get_or, take, refl, sym, ap, ◌∙◌, subst, inl, inr}
use Rattle.std.specs.Prelude.{All, ◌⊎◌, nat_eq, is_some, bytes_eq}
use Rattle.std.specs.HashMap.{get, Updates}
use Rattle.std.proofs.lemmas.Bool.{eqb-true, eq-eqb}
use Rattle.std.proofs.lemmas.List.{take_all}
use Rattle.nq_logic.specs.Terms.{Name, Term, Variable, Function, Applied, IsAmong, call}
use Rattle.nq_logic.specs.Words.{numeral}
use Rattle.nq_bank.specs.declared.node.TermId.{TermId}
use Rattle.nq_bank.specs.declared.node.Sym.{Sym}
use Rattle.nq_bank.specs.Content.{Content, Stands, IsNamed, Grows, text_at, term_at, terms_at}
use Rattle.nq_bank.specs.Parts.{occurs, parts_of, UsesOnly}
use Rattle.nq_bank.specs.Soundness.{IsSound}
use Rattle.nq_bank.proofs.CallLemmas.{get_among}
use Rattle.nq_bank.proofs.Growth.{IsNamed-grown, text_at-grown}
use Rattle.nq_bank.proofs.NodesLemmas.{All-head, All-tail}
use Rattle.nq_bank.proofs.Texts.{bytes_eq-true, eq-bytes_eq, same_test}
use Rattle.nq_clause.proofs.Lookups.{kept_or_stood}
use Rattle.nq_clause.proofs.OccurrenceLemmas.{occurs-call, occurs_in_any, occurs-numeral, occurs-Variable}
use Rattle.nq_proof.specs.Clauses.{Clause}
use Rattle.nq_moves.specs.Knowing.{Answers}
use Rattle.nq_moves.specs.Naming.{occurs_in_one}
use Rattle.nq_moves.specs.UsedNames.{is_kept, AreNamed, Adds, AreKnown, AreNamesOf}
use Rattle.nq_moves.proofs.NamingLemmas.{occurs-more}

or_false : (b : Bool) → b ≡ (b || false)
or_false true = refl
or_false false = refl

or_true : (b : Bool) → (b || true) ≡ true
or_true true = refl
or_true false = refl

or_assoc : (a b d : Bool) → ((a || b) || d) ≡ (a || (b || d))
or_assoc true b d = refl
or_assoc false b d = refl

or_either : (a b : Bool) → (a || b) ≡ true → (a ≡ true) ⊎ (b ≡ true)
or_either true b h = inl refl
or_either false b h = inr h

or_implied : (a b : Bool) → (b ≡ true → a ≡ true) → a ≡ (a || b)
or_implied true b h = refl
or_implied false true h = h refl
or_implied false false h = refl

-- one more name
some_kept : (b : Bool) (o : Option Bool) → is_some (cond b (Some true) o) ≡ (is_some o || b)
some_kept true o = sym (or_true (is_some o))
some_kept false o = or_false (is_some o)

module _ (bank : Content) where
  same_name : (s q : Sym) → IsSound bank → IsNamed bank s → IsNamed bank q → eqb s.0 q.0 ≡ bytes_eq (text_at bank q) (text_at bank s)
  same_name s q sound named there =
      same_test (eqb s.0 q.0) (bytes_eq (text_at bank q) (text_at bank s))
      (λ h. eq-bytes_eq (text_at bank q) (text_at bank s) (ap (λ k. get_or bank.names k []) (sym (eqb-true s.0 q.0 h))))
      (λ h. eq-eqb s.0 q.0 ((sound.names q there).only s named (sym (bytes_eq-true (text_at bank q) (text_at bank s) h))))

  pub name_added : (old new : Answers) (s : Sym) → IsSound bank → IsNamed bank s → Updates nat_eq old new s.0 (Some true) → Adds bank old new (λ x. bytes_eq x (text_at bank s))
  name_added old new s sound named updates =
      record {
        told = λ q there.
            ap is_some (updates.0 q.0) ∙ (some_kept (eqb s.0 q.0) (get nat_eq old q.0) ∙ ap (λ b. is_kept old q || b) (same_name s q sound named there));
      }

  pub still_named : (old new : Answers) (s : Sym) → IsNamed bank s → AreNamed bank old → Updates nat_eq old new s.0 (Some true) → AreNamed bank new
  still_named old new s named are updates =
      record {
        each = λ q kept.
            elim (or_either (is_kept old q) (eqb s.0 q.0) (sym (ap is_some (updates.0 q.0) ∙ some_kept (eqb s.0 q.0) (get nat_eq old q.0)) ∙ kept)) [
              | inl was ↦ are.each q was
              | inr here ↦ subst (λ k. k < length bank.names) (eqb-true s.0 q.0 here) named
            ];
      }

  -- names by tests that agree
  pub adds_as : (old new : Answers) (test other : Name → Bool) → Adds bank old new test → ((x : Name) → test x ≡ other x) → Adds bank old new other
  adds_as old new test other adds same = record { told = λ s named. adds.told s named ∙ ap (λ b. is_kept old s || b) (same (text_at bank s)) }

  pub none_added : (names : Answers) (test : Name → Bool) → ((x : Name) → test x ≡ false) → Adds bank names names test
  none_added names test none = record { told = λ s named. or_false (is_kept names s) ∙ ap (λ b. is_kept names s || b) (sym (none (text_at bank s))) }

  adds_then : (one two three : Answers) (first second both : Name → Bool) → Adds bank one two first → Adds bank two three second → ((x : Name) → (first x || second x) ≡ both x) → Adds bank one three both
  adds_then one two three first second both before after is =
      record {
        told = λ s named.
            let x : Name = text_at bank s in
            after.told s named ∙ (ap (λ b. b || second x) (before.told s named) ∙ (or_assoc (is_kept one s) (first x) (second x) ∙ ap (λ b. is_kept one s || b) (is x)));
      }

  -- the names of a term
  pub variable_added : (old new : Answers) (t : Term) (y : Name) → t ≡ Variable y → Adds bank old new (λ x. bytes_eq x y) → Adds bank old new (λ x. occurs x t)
  variable_added old new t y is adds = adds_as old new (λ x. bytes_eq x y) (λ x. occurs x t) adds (λ x. sym (ap (occurs x) is ∙ occurs-Variable x y))

  pub numeral_added : (names : Answers) (t : Term) (n : ℕ) → t ≡ numeral n → Adds bank names names (λ x. occurs x t)
  numeral_added names t n is = none_added names (λ x. occurs x t) (λ x. ap (occurs x) is ∙ occurs-numeral x n)

  pub known_added : (known names : Answers) (t : TermId) (answer : Bool) → AreKnown bank known names → get nat_eq known t.0 ≡ Some answer → Adds bank names names (λ x. occurs x (term_at bank t))
  known_added known names t answer are found =
      record { told = λ s named. or_implied (is_kept names s) (occurs (text_at bank s) (term_at bank t)) (are.each t answer found s named) }

  one_more : (ids : List TermId) (i : ℕ) (d : TermId) → i < length ids → (x : Name) →
      (occurs_in_one x (terms_at bank (take i ids)) || occurs x (term_at bank (get_or ids i d))) ≡ occurs_in_one x (terms_at bank (take (i + 1) ids))
  one_more ids i d below x =
      let before : Bool = occurs_in_one x (terms_at bank (take i ids)) in
      let here : Bool = occurs x (term_at bank (get_or ids i d)) in
      occurs-more x bank.terms ids i d before here (before || here) below refl refl refl

  pub one_more_added : (start old new : Answers) (ids : List TermId) (i : ℕ) (d : TermId) → i < length ids → Adds bank start old (λ x. occurs_in_one x (terms_at bank (take i ids))) →
      Adds bank old new (λ x. occurs x (term_at bank (get_or ids i d))) → Adds bank start new (λ x. occurs_in_one x (terms_at bank (take (i + 1) ids)))
  one_more_added start old new ids i d below before here =
      adds_then start old new (λ x. occurs_in_one x (terms_at bank (take i ids))) (λ x. occurs x (term_at bank (get_or ids i d))) (λ x. occurs_in_one x (terms_at bank (take (i + 1) ids))) before here (one_more ids i d below)

  in_any : (x : Name) (ts : List Term) → occurs_in_one x ts ≡ occurs_in_any x ts
  in_any x [] = refl
  in_any x (t ∷ ts) = ap (λ b. occurs x t || b) (in_any x ts)

  pub call_added : (old new : Answers) (t : TermId) (f : Name) (ids : List TermId) (i : ℕ) → term_at bank t ≡ call f (parts_of (term_at bank t)) → terms_at bank ids ≡ parts_of (term_at bank t) →
      length ids ≤ i → Adds bank old new (λ x. occurs_in_one x (terms_at bank (take i ids))) → Adds bank old new (λ x. occurs x (term_at bank t))
  call_added old new t f ids i is tells all adds =
      adds_as old new (λ x. occurs_in_one x (terms_at bank (take i ids))) (λ x. occurs x (term_at bank t)) adds
      (λ x.
      ap (λ ts. occurs_in_one x (terms_at bank ts)) (take_all i ids all)
      ∙ (ap (occurs_in_one x) tells ∙ (in_any x (parts_of (term_at bank t)) ∙ sym (ap (occurs x) is ∙ occurs-call x f (parts_of (term_at bank t))))))

  -- what is known stays known
  pub known_still : (known old new : Answers) (test : Name → Bool) → AreKnown bank known old → Adds bank old new test → AreKnown bank known new
  known_still known old new test are adds =
      record { each = λ t answer found s named stands. adds.told s named ∙ ap (λ b. b || test (text_at bank s)) (are.each t answer found s named stands) }

  pub known_kept : (old new start names : Answers) (t : TermId) → AreKnown bank old names → Updates nat_eq old new t.0 (Some true) → Adds bank start names (λ x. occurs x (term_at bank t)) → AreKnown bank new names
  known_kept old new start names t are updates adds =
      record {
        each = λ q answer found s named stands.
            elim (kept_or_stood old new t.0 q.0 true answer updates found) [
              | inl here ↦
                  let same : occurs (text_at bank s) (term_at bank t) ≡ true = ap (λ k. occurs (text_at bank s) (term_at bank (record { 0 = k }))) here.0 ∙ stands in
                  adds.told s named ∙ (ap (λ b. is_kept start s || b) same ∙ or_true (is_kept start s))
              | inr there ↦ are.each q answer there s named stands
            ];
      }

  -- the names of the terms so far
  abbrev pub Tells : Answers → List TermId → Type 0
  Tells names ids = (s : Sym) → IsNamed bank s → is_kept names s ≡ occurs_in_one (text_at bank s) (terms_at bank ids)

  pub one_more_told : (old new : Answers) (ids : List TermId) (i : ℕ) (d : TermId) → i < length ids → Tells old (take i ids) → Adds bank old new (λ x. occurs x (term_at bank (get_or ids i d))) → Tells new (take (i + 1) ids)
  one_more_told old new ids i d below before here s named =
      here.told s named ∙ (ap (λ b. b || occurs (text_at bank s) (term_at bank (get_or ids i d))) (before s named) ∙ one_more ids i d below (text_at bank s))

  -- a variable that stands in a term has a name
  occurs_among : (names : List Name) (x : Name) (t : Term) → UsesOnly names t → occurs x t ≡ true → IsAmong x names
  unfolding UsesOnly occurs
  occurs_among names x (Variable y) uses stands = subst (λ z. IsAmong z names) (sym (bytes_eq-true x y stands)) uses
  occurs_among names x (Function f) uses stands = absurd cc
  occurs_among names x (Applied t u) uses stands =
      elim (or_either (occurs x t) (occurs x u) stands) [
        | inl first ↦ occurs_among names x t uses.0 first
        | inr second ↦ occurs_among names x u uses.1 second
      ]

  one_among : (x : Name) (ids : List TermId) → IsSound bank → All (Stands bank) ids → occurs_in_one x (terms_at bank ids) ≡ true → IsAmong x bank.names
  one_among x [] sound all stands = absurd cc
  one_among x (t ∷ ids) sound all stands =
      elim (or_either (occurs x (term_at bank t)) (occurs_in_one x (terms_at bank ids)) stands) [
        | inl here ↦ occurs_among bank.names x (term_at bank t) (sound.used t.0 (Function []) (All-head (Stands bank) t ids all)) here
        | inr later ↦ one_among x ids sound (All-tail (Stands bank) t ids all) later
      ]

  pub names_told : (names : Answers) (ids : List TermId) (i : ℕ) → length ids ≤ i → IsSound bank → All (Stands bank) ids → AreNamed bank names → Tells names (take i ids) → AreNamesOf bank names (terms_at bank ids)
  names_told names ids i all sound stand named told =
      record {
        named = named;
        sound = λ s kept. sym (whole s (named.each s kept)) ∙ kept;
        whole = λ x stands.
            let at = get_among bank.names x (one_among x ids sound stand stands) in
            let s : Sym = record { 0 = at.0 } in
            record {
              name = s;
              text = record { named = at.1; reads = at.2 };
              kept = whole s at.1 ∙ (ap (λ y. occurs_in_one y (terms_at bank ids)) at.2 ∙ stands);
            };
      }
    where
      whole : Tells names ids
      whole = subst (Tells names) (take_all i ids all) told

-- a name is kept exactly where its variable stands in the literals
pub kept_as : (bank : Content) (names : Answers) (s : Sym) (c : Clause) → IsSound bank → IsNamed bank s → AreNamesOf bank names c → is_kept names s ≡ occurs_in_one (text_at bank s) c
kept_as bank names s c sound named are =
    same_test (is_kept names s) (occurs_in_one (text_at bank s) c) (are.sound s)
    (λ stands.
    let at = are.whole (text_at bank s) stands in
    let same : at.name.0 ≡ s.0 = (sound.names s named).only at.name at.text.named at.text.reads in
    subst (λ k. is_some (get nat_eq names k) ≡ true) same at.kept)

-- the names are those of the literals in a bank that has grown
pub names_grown : (old new : Content) (names : Answers) (c d : Clause) → Grows old new → d ≡ c → AreNamesOf old names c → AreNamesOf new names d
names_grown old new names c d grows same are =
    record {
      named = record { each = λ s kept. IsNamed-grown old new s grows (are.named.each s kept) };
      sound = λ s kept.
          ap (λ x. occurs_in_one x d) (text_at-grown old new s grows (are.named.each s kept)) ∙ (ap (occurs_in_one (text_at old s)) same ∙ are.sound s kept);
      whole = λ x stands.
          let at = are.whole x (sym (ap (occurs_in_one x) same) ∙ stands) in
          record {
            name = at.name;
            text = record { named = IsNamed-grown old new at.name grows at.text.named; reads = text_at-grown old new at.name grows at.text.named ∙ at.text.reads };
            kept = at.kept;
          };
    }
