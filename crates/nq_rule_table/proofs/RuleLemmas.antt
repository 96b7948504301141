-- The rules of entries: of one more, and of the first ones.
use Rattle.std.proofs.Common.{◌≡◌, ◌<◌, ◌+◌, ◌-◌, ℕ, suc, Bool, true, false, List, [], ◌∷◌, ◌++◌, length, take, drop, get_or, drop-cons, append-nil, append_assoc, refl, sym, ap, ◌∙◌, arith}
use Rattle.std.specs.Prelude.{nat_lt, if◌then◌else◌}
use Rattle.std.specs.List.{filter}
use Rattle.std.proofs.lemmas.List.{take_all}
use Rattle.std.proofs.lemmas.List.Elements.{filter-append}
use Rattle.std.proofs.lemmas.Bool.{ltb-true, ltb-false, le-ltb}
use Rattle.nq_logic.specs.Terms.{Term}
use Rattle.nq_logic.specs.RuleShapes.{and_parts, rule_parts}
use Rattle.nq_bank.specs.declared.node.Sym.{Sym}
use Rattle.nq_bank.specs.declared.node.TermId.{TermId}
use Rattle.nq_bank.specs.Content.{Content, term_at, terms_at}
use Rattle.nq_history.specs.declared.entry.Class.{Class}
use Rattle.nq_history.specs.declared.entry.EntryKind.{EntryKind}
use Rattle.nq_history.specs.declared.entry.EntryKind.TheVariants as kind
use Rattle.nq_history.specs.declared.entry.Entry.{Entry}
use Rattle.nq_rule_table.specs.declared.rule.RuleRef.{RuleRef}
use Rattle.nq_rule_table.specs.Rules.{is_about, rule_if, part_rule, parts_rules, has_rewrite, term_rules, kind_rules, entry_rules, toggled_at, kind_toggles, entry_toggles}
use Rattle.nq_rule_table.specs.Tables.{Learnt, rules_about, toggles_from, is_early, is_early_toggle}

-- the rules of one more entry
pub rules_about-push : (f : Sym) (place : ℕ) (ls : List Learnt) (l : Learnt) → rules_about f place (ls ++ l ∷ []) ≡ rules_about f place ls ++ entry_rules l.bank f (place + length ls) l.entry
rules_about-push f place [] l = append-nil (entry_rules l.bank f place l.entry) ∙ ap (λ n. entry_rules l.bank f n l.entry) (plain place)
  where
    plain : (place : ℕ) → place ≡ place + 0
    plain place = omega arith
rules_about-push f place (k ∷ ls) l =
    ap (λ rs. entry_rules k.bank f place k.entry ++ rs) (rules_about-push f (suc place) ls l ∙ ap (λ n. rules_about f (suc place) ls ++ entry_rules l.bank f n l.entry) (next place (length ls)))
    ∙ sym (append_assoc (entry_rules k.bank f place k.entry) (rules_about f (suc place) ls) (entry_rules l.bank f (place + suc (length ls)) l.entry))
  where
    next : (place n : ℕ) → suc place + n ≡ place + suc n
    next place n = omega arith

pub toggles_from-push : (place : ℕ) (es : List Entry) (e : Entry) → toggles_from place (es ++ e ∷ []) ≡ toggles_from place es ++ entry_toggles (place + length es) e
toggles_from-push place [] e = append-nil (entry_toggles place e) ∙ ap (λ n. entry_toggles n e) (plain place)
  where
    plain : (place : ℕ) → place ≡ place + 0
    plain place = omega arith
toggles_from-push place (k ∷ es) e =
    ap (λ ts. entry_toggles place k ++ ts) (toggles_from-push (suc place) es e ∙ ap (λ n. toggles_from (suc place) es ++ entry_toggles n e) (next place (length es)))
    ∙ sym (append_assoc (entry_toggles place k) (toggles_from (suc place) es) (entry_toggles (place + suc (length es)) e))
  where
    next : (place n : ℕ) → suc place + n ≡ place + suc n
    next place n = omega arith

-- all or none
abbrev either : {X : Type 0} → Bool → List X → List X
either b xs = if b then xs else []

either-none : {X : Type 0} (b : Bool) → [] ≡ either {X = X} b []
either-none true = refl
either-none false = refl

either-append : {X : Type 0} (b : Bool) (xs ys : List X) → either b xs ++ either b ys ≡ either b (xs ++ ys)
either-append true xs ys = refl
either-append false xs ys = refl

-- the rules of an entry are all of the first entries, or none
module _ (count place : ℕ) (b : Bool) (is : nat_lt place count ≡ b) where
  one_early : (a : Bool) (r : RuleRef) → r.place ≡ place → filter (is_early count) (rule_if a r) ≡ either b (rule_if a r)
  one_early true r at = ap (λ c. if c then r ∷ [] else []) (ap (λ n. nat_lt n count) at ∙ is)
  one_early false r at = either-none b

  parts_early : (bank : Content) (f event : Sym) (number : ℕ) (ps : List Term) → filter (is_early count) (parts_rules bank f event place number ps) ≡ either b (parts_rules bank f event place number ps)
  parts_early bank f event number [] = either-none b
  parts_early bank f event number (p ∷ ps) =
      filter-append (is_early count) (parts_rules bank f event place (suc number) ps) (rule_if (is_about bank f p) (part_rule event place number p))
      ∙ ap (λ rs. rs ++ filter (is_early count) (rule_if (is_about bank f p) (part_rule event place number p))) (parts_early bank f event (suc number) ps)
      ∙ ap (λ rs. either b (parts_rules bank f event place (suc number) ps) ++ rs) (one_early (is_about bank f p) (part_rule event place number p) refl)
      ∙ either-append b (parts_rules bank f event place (suc number) ps) (rule_if (is_about bank f p) (part_rule event place number p))

  if_early : (a : Bool) (rs : List RuleRef) → filter (is_early count) rs ≡ either b rs → filter (is_early count) (if a then rs else []) ≡ either b (if a then rs else [])
  if_early true rs h = h
  if_early false rs h = either-none b

  term_early : (bank : Content) (f event : Sym) (classes : List Class) (t : TermId) → filter (is_early count) (term_rules bank f event place classes t) ≡ either b (term_rules bank f event place classes t)
  term_early bank f event classes t =
      let parts = and_parts (rule_parts (term_at bank t)).conclusion in
      if_early (has_rewrite classes) (parts_rules bank f event place 0 parts) (parts_early bank f event 0 parts)

  kind_early : (bank : Content) (f event : Sym) (k : EntryKind) → filter (is_early count) (kind_rules bank f event place k) ≡ either b (kind_rules bank f event place k)
  kind_early bank f event (kind.Shell shell) = either-none b
  kind_early bank f event (kind.Dcl n) = either-none b
  kind_early bank f event (kind.Defn formals body measure) = either-none b
  kind_early bank f event (kind.Axiom classes t) = term_early bank f event classes.items t
  kind_early bank f event (kind.Lemma classes t) = term_early bank f event classes.items t
  kind_early bank f event (kind.Toggle old disabled) = either-none b

  toggle_early : (k : EntryKind) → filter (is_early_toggle count) (kind_toggles place k) ≡ either b (kind_toggles place k)
  toggle_early (kind.Shell shell) = either-none b
  toggle_early (kind.Dcl n) = either-none b
  toggle_early (kind.Defn formals body measure) = either-none b
  toggle_early (kind.Axiom classes t) = either-none b
  toggle_early (kind.Lemma classes t) = either-none b
  toggle_early (kind.Toggle old disabled) = ap (λ c. if c then toggled_at place old disabled ∷ [] else []) is

-- a rule is none of the entries before its own
pub rule_late : (place : ℕ) (a : Bool) (r : RuleRef) → r.place ≡ place → filter (is_early place) (rule_if a r) ≡ []
rule_late place a r at = one_early place place false (le-ltb place place (omega arith)) a r at

-- the rules of the first entries
take_none : {X : Type 0} (n : ℕ) (xs : List X) → n ≡ 0 → take n xs ≡ []
take_none n xs h = ap (λ k. take k xs) h

take_one : {X : Type 0} (count place : ℕ) (x : X) (xs : List X) → place < count → take (count - place) (x ∷ xs) ≡ x ∷ take (count - suc place) xs
take_one count place x xs low = ap (λ n. take n (x ∷ xs)) (less count place low)
  where
    less : (count place : ℕ) → place < count → count - place ≡ suc (count - suc place)
    less count place low = omega (arith, low)

rules_early : (count : ℕ) (f : Sym) (place : ℕ) (ls : List Learnt) → filter (is_early count) (rules_about f place ls) ≡ rules_about f place (take (count - place) ls)
rules_early count f place [] = sym (ap (rules_about f place) (take_all (count - place) [] (omega arith)))
rules_early count f place (l ∷ ls) =
    filter-append (is_early count) (entry_rules l.bank f place l.entry) (rules_about f (suc place) ls)
    ∙ ap (λ rs. filter (is_early count) (entry_rules l.bank f place l.entry) ++ rs) (rules_early count f (suc place) ls)
    ∙ by_place (nat_lt place count) refl
  where
    by_place : (b : Bool) → nat_lt place count ≡ b → filter (is_early count) (entry_rules l.bank f place l.entry) ++ rules_about f (suc place) (take (count - suc place) ls) ≡ rules_about f place (take (count - place) (l ∷ ls))
    by_place true e =
        ap (λ rs. rs ++ rules_about f (suc place) (take (count - suc place) ls)) (kind_early count place true e l.bank f l.entry.name l.entry.kind)
        ∙ sym (ap (rules_about f place) (take_one count place l ls (ltb-true place count e)))
    by_place false e =
        let high = ltb-false place count e in
        ap (λ rs. rs ++ rules_about f (suc place) (take (count - suc place) ls)) (kind_early count place false e l.bank f l.entry.name l.entry.kind)
        ∙ ap (rules_about f (suc place)) (take_none (count - suc place) ls (omega (arith, high)))
        ∙ sym (ap (rules_about f place) (take_none (count - place) (l ∷ ls) (omega (arith, high))))

toggles_early : (count place : ℕ) (es : List Entry) → filter (is_early_toggle count) (toggles_from place es) ≡ toggles_from place (take (count - place) es)
toggles_early count place [] = sym (ap (toggles_from place) (take_all (count - place) [] (omega arith)))
toggles_early count place (e ∷ es) =
    filter-append (is_early_toggle count) (entry_toggles place e) (toggles_from (suc place) es)
    ∙ ap (λ ts. filter (is_early_toggle count) (entry_toggles place e) ++ ts) (toggles_early count (suc place) es)
    ∙ by_place (nat_lt place count) refl
  where
    by_place : (b : Bool) → nat_lt place count ≡ b → filter (is_early_toggle count) (entry_toggles place e) ++ toggles_from (suc place) (take (count - suc place) es) ≡ toggles_from place (take (count - place) (e ∷ es))
    by_place true h =
        ap (λ ts. ts ++ toggles_from (suc place) (take (count - suc place) es)) (toggle_early count place true h e.kind)
        ∙ sym (ap (toggles_from place) (take_one count place e es (ltb-true place count h)))
    by_place false h =
        let high = ltb-false place count h in
        ap (λ ts. ts ++ toggles_from (suc place) (take (count - suc place) es)) (toggle_early count place false h e.kind)
        ∙ ap (toggles_from (suc place)) (take_none (count - suc place) es (omega (arith, high)))
        ∙ sym (ap (toggles_from place) (take_none (count - place) (e ∷ es) (omega (arith, high))))

minus_none : (n : ℕ) → n - 0 ≡ n
minus_none n = omega arith

-- those of all entries
pub rules_first : (count : ℕ) (f : Sym) (ls : List Learnt) → filter (is_early count) (rules_about f 0 ls) ≡ rules_about f 0 (take count ls)
rules_first count f ls = rules_early count f 0 ls ∙ ap (λ n. rules_about f 0 (take n ls)) (minus_none count)

pub toggles_first : (count : ℕ) (es : List Entry) → filter (is_early_toggle count) (toggles_from 0 es) ≡ toggles_from 0 (take count es)
toggles_first count es = toggles_early count 0 es ∙ ap (λ n. toggles_from 0 (take n es)) (minus_none count)

-- the rules of the last parts of a conclusion, and of one more
module _ (bank : Content) (f event : Sym) (place : ℕ) (ids : List TermId) where
  abbrev from_part : ℕ → List RuleRef
  from_part n = parts_rules bank f event place n (terms_at bank (drop n ids))

  pub part_more : (old cur new : List RuleRef) (n at m : ℕ) (d : TermId) → at < length ids → n ≡ suc at → m ≡ at → cur ≡ old ++ from_part n →
      new ≡ cur ++ rule_if (is_about bank f (term_at bank (get_or ids at d))) (part_rule event place at (term_at bank (get_or ids at d))) → new ≡ old ++ from_part m
  part_more old cur new n at m d low next same so_far one =
      let p = term_at bank (get_or ids at d) in
      let more = rule_if (is_about bank f p) (part_rule event place at p) in
      one ∙ ap (λ l. l ++ more) (so_far ∙ ap (λ k. old ++ from_part k) next) ∙ append_assoc old (from_part (suc at)) more
      ∙ sym (ap (λ ts. old ++ parts_rules bank f event place at (terms_at bank ts)) (drop-cons ids at d low)) ∙ ap (λ k. old ++ from_part k) (sym same)
