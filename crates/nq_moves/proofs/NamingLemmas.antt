-- New variables, and terms in whose places they stand.
use Rattle.std.proofs.Common.{◌≡◌, ◌<◌, ◌≤◌, ◌+◌, ◌^◌, ℕ, zero, suc, Bool, true, false, ◌||◌, ◌&&◌, Option, Some, None, List, [], ◌∷◌, ◌++◌, length, take, map, get_or, refl, sym, ap, ◌∙◌, subst, inl, inr, arith}
use Rattle.std.specs.Prelude.{All, IsTrue, IfSome, not, codes, bytes_eq}
use Rattle.nq_bank.proofs.Standing.{All-push}
use Rattle.std.proofs.lemmas.List.{map_push, take_more}
use Rattle.nq_logic.specs.Terms.{Name, Term, Variable, Function, Applied, Each, IsAmong, Substitution}
use Rattle.nq_logic.specs.Admissible.{AreDistinct}
use Rattle.nq_logic.specs.Numerals.{numeral_limit}
use Rattle.nq_logic.specs.Names.{has_name, constant_names}
use Rattle.nq_logic.specs.Shells.{digits_of}
use Rattle.nq_logic.specs.Words.{numeral}
use Rattle.nq_logic.specs.Values.{is_value}
use Rattle.nq_logic.specs.Ground.{symbols_of}
use Rattle.nq_logtext.specs.Symbols.{is_symbol}
use Rattle.nq_bank.specs.declared.node.TermId.{TermId}
use Rattle.nq_bank.specs.declared.node.Sym.{Sym}
use Rattle.nq_bank.specs.Content.{Content, Stands, IsIdOf, Grows, text_at, term_at, terms_at, term_from, terms_from}
use Rattle.nq_bank.specs.Parts.{occurs}
use Rattle.nq_bank.proofs.NodesLemmas.{All-head, All-tail}
use Rattle.nq_bank.proofs.Growth.{Grows-trans, IsNamed-grown, text_at-grown, term_at-grown}
use Rattle.nq_bank.proofs.Texts.{eq-bytes_eq}
use Rattle.nq_clause.specs.declared.substitution.Pair.{Pair}
use Rattle.nq_clause.specs.Substitution.{substitution_at, PairStands}
use Rattle.nq_clause.proofs.SubstitutionLemmas.{substitution_at-grown}
use Rattle.nq_proof.specs.Clauses.{Clause}
use Rattle.nq_proof.specs.Rules.{is_substitution, are_distinct, pair_terms}
use Rattle.nq_steps.proofs.NameLemmas.{part_symbol}
use Rattle.nq_history.specs.declared.entry.Entry.{Entry}
use Rattle.nq_history.specs.Events.{events_at}
use Rattle.nq_kernel.specs.declared.work.Work.{Work}
use Rattle.nq_kernel.specs.Growing.{WorkStands, WorkGrows}
use Rattle.nq_kernel.proofs.GrowingLemmas.{WorkGrows-trans}
use Rattle.nq_kernel.specs.Over.{IsVariable, IsTermOf, pair_names}
use Rattle.nq_lines.specs.Lines.{IsTermIn}
use Rattle.nq_lines.specs.Instances.{ArePairsIn}
use Rattle.nq_lines.proofs.TermLemmas.{term_grown}
use Rattle.nq_goals.specs.Replacing.{exchanged, exchanged_for, exchanged_within}
use Rattle.nq_goals.specs.NewVariables.{numbered}
use Rattle.nq_moves.specs.declared.exchanging.Exchanging.{Exchanging}
use Rattle.nq_moves.specs.Exchanging.{exchange_at, ExchangeStands}
use Rattle.nq_moves.specs.Laws.{terms_for}
use Rattle.nq_moves.specs.Renamed.{AreNewIn}
use Rattle.nq_moves.specs.Naming.{occurs_in_one, IsNewName, IsNaming, exchange_by, IsRenaming}
use Rattle.nq_moves.specs.declared.naming.Renaming.{Renaming}
use Rattle.nq_moves.proofs.AnswerLemmas.{any, any_listed}
use Rattle.nq_moves.proofs.ClosingLemmas.{each_over}
use Rattle.nq_moves.proofs.FertilizingLemmas.{no_numeral_same}
use Rattle.nq_moves.proofs.ImageLemmas.{exchange_grown}
use Rattle.nq_moves.proofs.OverLemmas.{EachIn, exchanged_in, ids_in, mapped_in}
use Rattle.nq_moves.proofs.SwappedLemmas.{goal_same, goal_in_grown}

-- the name of a number is a symbol
as_part : (ds : List ℕ) → is_symbol (88 ∷ ds) ≡ is_symbol (86 ∷ ds)
as_part [] = refl
as_part (d ∷ ds) = refl

pub numbered_symbol : (k : ℕ) → 1 ≤ k → k < 2 ^ 64 → IsTrue (is_symbol (numbered k))
numbered_symbol zero h small = absurd (omega (arith, h))
numbered_symbol (suc j) h small =
    let e : j + 1 ≡ suc j = omega arith in
    subst (λ n. IsTrue (is_symbol (86 ∷ digits_of n n))) e (sym (as_part (digits_of (j + 1) (j + 1))) ∙ part_symbol j (omega (arith, small)))

numbered_other : (k : ℕ) → has_name (numbered k) constant_names ≡ false
numbered_other k = refl

pub numbered_plain : (k : ℕ) → 1 ≤ k → k < 2 ^ 64 → IsVariable (numbered k)
numbered_plain k h small = record { symbol = numbered_symbol k h small; other = numbered_other k }

-- a variable that stands in none of the literals
or_first : (a b : Bool) → (a || b) ≡ false → a ≡ false
or_first true b e = absurd cc
or_first false b e = refl

or_second : (a b : Bool) → (a || b) ≡ false → b ≡ false
or_second true b e = absurd cc
or_second false b e = e

pub free_in : (x : Name) (c : Clause) → occurs_in_one x c ≡ false → (t : Term) → IsAmong t c → occurs x t ≡ false
free_in x [] e t m = absurd m
free_in x (u ∷ c) e t (inl is) = ap (occurs x) is ∙ or_first (occurs x u) (occurs_in_one x c) e
free_in x (u ∷ c) e t (inr m) = free_in x c (or_second (occurs x u) (occurs_in_one x c) e) t m

-- distinct by the test
no_both : (b : Bool) → b ≡ true → b ≡ false → ⊥
no_both true h k = absurd cc
no_both false h k = absurd cc

named_among : (x : Name) (xs : List Name) → IsAmong x xs → has_name x xs ≡ true
named_among x [] m = absurd m
named_among x (y ∷ xs) (inl e) = ap (λ b. b || has_name x xs) (eq-bytes_eq x y e)
named_among x (y ∷ xs) (inr m) = ap (λ b. bytes_eq x y || b) (named_among x xs m) ∙ or_true (bytes_eq x y)
  where
    or_true : (b : Bool) → (b || true) ≡ true
    or_true true = refl
    or_true false = refl

pub distinct_by : (xs : List Name) → are_distinct xs ≡ true → AreDistinct xs
distinct_by [] e = tt
distinct_by (x ∷ xs) e = by_test (λ h. distinct_by xs h) (has_name x xs) refl e
  where
    by_test : (are_distinct xs ≡ true → AreDistinct xs) → (b : Bool) → has_name x xs ≡ b → (not b && are_distinct xs) ≡ true → AreDistinct (x ∷ xs)
    by_test later true k h = absurd cc
    by_test later false k h = (λ m. no_both (has_name x xs) (named_among x xs m) k, later h)

-- what is so of new names is so when work has grown
module _ (history : List Entry) (old new : Work) (stood : WorkStands history old) (grows : WorkGrows history old new) (literals : List TermId) (all : All (IsTermIn history old) literals) where
  pub new_name_grown : (s : Sym) → IsNewName old literals s → IsNewName new literals s
  new_name_grown s h =
      let text = text_at-grown old.bank new.bank s grows.bank h.named in
      record {
        named = IsNamed-grown old.bank new.bank s grows.bank h.named;
        plain = subst IsVariable (sym text) h.plain;
        free = ap (λ x. occurs_in_one x (terms_at new.bank literals)) text ∙ ap (occurs_in_one (text_at old.bank s)) (goal_same history old new stood grows literals all) ∙ h.free;
      }

  pub namings_grown : (pairs : List Pair) → All (IsNaming history old literals) pairs → All (IsNaming history new literals) pairs
  namings_grown pairs h k d below =
      let here : IsNaming history old literals (get_or pairs k d) = h k d below in
      record { name = new_name_grown (get_or pairs k d).variable here.name; term = term_grown history old new (get_or pairs k d).term stood grows here.term }

-- pairs of new variables and terms
module _ (history : List Entry) (work : Work) (literals : List TermId) where
  pub namings_stand : (pairs : List Pair) → All (IsNaming history work literals) pairs → All (PairStands work.bank) pairs
  namings_stand pairs h k d below = let here = h k d below in record { variable = here.name.named; term = here.term.stands }

  abbrev InHistory : Term → Type 0
  InHistory t = IsTermOf IsVariable (symbols_of (events_at work.bank history)) t

  each_term : (pairs : List Pair) → All (IsNaming history work literals) pairs → Each InHistory (pair_terms (substitution_at work.bank pairs))
  each_term [] h = tt
  each_term (p ∷ pairs) h = ((All-head (IsNaming history work literals) p pairs h).term.over, each_term pairs (All-tail (IsNaming history work literals) p pairs h))

  each_name : (pairs : List Pair) → All (IsNaming history work literals) pairs → Each IsVariable (pair_names (substitution_at work.bank pairs))
  each_name [] h = tt
  each_name (p ∷ pairs) h = ((All-head (IsNaming history work literals) p pairs h).name.plain, each_name pairs (All-tail (IsNaming history work literals) p pairs h))

  pub namings_over : (pairs : List Pair) → All (IsNaming history work literals) pairs → IsTrue (is_substitution (substitution_at work.bank pairs)) → ArePairsIn history work pairs
  namings_over pairs h apart = record { stand = namings_stand pairs h; distinct = apart; terms = each_term pairs h; names = each_name pairs h }

  pub namings_new : (pairs : List Pair) → All (IsNaming history work literals) pairs → AreNewIn (pair_names (substitution_at work.bank pairs)) (terms_at work.bank literals)
  namings_new [] h t m x k = absurd k
  namings_new (p ∷ pairs) h t m x (inl e) = ap (λ y. occurs y t) e ∙ free_in (text_at work.bank p.variable) (terms_at work.bank literals) (All-head (IsNaming history work literals) p pairs h).name.free t m
  namings_new (p ∷ pairs) h t m x (inr k) = namings_new pairs (All-tail (IsNaming history work literals) p pairs h) t m x k

  pub namings_into : (pairs : List Pair) → All (IsNaming history work literals) pairs → EachIn (symbols_of (events_at work.bank history)) (exchange_by (substitution_at work.bank pairs))
  namings_into [] h = tt
  namings_into (p ∷ pairs) h = (record { over = tt; variables = (All-head (IsNaming history work literals) p pairs h).name.plain }, namings_into pairs (All-tail (IsNaming history work literals) p pairs h))

-- the terms and the variables of a substitution make it again
pub terms_for_own : (s : Substitution) → s ≡ terms_for (pair_names s) (pair_terms s)
terms_for_own [] = refl
terms_for_own (p ∷ s) = ap (λ r. p ∷ r) (terms_for_own s)

-- one more pair
pub exchange_by-push : (s : Substitution) (x : Name) (t : Term) → exchange_by (s ++ (x, t) ∷ []) ≡ exchange_by s ++ (t, Variable x) ∷ []
exchange_by-push [] x t = refl
exchange_by-push (p ∷ s) x t = ap (λ es. (p.1, Variable p.0) ∷ es) (exchange_by-push s x t)

pub exchange_more : (old mid new : Content) (pairs : List Pair) (es : List Exchanging) (i : ℕ) (d : Pair) (into : TermId) → Grows old mid → Grows mid new → All (PairStands old) pairs → All (ExchangeStands mid) es → i < length pairs → exchange_at mid es ≡ exchange_by (substitution_at old (take i pairs)) → IsIdOf new into (Variable (text_at mid (get_or pairs i d).variable)) → exchange_at new (es ++ record { from = (get_or pairs i d).term; into = into } ∷ []) ≡ exchange_by (substitution_at old (take (i + 1) pairs))
exchange_more old mid new pairs es i d into before after stand standing below done id =
    let p : Pair = get_or pairs i d in
    let here : PairStands old p = stand i d below in
    let from : term_at new p.term ≡ term_at old p.term = term_at-grown old new p.term (Grows-trans old mid new before after) here.term in
    let name : term_at new into ≡ Variable (text_at old p.variable) = id.denotes ∙ ap Variable (text_at-grown old mid p.variable before here.variable) in
    let were : exchange_at new es ≡ exchange_by (substitution_at old (take i pairs)) = exchange_grown mid new es after standing ∙ done in
    map_push (λ e. (term_at new e.from, term_at new e.into)) es (record { from = p.term; into = into }) ∙
    ap (λ xs. xs ++ (term_at new p.term, term_at new into) ∷ []) were ∙
    ap (λ t. exchange_by (substitution_at old (take i pairs)) ++ (t, term_at new into) ∷ []) from ∙
    ap (λ t. exchange_by (substitution_at old (take i pairs)) ++ (term_at old p.term, t) ∷ []) name ∙
    sym (ap (λ ps. exchange_by (substitution_at old ps)) (take_more pairs i d below) ∙ ap exchange_by (map_push (λ q. (text_at old q.variable, term_at old q.term)) (take i pairs) p) ∙ exchange_by-push (substitution_at old (take i pairs)) (text_at old p.variable) (term_at old p.term))

-- terms that are no values stand in no numeral
abbrev pub NoValue : Term → Type 0
NoValue t = is_value t ≡ false

for_numeral : (s : Substitution) (n : ℕ) (other : Term) → Each NoValue (pair_terms s) → n < numeral_limit → exchanged_for (exchange_by s) (numeral n) other ≡ other
for_numeral [] n other each small = refl
for_numeral (p ∷ s) n other each small =
    ap (λ b. elim b as (λ b. Term) [ true ↦ Variable p.0 | false ↦ exchanged_for (exchange_by s) (numeral n) other ]) (no_numeral_same p.1 n each.0 small) ∙ for_numeral s n other each.1 small

within_numeral : (s : Substitution) (n : ℕ) → Each NoValue (pair_terms s) → n < numeral_limit → exchanged_within (exchange_by s) (numeral n) ≡ numeral n
unfolding numeral
within_numeral s zero each small = refl
within_numeral s (suc n) each small =
    let less : n < numeral_limit = omega (arith, small) in
    ap (Applied (Function (codes "ADD1"))) (for_numeral s n (exchanged_within (exchange_by s) (numeral n)) each less ∙ within_numeral s n each less)

pub numerals_stay : (s : Substitution) (n : ℕ) → Each NoValue (pair_terms s) → n < numeral_limit → exchanged (exchange_by s) (numeral n) ≡ numeral n
numerals_stay s n each small = for_numeral s n (exchanged_within (exchange_by s) (numeral n)) each small ∙ within_numeral s n each small

pub each_no_value : (bank : Content) (pairs : List Pair) → All (λ p. is_value (term_at bank p.term) ≡ false) pairs → Each NoValue (pair_terms (substitution_at bank pairs))
each_no_value bank [] h = tt
each_no_value bank (p ∷ pairs) h = (All-head (λ p. is_value (term_at bank p.term) ≡ false) p pairs h, each_no_value bank pairs (All-tail (λ p. is_value (term_at bank p.term) ≡ false) p pairs h))

-- the renamed literals are in
pub renamed_in : (history : List Entry) (work : Work) (s : Substitution) → EachIn (symbols_of (events_at work.bank history)) (exchange_by s) → (literals renamed : List TermId) → All (IsTermIn history work) literals → All (Stands work.bank) renamed → terms_at work.bank renamed ≡ map (exchanged (exchange_by s)) (terms_at work.bank literals) → All (IsTermIn history work) renamed
renamed_in history work s into literals renamed all stand is =
    ids_in history work renamed stand
    (λ t m. mapped_in history work (exchanged (exchange_by s)) (terms_at work.bank literals) (λ u k. exchanged_in (symbols_of (events_at work.bank history)) (exchange_by s) into u (each_over history work literals all u k)) t (subst (IsAmong t) is m))

-- one more literal
one-any : (x : Name) (c : Clause) → occurs_in_one x c ≡ any (occurs x) c
one-any x [] = refl
one-any x (t ∷ c) = ap (λ b. occurs x t || b) (one-any x c)

pub occurs-more : (x : Name) (ts : List Term) (ids : List TermId) (i : ℕ) (d : TermId) (before here found : Bool) → i < length ids → before ≡ occurs_in_one x (terms_from ts (take i ids)) → here ≡ occurs x (term_from ts (get_or ids i d)) → found ≡ (before || here) → found ≡ occurs_in_one x (terms_from ts (take (i + 1) ids))
occurs-more x ts ids i d before here found below was is told =
    any_listed (occurs x) ts ids i d before here found below (was ∙ one-any x (terms_from ts (take i ids))) is told ∙ sym (one-any x (terms_from ts (take (i + 1) ids)))

-- the renaming
module _ (history : List Entry) (w0 w1 w2 : Work) (g1 : WorkGrows history w0 w1) (g2 : WorkGrows history w1 w2) (stood : WorkStands history w0) (literals : List TermId) (all : All (IsTermIn history w0) literals) (r : Renaming) where
  pub renaming_is : All (IsNaming history w0 literals) r.pairs.items → is_substitution (substitution_at w0.bank r.pairs.items) ≡ true → (exchange : List Exchanging) → exchange_at w1.bank exchange ≡ exchange_by (substitution_at w0.bank r.pairs.items) → terms_at w2.bank r.literals.items ≡ map (exchanged (exchange_at w1.bank exchange)) (terms_at w1.bank literals) → All (Stands w2.bank) r.literals.items → IsRenaming history w2 literals r
  renaming_is namings apart exchange is renamed stand =
      let pairs : List Pair = r.pairs.items in
      let g : WorkGrows history w0 w2 = WorkGrows-trans history w0 w1 w2 g1 g2 in
      let now : All (IsNaming history w2 literals) pairs = namings_grown history w0 w2 stood g literals all pairs namings in
      let same : substitution_at w2.bank pairs ≡ substitution_at w0.bank pairs = substitution_at-grown w0.bank w2.bank pairs g.bank (namings_stand history w0 literals pairs namings) in
      let distinct : is_substitution (substitution_at w2.bank pairs) ≡ true = ap is_substitution same ∙ apart in
      let mid : terms_at w1.bank literals ≡ terms_at w0.bank literals = goal_same history w0 w1 stood g1 literals all in
      let end : terms_at w2.bank literals ≡ terms_at w0.bank literals = goal_same history w0 w2 stood g literals all in
      let made : terms_at w2.bank r.literals.items ≡ map (exchanged (exchange_by (substitution_at w2.bank pairs))) (terms_at w2.bank literals) =
      renamed ∙ ap (λ es. map (exchanged es) (terms_at w1.bank literals)) (is ∙ ap exchange_by (sym same)) ∙ ap (map (exchanged (exchange_by (substitution_at w2.bank pairs)))) (mid ∙ sym end) in
      let all2 : All (IsTermIn history w2) literals = goal_in_grown history w0 w2 stood g literals all in
      record {
        over = namings_over history w2 literals pairs now distinct;
        apart = distinct_by (pair_names (substitution_at w2.bank pairs)) distinct;
        new = namings_new history w2 literals pairs now;
        renamed = made;
        literals_in = renamed_in history w2 (substitution_at w2.bank pairs) (namings_into history w2 literals pairs now) literals r.literals.items all2 stand made;
      }

pub no_namings : (history : List Entry) (work : Work) (literals : List TermId) → All (IsNaming history work literals) []
no_namings history work literals = λ k d below. absurd (omega (arith, below))

pub none_exchanged : (bank : Content) → All (ExchangeStands bank) []
none_exchanged bank = λ k d below. absurd (omega (arith, below))

-- pairs of new variables with one more
pub namings_more : (history : List Entry) (old mid new : Work) → WorkStands history old → WorkGrows history old mid → WorkGrows history mid new → (literals terms : List TermId) → All (IsTermIn history old) literals → All (IsTermIn history old) terms → (pairs : List Pair) → All (IsNaming history mid literals) pairs → (i : ℕ) (d : TermId) → i < length terms → (s : Sym) → IsNewName new literals s → All (IsNaming history new literals) (pairs ++ record { variable = s; term = get_or terms i d } ∷ [])
namings_more history old mid new stood before after literals terms all each pairs h i d below s name =
    let g : WorkGrows history old new = WorkGrows-trans history old mid new before after in
    let now : All (IsTermIn history mid) literals = goal_in_grown history old mid stood before literals all in
    All-push (IsNaming history new literals) pairs (record { variable = s; term = get_or terms i d }) (namings_grown history mid new before.stands after literals now pairs h)
    (record { name = name; term = term_grown history old new (get_or terms i d) stood g (each i d below) })

-- what is some by an answer
pub some_as : {X : Type 0} (P : X → Type 0) (o : Option X) (x : X) → IfSome o P → o ≡ Some x → P x
some_as P None x h e = absurd cc
some_as P (Some y) x h e = let same : y ≡ x = cc in subst P same h
