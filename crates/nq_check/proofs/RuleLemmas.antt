-- The line of a rule, over shared terms.
use Rattle.std.proofs.Common.{◌≡◌, ℕ, ◌<◌, ◌≤◌, Bool, true, false, List, [], ◌∷◌, ◌++◌, map, refl, sym, ap, ◌∙◌, subst, inl, inr, arith, rules}
use Rattle.std.specs.Prelude.{Option, Some, None, Result, IfOk, All, IsSome, is_some, nat_le, ◌&&◌}
use Rattle.std.specs.declared.alloc.AllocError.{AllocError}
use Rattle.std.specs.Option.{option_map}
use Rattle.std.proofs.lemmas.Bool.Decides.{nat_tests}
use Rattle.std.proofs.lemmas.List.{map-append}
use Rattle.nq_logtext.specs.Reading.{◌>>=◌}
use Rattle.nq_logic.specs.Terms.{Term, IsAmong}
use Rattle.nq_logic.specs.Sizes.{depth_of, depth_limit}
use Rattle.nq_bank.specs.declared.node.TermId.{TermId}
use Rattle.nq_bank.specs.Content.{Content, Stands, Grows, terms_at, term_at}
use Rattle.nq_bank.specs.Soundness.{IsSound}
use Rattle.nq_bank.proofs.NodesLemmas.{All-head, All-tail}
use Rattle.nq_bank.proofs.Growth.{terms_at-grown}
use Rattle.nq_proof.specs.Clauses.{Clause}
use Rattle.nq_proof.specs.Rules.{Rule, conclusion, rule_terms}
use Rattle.nq_rule.specs.Conclusions.{IsDeep}
use Rattle.nq_history.specs.Events.{events_at}
use Rattle.nq_kernel.specs.declared.rule.Line.{Line}
use Rattle.nq_kernel.specs.declared.rule.Rule.{Rule as Coded}
use Rattle.nq_kernel.specs.Lines.{ids_if}
use Rattle.nq_kernel.specs.Meaning.{IsOver, Adds, rule_at, conclusion_at}
use Rattle.nq_log.specs.Sizes.{is_shallow, are_shallow}
use Rattle.nq_log.specs.States.{Block, State, Continues, clause_at, only_when}
use Rattle.nq_log.specs.Logs.{continued}
use Rattle.nq_log.specs.RuleLines.{are_without, with_clause, rule_line}
use Rattle.nq_check.specs.declared.context.Context.{Context}
use Rattle.nq_check.specs.Contexts.{clause_of, case_of, measure_of, state_of, IsWhole}
use Rattle.nq_check.specs.declared.judged.Judged.{Judged}
use Rattle.nq_check.specs.Judging.{GoesOn, Leads}
use Rattle.nq_check.proofs.ContextLemmas.{clause_same, introduced_grown, log_grown, parts_grown, block_is, whole_grown, state_grown, events_grown}

-- ---- what a rule line comes to

module _ (s : State) (r : Rule) where
  gives : (o : Option Clause) → are_without s.block.introduced (rule_terms r) ≡ true → conclusion s.history (clause_at s.block) r ≡ o →
      rule_line s (Some r) ≡ (o >>= λ c. only_when (are_shallow c) (with_clause s.block c))
  gives o e f =
      ap (λ b. only_when b r >>= λ rule. conclusion s.history (clause_at s.block) rule >>= λ c. only_when (are_shallow c) (with_clause s.block c)) e
      ∙ ap (λ (o : Option Clause). o >>= λ c. only_when (are_shallow c) (with_clause s.block c)) f

  pub rule_gives : (c : Clause) → are_without s.block.introduced (rule_terms r) ≡ true → conclusion s.history (clause_at s.block) r ≡ Some c → are_shallow c ≡ true →
      rule_line s (Some r) ≡ Some (with_clause s.block c)
  rule_gives c e f g = gives (Some c) e f ∙ ap (λ b. only_when b (with_clause s.block c)) g

  pub rule_denied : are_without s.block.introduced (rule_terms r) ≡ true → conclusion s.history (clause_at s.block) r ≡ None → rule_line s (Some r) ≡ None
  rule_denied e f = gives None e f

  pub rule_too_deep : (c : Clause) → are_without s.block.introduced (rule_terms r) ≡ true → conclusion s.history (clause_at s.block) r ≡ Some c → are_shallow c ≡ false → rule_line s (Some r) ≡ None
  rule_too_deep c e f g = gives (Some c) e f ∙ ap (λ b. only_when b (with_clause s.block c)) g

-- ---- depths

pub shallow_is : (n m : ℕ) → n ≤ m → nat_le n m ≡ true
shallow_is n m h = grind (arith, nat_tests)

pub deep_is : (n m : ℕ) → m < n → nat_le n m ≡ false
deep_is n m h = grind (arith, nat_tests)

both : (a b : Bool) → a ≡ true → b ≡ true → (a && b) ≡ true
both true b e f = f
both false b e f = absurd cc

first_fails : (a b : Bool) → a ≡ false → (a && b) ≡ false
first_fails true b e = absurd cc
first_fails false b e = refl

second_fails : (a b : Bool) → b ≡ false → (a && b) ≡ false
second_fails true b e = e
second_fails false b e = refl

pub stand_shallow : (bank : Content) (ids : List TermId) → IsSound bank → All (Stands bank) ids → are_shallow (terms_at bank ids) ≡ true
stand_shallow bank [] sound stand = refl
stand_shallow bank (t ∷ ids) sound stand =
    both (is_shallow (term_at bank t)) (are_shallow (terms_at bank ids))
    (shallow_is (depth_of (term_at bank t)) depth_limit (sound.shallow t.0 _ (All-head (Stands bank) t ids stand)))
    (stand_shallow bank ids sound (All-tail (Stands bank) t ids stand))

deep_among : (term : Term) (ts : List Term) → IsAmong term ts → depth_limit < depth_of term → are_shallow ts ≡ false
deep_among term [] among deep = absurd among
deep_among term (t ∷ ts) (inl same) deep = first_fails (is_shallow t) (are_shallow ts) (deep_is (depth_of t) depth_limit (subst (λ (u : Term). depth_limit < depth_of u) same deep))
deep_among term (t ∷ ts) (inr among) deep = second_fails (is_shallow t) (are_shallow ts) (deep_among term ts among deep)

-- ---- the kernel's conclusion is that of the state

pub conclusion_same : (c : Context) (rule : Coded) → conclusion_at c.bank c.history c.log rule ≡ conclusion (state_of c).history (clause_at (state_of c).block) (rule_at c.bank rule)
unfolding conclusion_at
conclusion_same c rule = λ i. conclusion (events_at c.bank c.history) (λ n. sym (clause_same c.bank c.introduced c.terms.items c.log c.parts.items c.cases.items c.measure n) i) (rule_at c.bank rule)

none_of : (o : Option Clause) → is_some o ≡ false → o ≡ None
none_of None e = refl
none_of (Some c) e = absurd cc

-- the rule names no term with the function that the block introduces
abbrev pub IsOlder : Context → Coded → Type 0
IsOlder c rule = are_without (state_of c).block.introduced (rule_terms (rule_at c.bank rule)) ≡ true

line_newer : (c : Context) (rule : Coded) → are_without (state_of c).block.introduced (rule_terms (rule_at c.bank rule)) ≡ false → continued (rule_line (state_of c) (Some (rule_at c.bank rule))) ≡ None
line_newer c rule e =
    ap (λ b. continued (only_when b (rule_at c.bank rule) >>= λ rule. conclusion (state_of c).history (clause_at (state_of c).block) rule >>= λ d. only_when (are_shallow d) (with_clause (state_of c).block d))) e

line_denied : (c : Context) (rule : Coded) → IsOlder c rule → is_some (conclusion_at c.bank c.history c.log rule) ≡ false → continued (rule_line (state_of c) (Some (rule_at c.bank rule))) ≡ None
line_denied c rule older e =
    ap continued (rule_denied (state_of c) (rule_at c.bank rule) older (sym (conclusion_same c rule) ∙ none_of (conclusion_at c.bank c.history c.log rule) e))

pub first_holds : (a b : Bool) → (a && b) ≡ true → a ≡ true
first_holds true b e = refl
first_holds false b e = e

second_holds : (a b : Bool) → (a && b) ≡ true → b ≡ true
second_holds true b e = e
second_holds false b e = absurd cc

some_of : (o : Option Clause) → is_some o ≡ true → IsSome o
some_of None e = absurd cc
some_of (Some c) e = search rules

pub some_concluded : (a : Bool) (o : Option Clause) → (a && is_some o) ≡ true → IsSome o
some_concluded a o e = some_of o (second_holds a (is_some o) e)

either_fails : (a b : Bool) (X : Type 0) → (a ≡ false → X) → (a ≡ true → b ≡ false → X) → (a && b) ≡ false → X
either_fails true b X first second e = second refl e
either_fails false b X first second e = first refl

pub line_refused : (c : Context) (rule : Coded) → (are_without (state_of c).block.introduced (rule_terms (rule_at c.bank rule)) && is_some (conclusion_at c.bank c.history c.log rule)) ≡ false →
    continued (rule_line (state_of c) (Some (rule_at c.bank rule))) ≡ None
line_refused c rule e = either_fails _ _ _ (line_newer c rule) (line_denied c rule) e

pub line_too_deep : (c : Context) (rule : Coded) → IsOlder c rule → IsDeep (conclusion_at c.bank c.history c.log rule) → continued (rule_line (state_of c) (Some (rule_at c.bank rule))) ≡ None
line_too_deep c rule older d =
    ap continued (rule_too_deep (state_of c) (rule_at c.bank rule) d.terms older (sym (conclusion_same c rule) ∙ d.concluded)
    (deep_among d.deep.term d.terms d.deep.among d.deep.deep))

-- ---- a line was added

pushed_line : (bank : Content) (log : List Line) (line : Line) → line.stands ≡ true → map (clause_of bank) log ++ (Some (terms_at bank line.clause.items) ∷ []) ≡ map (clause_of bank) (log ++ line ∷ [])
pushed_line bank log line stands =
    ap (λ b. map (clause_of bank) log ++ (option_map (terms_at bank) (ids_if b line.clause.items) ∷ [])) (sym stands) ∙ sym (map-append (clause_of bank) log (line ∷ []))

pub line_goes_on : (old : Context) (bank : Content) (log : List Line) (rule : Coded) (n : ℕ) → IsOlder old rule → IsWhole old → Grows old.bank bank → IsSound bank → IsOver bank log → Adds old.bank bank old.history old.log log rule n →
    GoesOn (state_of old) (continued (rule_line (state_of old) (Some (rule_at old.bank rule)))) (record old { bank = bank; log = log })
line_goes_on old bank log rule n older whole h sound over adds =
    let clause = terms_at bank adds.line.clause.items in
    let lines : map (clause_of old.bank) old.log ++ (Some clause ∷ []) ≡ map (clause_of bank) log =
    ap (λ (ls : List (Option Clause)). ls ++ (Some clause ∷ [])) (log_grown old.bank bank old.log h whole.lines)
    ∙ pushed_line bank old.log adds.line adds.stands_is ∙ ap (map (clause_of bank)) (sym adds.whole) in
    record {
      whole = let w = whole_grown old bank h whole in record { history = w.history; introduced = w.introduced; terms = w.terms; lines = over; parts = w.parts };
      step = ap continued (rule_gives (state_of old) (rule_at old.bank rule) clause older
          (sym (conclusion_same old rule) ∙ adds.clause.concluded) (stand_shallow bank adds.line.clause.items sound adds.clause.stand))
          ∙ ap (λ (b : Block). Some (Continues b)) (block_is _ _ _ _ _ _ _ _ (map case_of old.cases.items) (option_map measure_of old.measure) (introduced_grown old.bank bank old.introduced h whole.introduced) (sym (terms_at-grown old.bank bank old.terms.items h whole.terms)) lines (parts_grown old.bank bank h old.parts.items whole.parts));
      history = events_grown old bank h whole;
    }

-- what a line leads to in a bank that grew, it leads to
pub ruled_before : (old : Context) (bank : Content) (rule : Rule) (r : Result Judged AllocError) (new : Context) → Grows old.bank bank → IsWhole old →
    IfOk r (λ judged. Leads (state_of (record old { bank = bank })) (continued (rule_line (state_of (record old { bank = bank })) (Some rule))) judged new) →
    IfOk r (λ judged. Leads (state_of old) (continued (rule_line (state_of old) (Some rule))) judged new)
ruled_before old bank rule r new h whole led = subst (λ (s : State). IfOk r (λ judged. Leads s (continued (rule_line s (Some rule))) judged new)) (sym (state_grown old bank h whole)) led
