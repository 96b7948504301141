-- Logs that grew keep their lines, and new lines are legal.
use Rattle.std.proofs.Common.{◌≡◌, ℕ, zero, suc, ◌+◌, ◌<◌, ◌≤◌, ◌⊎◌, Option, Some, None, List, [], ◌∷◌, ◌++◌, length, take, refl, sym, ap, ◌∙◌, subst, inl, inr, arith, length-append}
use Rattle.std.specs.Prelude.{All, slice_get}
use Rattle.std.specs.Option.{option_map}
use Rattle.std.proofs.lemmas.List.{take-take, take_all, length-take, get_or-take}
use Rattle.std.proofs.lemmas.Option.{slice_get_within}
use Rattle.nq_bank.specs.declared.node.TermId.{TermId}
use Rattle.nq_bank.specs.Content.{Content, Stands, Grows, terms_at}
use Rattle.nq_bank.proofs.Growth.{terms_at-grown, prefix_within}
use Rattle.nq_bank.proofs.Standing.{stand_grown}
use Rattle.nq_kernel.specs.declared.rule.Rule.{Rule}
use Rattle.nq_kernel.specs.declared.rule.Line.{Line}
use Rattle.nq_history.specs.declared.entry.Entry.{Entry}
use Rattle.nq_kernel.specs.Lines.{ids_at, ids_of, ids_if}
use Rattle.nq_kernel.specs.Meaning.{RuleStands, IsOver, clause_at, conclusion_at, Adds}
use Rattle.nq_kernel.specs.Growing.{Fits, IsLegal, LogGrows}
use Rattle.nq_kernel.proofs.LogLemmas.{over_grown, over_pushed}
use Rattle.nq_kernel.proofs.RuleGrowth.{RuleStands-grown, conclusion_at-grown}

pub slice_get-take : {X : Type 0} (xs : List X) (m k : ℕ) (x : X) → slice_get (take m xs) k ≡ Some x → slice_get xs k ≡ Some x
slice_get-take [] zero k x e = e
slice_get-take [] (suc m) k x e = e
slice_get-take (y ∷ xs) zero k x e = absurd cc
slice_get-take (y ∷ xs) (suc m) zero x e = e
slice_get-take (y ∷ xs) (suc m) (suc k) x e = slice_get-take xs m k x e

pub slice_get-kept : (old new : List Line) (k : ℕ) (line : Line) → take (length old) new ≡ old → slice_get old k ≡ Some line → slice_get new k ≡ Some line
slice_get-kept old new k line kept e = slice_get-take new (length old) k line (ap (λ xs. slice_get xs k) kept ∙ e)

pub ids_at-kept : (old new : List Line) (n : ℕ) (ids : List TermId) → take (length old) new ≡ old → ids_at old n ≡ Some ids → ids_at new n ≡ Some ids
ids_at-kept old new zero ids kept e = e
ids_at-kept old new (suc k) ids kept e = by_line (slice_get old k) refl e
  where
    by_line : (o : Option Line) → slice_get old k ≡ o → ids_of o ≡ Some ids → ids_of (slice_get new k) ≡ Some ids
    by_line None at h = absurd cc
    by_line (Some line) at h = ap ids_of (slice_get-kept old new k line kept at) ∙ h

pub take-kept : {X : Type 0} (old new : List X) (k : ℕ) → take (length old) new ≡ old → k ≤ length old → take k new ≡ take k old
take-kept old new k kept within = sym (take-take k (length old) new within) ∙ ap (take k) kept

over_taken : (bank : Content) (log : List Line) (k : ℕ) → IsOver bank log → IsOver bank (take k log)
over_taken bank log k over =
    record {
      stand = λ i d below.
          let count = length-take k log in
          let within : i < k = omega (arith, count, below) in
          let least : i < length log = omega (arith, count, below) in
          subst (λ line. All (Stands bank) line.clause.items) (sym (get_or-take k log i d within)) (over.stand i d least);
    }

-- a legal line is legal in a bank and a log that grew
legal_grown : (before after : Content) (history : List Entry) (old new : List Line) (k : ℕ) → Grows before after → Fits before history old → take (length old) new ≡ old → k < length old → IsLegal before history old k → IsLegal after history new k
legal_grown before after history old new k h fits kept below legal =
    let ids : List TermId = legal.line.clause.items in
    record {
      line = legal.line;
      at = slice_get-kept old new k legal.line kept legal.at;
      stands = legal.stands;
      rule = RuleStands-grown before after h legal.line.rule legal.rule;
      clause = record {
        stand = stand_grown before after ids h legal.clause.stand;
        concluded =
            ap (λ log. conclusion_at after history log legal.line.rule) (take-kept old new k kept (omega arith)) ∙
            conclusion_at-grown before after h history (take k old) legal.line.rule fits.history (over_taken before old k fits.log) legal.rule ∙
            legal.clause.concluded ∙
            ap Some (sym (terms_at-grown before after ids h legal.clause.stand));
      };
    }

pub below_or_not : (k n : ℕ) → (k < n) ⊎ (n ≤ k)
below_or_not k zero = inr (omega arith)
below_or_not zero (suc n) = inl (omega arith)
below_or_not (suc k) (suc n) = elim (below_or_not k n) as (λ o. (suc k < suc n) ⊎ (suc n ≤ suc k)) [ inl h ↦ inl (omega arith) | inr h ↦ inr (omega arith) ]

pub LogGrows-refl : (bank : Content) (history : List Entry) (log : List Line) → LogGrows bank history log log
LogGrows-refl bank history log = record { kept = take_all (length log) log (omega arith); legal = λ k least below. absurd (omega arith) }

pub LogGrows-trans : (before after : Content) (history : List Entry) (first second third : List Line) → Grows before after → Fits before history second → LogGrows before history first second → LogGrows after history second third → LogGrows after history first third
LogGrows-trans before after history first second third h fits one two =
    let within = prefix_within first second one.kept in
    record {
      kept = take-kept second third (length first) two.kept within ∙ one.kept;
      legal = λ k least below.
          elim (below_or_not k (length second)) [
            | inl there ↦ legal_grown before after history second third k h fits two.kept there (one.legal k least there)
            | inr here ↦ two.legal k here below
          ];
    }

-- a log that stays
pub same_log : (bank : Content) (history : List Entry) (old new : List Line) → new ≡ old → LogGrows bank history old new
same_log bank history old new e = subst (LogGrows bank history old) (sym e) (LogGrows-refl bank history old)

slice_get-last : (log : List Line) (line : Line) → slice_get (log ++ line ∷ []) (length log) ≡ Some line
slice_get-last [] line = refl
slice_get-last (l ∷ log) line = slice_get-last log line

take-last : (log : List Line) (line : Line) → take (length log) (log ++ line ∷ []) ≡ log
take-last [] line = refl
take-last (l ∷ log) line = ap (λ xs. l ∷ xs) (take-last log line)

-- a line that was added is legal
pub added_grows : (before after : Content) (history : List Entry) (old new : List Line) (rule : Rule) (n : ℕ) → Grows before after → Fits before history old → RuleStands before rule → Adds before after history old new rule n → LogGrows after history old new
added_grows before after history old new rule n h fits stands adds =
    subst (LogGrows after history old) (sym adds.whole) (
    record {
      kept = take-last old adds.line;
      legal = λ k least below.
          let count = length-append old (adds.line ∷ []) in
          let here : length old ≡ k = omega (arith, count, least, below) in
          subst (IsLegal after history (old ++ adds.line ∷ [])) here (
          record {
            line = adds.line;
            at = slice_get-last old adds.line;
            stands = adds.stands_is;
            rule = RuleStands-grown before after h adds.line.rule (subst (RuleStands before) (sym adds.rule_is) stands);
            clause = record {
              stand = adds.clause.stand;
              concluded =
                  ap (λ log. conclusion_at after history log adds.line.rule) (take-last old adds.line) ∙
                  ap (conclusion_at after history old) adds.rule_is ∙
                  conclusion_at-grown before after h history old rule fits.history fits.log stands ∙
                  adds.clause.concluded;
            };
          }
          );
    }
    )

-- the clause of the line that was added
pub added_clause : (before after : Content) (history : List Entry) (old new : List Line) (rule : Rule) (n : ℕ) → Adds before after history old new rule n → clause_at after new n ≡ conclusion_at before history old rule
added_clause before after history old new rule n adds =
    ap (λ log. clause_at after log n) adds.whole ∙ ap (clause_at after (old ++ adds.line ∷ [])) (adds.number ∙ one_more (length old)) ∙
    ap (λ o. option_map (terms_at after) (ids_of o)) (slice_get-last old adds.line) ∙
    ap (λ b. option_map (terms_at after) (ids_if b adds.line.clause.items)) adds.stands_is ∙
    sym adds.clause.concluded
  where
    one_more : (n : ℕ) → n + 1 ≡ suc n
    one_more n = omega arith

-- its ids stand
pub added_over : (before after : Content) (history : List Entry) (old new : List Line) (rule : Rule) (n : ℕ) → Grows before after → IsOver before old → Adds before after history old new rule n → IsOver after new
added_over before after history old new rule n h over adds = over_pushed after old new adds.line (over_grown before after old h over) adds.clause.stand adds.whole

-- the one line that is new
pub added_line : (before after : Content) (history : List Entry) (old new : List Line) (rule : Rule) (n k : ℕ) (line : Line) → Adds before after history old new rule n → length old ≤ k → slice_get new k ≡ Some line → line.rule ≡ rule
added_line before after history old new rule n k line adds least at =
    let there : slice_get (old ++ adds.line ∷ []) k ≡ Some line = ap (λ log. slice_get log k) (sym adds.whole) ∙ at in
    let below = slice_get_within (old ++ adds.line ∷ []) k line there in
    let count = length-append old (adds.line ∷ []) in
    let here : length old ≡ k = omega (arith, count, below, least) in
    let last : slice_get (old ++ adds.line ∷ []) k ≡ Some adds.line = ap (slice_get (old ++ adds.line ∷ [])) (sym here) ∙ slice_get-last old adds.line in
    let same : line ≡ adds.line = by_some line adds.line (sym there ∙ last) in
    ap (λ l. l.rule) same ∙ adds.rule_is
  where
    by_some : (a b : Line) → Some a ≡ Some b → a ≡ b
    by_some a b e = cc

pub kept_by_line : (before after : Content) (history : List Entry) (old new : List Line) (rule : Rule) (n : ℕ) → Adds before after history old new rule n → take (length old) new ≡ old
kept_by_line before after history old new rule n adds = ap (take (length old)) adds.whole ∙ take-last old adds.line
