-- Rules over the functions of a history stay so in a bank that grew.
use Rattle.std.proofs.Common.{◌≡◌, ℕ, Some, List, length, take, sym, ap, ◌∙◌, subst, inl, inr, arith}
use Rattle.std.proofs.lemmas.Option.{slice_get_within}
use Rattle.nq_logic.specs.Terms.{Name}
use Rattle.nq_logic.specs.Ground.{symbols_of}
use Rattle.nq_bank.specs.Content.{Content, Grows}
use Rattle.nq_proof.specs.Rules as tree
use Rattle.nq_history.specs.declared.entry.Entry.{Entry}
use Rattle.nq_history.specs.Events.{events_at, HistoryStands}
use Rattle.nq_history.proofs.HistoryLemmas.{events_at-grown}
use Rattle.nq_kernel.specs.declared.rule.Rule.{Rule}
use Rattle.nq_kernel.specs.declared.rule.Line.{Line}
use Rattle.nq_kernel.specs.Meaning.{rule_at, RuleStands, Adds}
use Rattle.nq_kernel.specs.Over.{RuleIsOver, RulesAreOver}
use Rattle.nq_kernel.specs.Growing.{LogGrows}
use Rattle.nq_kernel.proofs.RuleGrowth.{rule_at-grown}
use Rattle.nq_kernel.proofs.LogGrowth.{slice_get-kept, below_or_not, added_line}

module _ (P : Name → Type 0) (before after : Content) (history : List Entry) (h : Grows before after) (stands : HistoryStands before history) where
  pub RuleIsOver-grown : (rule : Rule) → RuleStands before rule → RuleIsOver P (symbols_of (events_at before history)) (rule_at before rule) → RuleIsOver P (symbols_of (events_at after history)) (rule_at after rule)
  RuleIsOver-grown rule named over =
      let Q : tree.Rule → Type 0 = λ r. RuleIsOver P (symbols_of (events_at after history)) r in
      subst Q (sym (rule_at-grown before after h rule named))
      (subst (λ es. RuleIsOver P (symbols_of es) (rule_at before rule)) (sym (events_at-grown before after h history stands.entries)) over)

  -- the lines that are new after two steps are those of the first and those of the second
  pub RulesAreOver-trans : (first second third : List Line) → LogGrows before history first second → take (length second) third ≡ second → RulesAreOver P before history (length first) second → RulesAreOver P after history (length second) third → RulesAreOver P after history (length first) third
  RulesAreOver-trans first second third one kept old new =
      record {
        each = λ k line least at.
            elim (below_or_not k (length second)) [
              | inl there ↦
                  let legal = one.legal k least there in
                  let same : legal.line ≡ line = by_some legal.line line (sym (slice_get-kept second third k legal.line kept legal.at) ∙ at) in
                  subst (λ l. RuleIsOver P (symbols_of (events_at after history)) (rule_at after l.rule)) same
                  (RuleIsOver-grown legal.line.rule legal.rule (old.each k legal.line least legal.at))
              | inr here ↦ new.each k line here at
            ];
      }
    where
      by_some : (a b : Line) → Some a ≡ Some b → a ≡ b
      by_some a b e = cc

  -- the rule of a line that was added
  pub added_rule : (old new : List Line) (rule : Rule) (n : ℕ) → RuleStands before rule → RuleIsOver P (symbols_of (events_at before history)) (rule_at before rule) → Adds before after history old new rule n → RulesAreOver P after history (length old) new
  added_rule old new rule n named over adds =
      record {
        each = λ k line least at.
            subst (λ r. RuleIsOver P (symbols_of (events_at after history)) (rule_at after r)) (sym (added_line before after history old new rule n k line adds least at))
            (RuleIsOver-grown rule named over);
      }

-- a log that stays has no new lines
pub none_over : (P : Name → Type 0) (bank : Content) (history : List Entry) (old new : List Line) → new ≡ old → RulesAreOver P bank history (length old) new
none_over P bank history old new e =
    record {
      each = λ k line least at.
          let below = slice_get_within new k line at in
          let count : length new ≡ length old = ap length e in
          absurd (omega (arith, below, least, count));
    }
