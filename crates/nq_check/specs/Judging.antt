-- What a line led to.
use Rattle.std.specs.Prelude.{◌≡◌, ℕ, List, [], ◌∷◌, ◌++◌, Option, Some, None}
use Rattle.nq_logtext.specs.Fields.{Field}
use Rattle.nq_logtext.specs.Lines.{Line}
use Rattle.nq_logtext.specs.declared.word.Word.{Word}
use Rattle.nq_logtext.specs.declared.word.Word.TheVariants as word
use Rattle.nq_proof.specs.Rules.{Rule}
use Rattle.nq_log.specs.RuleLines.{taut_rule, weaken_rule, cut_rule, instance_rule, reflexive_rule, replace_rule, join_rule, split_rule, not_not_rule, value_rule, linear_rule}
use Rattle.nq_log.specs.States.{Block, State, Claim, Step, Continues, Claims, Ends, start_of, after_claim}
use Rattle.nq_check.specs.declared.context.Context.{Context}
use Rattle.nq_check.specs.declared.judged.Judged.{Judged}
use Rattle.nq_check.specs.declared.judged.Judged.TheVariants as judged
use Rattle.nq_check.specs.Contexts.{state_of, IsWhole}
use Rattle.nq_check.specs.Texts.{claim_text}

-- the block goes on as that of the new context
pub record GoesOn (old : State) (next : Option Step) (new : Context) : Type 0 where
  pub whole : IsWhole new
  pub step : next ≡ Some (Continues (state_of new).block)
  pub history : (state_of new).history ≡ old.history

-- a claim was established, with this line's text, and the new context begins the block after it
pub record IsClaimed (old : State) (next : Option Step) (text : List ℕ) (new : Context) : Type 0 where
  pub claim : Claim
  pub whole : IsWhole new
  pub step : next ≡ Some (Claims claim)
  pub state : state_of new ≡ start_of (after_claim old.history claim)
  pub text_is : text ≡ claim_text claim ++ (10 ∷ [])

-- what the line leads to is what was judged
abbrev pub Leads : State → Option Step → Judged → Context → Type 0
Leads old next judged.NotAllowed new = next ≡ None
Leads old next judged.Continues new = GoesOn old next new
Leads old next (judged.Claims text) new = IsClaimed old next text.items new
Leads old next judged.Ends new = (next ≡ Some Ends) × IsWhole new

-- the rule that a line tells, where it is a rule's
abbrev pub rule_of_word : Block → List Field → Word → Option Rule
rule_of_word block fields word.Taut = taut_rule block fields
rule_of_word block fields word.Weaken = weaken_rule block fields
rule_of_word block fields word.Cut = cut_rule block fields
rule_of_word block fields word.Inst = instance_rule block fields
rule_of_word block fields word.Refl = reflexive_rule block fields
rule_of_word block fields word.Replace = replace_rule block fields
rule_of_word block fields word.Join = join_rule block fields
rule_of_word block fields word.Split = split_rule fields
rule_of_word block fields word.NotNot = not_not_rule fields
rule_of_word block fields word.Value = value_rule block fields
rule_of_word block fields word.Linear = linear_rule block fields
rule_of_word block fields w = None

abbrev pub rule_by : Block → Line → Option Rule
rule_by block line = rule_of_word block line.fields line.word
