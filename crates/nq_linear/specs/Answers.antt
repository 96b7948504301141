-- What is found in literals.
use Rattle.std.specs.Prelude.{◌≡◌, ◌≤◌, true, List, ⊤}
use Rattle.nq_bank.specs.declared.node.TermId.{TermId}
use Rattle.nq_bank.specs.Content.{Content, terms_at}
use Rattle.nq_proof.specs.Rules.{is_refuted}
use Rattle.nq_linear_rule.specs.declared.summand.Summand.{Summand}
use Rattle.nq_linear_rule.specs.Sums.{summands_at}
use Rattle.nq_linear.specs.Causes.{ArePassing, IsTooWide}
use Rattle.nq_linear.specs.Literals.{linear_count}
use Rattle.nq_linear.specs.Inequalities.{AllDraw}
use Rattle.nq_linear.specs.Pairs.{HasNoLine}
use Rattle.nq_linear.specs.declared.answer.Found.{Found}
use Rattle.nq_linear.specs.declared.answer.Found.TheVariants.{Refuted, Nothing, Passes, Wide, TooMany}

-- a line LINEAR is allowed of the summands, whose literals are among these
pub record IsRefutation (bank : Content) (literals : List TermId) (summands : List Summand) : Type 0 where
  pub refuted : is_refuted (summands_at bank summands) ≡ true
  pub draws : AllDraw bank literals summands

-- summands that are refuted; or two numbers, or a numeral, that are the first to leave the bounds in making the literals'
-- expressions; or that at least 2,000 of the literals are of the kinds that LINEAR allows
abbrev pub FindsRightly : Content → List TermId → Found → Type 0
FindsRightly bank literals (Refuted summands) = IsRefutation bank literals summands.items
FindsRightly bank literals Nothing = ⊤
FindsRightly bank literals (Passes x y) = ArePassing (terms_at bank literals) x y
FindsRightly bank literals (Wide n) = IsTooWide (terms_at bank literals) n
FindsRightly bank literals TooMany = 2000 ≤ linear_count (terms_at bank literals)

-- where nothing is found, no line LINEAR is allowed of one or two of the literals, each taken once
abbrev pub MissesNoLine : Content → List TermId → Found → Type 0
MissesNoLine bank literals (Refuted summands) = ⊤
MissesNoLine bank literals Nothing = HasNoLine (terms_at bank literals)
MissesNoLine bank literals (Passes x y) = HasNoLine (terms_at bank literals)
MissesNoLine bank literals (Wide n) = HasNoLine (terms_at bank literals)
MissesNoLine bank literals TooMany = HasNoLine (terms_at bank literals)
