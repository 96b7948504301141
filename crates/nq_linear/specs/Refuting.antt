-- What is answered of literals.
use Rattle.std.specs.Prelude.{◌≡◌, ◌≤◌, ⊤, true, List}
use Rattle.nq_bank.specs.declared.node.TermId.{TermId}
use Rattle.nq_bank.specs.Content.{terms_at}
use Rattle.nq_proof.specs.Rules.{has_only}
use Rattle.nq_kernel.specs.declared.work.Work.{Work}
use Rattle.nq_kernel.specs.Meaning.{clause_at}
use Rattle.nq_linear.specs.Causes.{ArePassing, IsTooWide}
use Rattle.nq_linear.specs.Literals.{linear_count}
use Rattle.nq_linear.specs.Pairs.{HasNoLine}
use Rattle.nq_linear.specs.declared.refuting.LinearAnswer.{LinearAnswer}
use Rattle.nq_linear.specs.declared.refuting.LinearAnswer.TheVariants.{Refuted, Nothing, Passes, Wide, TooMany}

-- a line that has only literals of these; or two numbers, or a numeral, that are the first to leave the bounds in making the
-- literals' expressions; or that at least 2,000 of the literals are of the kinds that LINEAR allows
abbrev pub AnswersRightly : Work → List TermId → LinearAnswer → Type 0
AnswersRightly work literals (Refuted n) = has_only (clause_at work.bank work.log n) (terms_at work.bank literals) ≡ true
AnswersRightly work literals Nothing = ⊤
AnswersRightly work literals (Passes x y) = ArePassing (terms_at work.bank literals) x y
AnswersRightly work literals (Wide n) = IsTooWide (terms_at work.bank literals) n
AnswersRightly work literals TooMany = 2000 ≤ linear_count (terms_at work.bank literals)

-- where nothing is refuted, no line LINEAR is allowed of one or of two of the literals, each taken once
abbrev pub TriesSmallSums : Work → List TermId → LinearAnswer → Type 0
TriesSmallSums work literals (Refuted n) = ⊤
TriesSmallSums work literals Nothing = HasNoLine (terms_at work.bank literals)
TriesSmallSums work literals (Passes x y) = HasNoLine (terms_at work.bank literals)
TriesSmallSums work literals (Wide n) = HasNoLine (terms_at work.bank literals)
TriesSmallSums work literals TooMany = HasNoLine (terms_at work.bank literals)
