-- Goals in which no call suggests an induction.
use Rattle.std.specs.Prelude.{◌≡◌, List, [], ◌∷◌, Option, Some, None}
use Rattle.nq_bank.specs.declared.node.TermId.{TermId}
use Rattle.nq_bank.specs.Content.{Content, terms_at}
use Rattle.nq_history.specs.declared.entry.Entry.{Entry}
use Rattle.nq_history.specs.Events.{events_at}
use Rattle.nq_goals.specs.Inducting.{suggesting_in}

-- no call that stands in the goal suggests an induction
abbrev pub NoneSuggestsIn : List Entry → Content → List TermId → Type 0
NoneSuggestsIn history bank goal = suggesting_in (events_at bank history) (terms_at bank goal) ≡ []

-- The same of the term of a hint, where there is one: under it the induction is the hint's. A lawful hint has a term that suggests
-- one.
abbrev pub NoneSuggests : List Entry → Content → List TermId → Option TermId → Type 0
NoneSuggests history bank goal None = NoneSuggestsIn history bank goal
NoneSuggests history bank goal (Some t) = NoneSuggestsIn history bank (t ∷ [])
