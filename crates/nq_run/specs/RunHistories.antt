-- The histories that runs make.
use Rattle.std.specs.Prelude.{◌≡◌, ◌≤◌, ◌^◌, ℕ, false, List, [], length}
use Rattle.nq_logic.specs.Terms.{IsTerm, Term}
use Rattle.nq_logic.specs.Histories.{History}
use Rattle.nq_logic.specs.Ground.{symbols_of}
use Rattle.nq_form.specs.Form.{Form, Forms, end, next}
use Rattle.nq_form.specs.Grammar.{Ending, done, Items, Reads}
use Rattle.nq_form.specs.Spelling.{nesting}
use Rattle.nq_language.specs.Limits.{is_large}
use Rattle.nq_language.specs.Printing.{HasNames, printed}
use Rattle.nq_language.specs.Refusals.{sized, translation}
use Rattle.nq_events.specs.TermRefusals.{arity_of}
use Rattle.nq_kernel.specs.Ready.{IsReady}
use Rattle.nq_spelling.specs.ReadBack.{IsGrown}
use Rattle.nq_comment.specs.Reports.{Report}
use Rattle.nq_answers.specs.Steps.{Runs}

-- However the text of the term is read, it has one form, whose translation in the history is the term, unless the form or the
-- text passes a limit of the reader.
abbrev pub IsReadBack : History → Term → Type 0
IsReadBack h t =
    (f : Form) × (translation (arity_of h) f ≡ sized t)
    × ((levels limit : ℕ) (fs : Forms) (e : Ending) → nesting f ≤ levels → length (printed t) ≤ limit → Reads levels limit (printed t) fs e → (fs ≡ next f end) × (e ≡ done))

pub record IsRunHistory (h : History) : Type 0 where
  -- Each event had a new name when it was added, and met the principle of its kind: a lemma was derivable, a definition met
  -- the Definition Principle, a shell the Shell Principle.
  pub ready : IsReady h
  -- the functions of each event had new names, none of which is reserved
  pub grown : IsGrown h
  -- the text of each term over the history's functions that isn't large is read back as that term
  pub printed : (t : Term) → IsTerm (symbols_of h) t → HasNames t → is_large t ≡ false → IsReadBack h t

-- So is the history of each run from the ground history over the forms of a text, whatever its limit of steps, and that of each
-- first part of the run: the first forms have a text too.
abbrev pub RunsMakeHistories : Type 0
RunsMakeHistories =
    (limit : ℕ) (text : List ℕ) (forms : Forms) (reports : List Report) (h : History) → Items 500 text forms → length text ≤ 2 ^ 25 → Runs limit [] forms reports h → IsRunHistory h
