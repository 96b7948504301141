use Rattle.std.proofs.Common.{map, sym, ap, ◌∙◌, subst}
use Rattle.std.specs.Prelude.{All}
use Rattle.nq_bank.specs.Content.{IsNamed}
use Rattle.nq_bank.specs.Shells.{texts_at}
use Rattle.nq_history.specs.Functions.{functions_of}
use Rattle.nq_history.proofs.FunctionLemmas.{symbol_texts, symbols_stand}
use Rattle.nq_history.proofs.history.History.symbols.Goals as goal

pub returns-clause-texts : goal.returns-clause-texts
returns-clause-texts c =
    λ bank stands.
    ap (texts_at bank) (c.as_slice.ensures ∙ c.self.invariant.1.functions ∙ ap (λ es. map (λ f. f.0) (functions_of es)) c.self.view_is) ∙ symbol_texts bank c.args.self.now stands

pub returns-clause-stand : goal.returns-clause-stand
returns-clause-stand c =
    λ bank stands.
    subst (All (IsNamed bank)) (sym (c.as_slice.ensures ∙ c.self.invariant.1.functions ∙ ap (λ es. map (λ f. f.0) (functions_of es)) c.self.view_is)) (symbols_stand bank c.args.self.now stands.entries)
