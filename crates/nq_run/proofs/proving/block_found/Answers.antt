use Rattle.std.proofs.Common.{◌≡◌, true, ℕ, sym, subst, ◌∙◌}
use Rattle.std.specs.Prelude.{Option, IfOk}
use Rattle.nq_bank.specs.Content.{term_at, text_at}
use Rattle.nq_history.specs.Events.{events_at}
use Rattle.nq_run.specs.Outcome.{AreBlocks}
use Rattle.nq_run.specs.Sessions.{shown_claims}
use Rattle.nq_run.proofs.ProvingLemmas.{can_show}
use Rattle.nq_run.proofs.proving.block_found.Goals as goal

pub lemma_block-requires-clause-closes : goal.lemma_block-requires-clause-closes
lemma_block-requires-clause-closes c =
    can_show c.args.work.now c.args.history.now c.args.lemma.name c.args.lemma.goal c.args.found c.in-Some.line (sym c.line_in.ensures ∙ c.in-Some.is) c.requires.spelled c.requires.free c.requires.shown

pub returns-in-Some : goal.returns-in-Some
returns-in-Some c =
    let bank = c.args.work.now.bank in
    let claims = shown_claims (text_at bank c.args.lemma.name) (term_at bank c.args.lemma.goal) in
    subst (λ (line : Option ℕ). IfOk c.lemma_block.result (λ block. c.args.logging ≡ true → AreBlocks (events_at bank c.args.history.now) (claims line) block)) (sym c.in-Some.is ∙ c.line_in.ensures) c.lemma_block.ensures

pub returns-in-None : goal.returns-in-None
returns-in-None c =
    λ on.
    let bank = c.args.work.now.bank in
    let claims = shown_claims (text_at bank c.args.lemma.name) (term_at bank c.args.lemma.goal) in
    subst (λ (line : Option ℕ). AreBlocks (events_at bank c.args.history.now) (claims line) c.new.result) (sym c.in-None.is ∙ c.line_in.ensures) c.new.ensures
