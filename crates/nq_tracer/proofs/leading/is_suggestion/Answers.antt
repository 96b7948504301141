use Rattle.std.proofs.Common.{◌≡◌, ◌∙◌, true, refl, sym}
use Rattle.std.specs.Prelude.{Some}
use Rattle.std.proofs.lemmas.Result.{IfOk-weaker}
use Rattle.nq_logic.specs.Histories as logic
use Rattle.nq_bank.specs.Content.{term_at, terms_at}
use Rattle.nq_bank.specs.Shells.{texts_at}
use Rattle.nq_events.specs.Inductions.{suggests_by}
use Rattle.nq_event.specs.Definitions.{definition_at}
use Rattle.nq_tracer.specs.Leads.{IsSuggestedBy}
use Rattle.nq_tracer.proofs.leading.is_suggestion.Goals as goal

pub returns : goal.returns
returns c =
    let bank = c.args.bank.now in
    let d = c.args.definition in
    let arguments = terms_at bank c.args.arguments.now in
    let measure = term_at bank c.args.measure in
    IfOk-weaker c.suggests.result (λ b. (e : logic.Definition) → e.formals ≡ texts_at bank d.formals.now → b ≡ suggests_by e (Some measure) arguments) (λ b. b ≡ true → IsSuggestedBy bank d c.args.measure c.args.t c.args.arguments.now)
    (λ b told holds. record {
      apart = c.is_apart.ensures c.if-not-is_apart.false;
      count = c.if-arguments-definition.false;
      call = c.is_call.ensures c.if-not-is_call.false;
      suggests = sym (told (definition_at bank d) refl) ∙ holds;
    })
    c.suggests.ensures
