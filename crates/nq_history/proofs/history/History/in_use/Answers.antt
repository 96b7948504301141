use Rattle.std.proofs.Common.{map, ◌||◌, sym, ap, ap₂, ◌∙◌}
use Rattle.std.specs.Prelude.{is_some}
use Rattle.nq_logic.specs.Ground.{all_events}
use Rattle.nq_logic.specs.Names.{events_names, has_name, is_reserved}
use Rattle.nq_bank.specs.Content.{text_at}
use Rattle.nq_history.specs.Events.{events_at}
use Rattle.nq_history.specs.Functions.{functions_of}
use Rattle.nq_history.specs.Places.{place_in}
use Rattle.nq_history.proofs.LookupLemmas.{used_is, or_false}
use Rattle.nq_history.proofs.UseLemmas.{used_told}
use Rattle.nq_history.proofs.history.History.in_use.Goals as goal

pub returns-else-is_reserved : goal.returns-else-is_reserved
returns-else-is_reserved c =
    let bank = c.args.bank.now in
    let name = c.args.name in
    let x = text_at bank name in
    let history = c.args.self.now in
    let events = c.self.invariant.1.events ∙ ap (map (λ e. e.name)) c.self.view_is in
    let functions = c.self.invariant.1.functions ∙ ap (λ es. map (λ f. f.0) (functions_of es)) c.self.view_is in
    c.has.ensures ∙
    ap₂ (λ a b. a || b) (ap (λ ns. is_some (place_in name ns)) events) (ap (λ ns. is_some (place_in name ns)) functions) ∙
    used_told bank name c.is_sound.ensures c.requires.name history c.requires.history.entries ∙
    used_is bank x history c.requires.history ∙
    sym (or_false (is_reserved x) (has_name x (events_names (all_events (events_at bank history)))) (ap is_reserved (sym c.text.ensures.value) ∙ sym c.is_reserved.ensures ∙ c.if-is_reserved.false))
