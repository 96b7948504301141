use Rattle.std.proofs.Common.{◌∙◌, sym, subst}
use Rattle.std.specs.Prelude.{All}
use Rattle.nq_bank.specs.Content.{terms_at}
use Rattle.nq_history.specs.Events.{events_at}
use Rattle.nq_event.specs.EventsAt.{hints_at}
use Rattle.nq_kernel.proofs.GrowingLemmas.{WorkGrows-refl}
use Rattle.nq_lines.specs.Lines.{AreAmong, IsTermIn}
use Rattle.nq_moves.proofs.NumberingLemmas.{among_free}
use Rattle.nq_generalize.proofs.MoveLemmas.{goal_among, legal_ok, literals_in, terms_in}
use Rattle.nq_generalize.proofs.moving.generalize_terms.Goals as goal

pub returns-in_err-known-clause-grows : goal.returns-in_err-known-clause-grows
returns-in_err-known-clause-grows c = WorkGrows-refl c.args.history.now c.args.work.now c.requires.stands

pub rename_new-requires-clause-known : goal.rename_new-requires-clause-known
rename_new-requires-clause-known c =
    let h = c.args.history.now in
    let w = c.args.work.now in
    subst (All (IsTermIn h w)) (sym (c.as_slice.ensures.value ∙ c.in_ok-known.ensures.all)) (literals_in h w c.args.path.now c.args.goal.now c.requires.path c.requires.goal)

pub rename_new-requires-clause-within : goal.rename_new-requires-clause-within
rename_new-requires-clause-within c =
    let bank = c.args.work.now.bank in
    let within = subst (λ ids. AreAmong (terms_at bank c.args.goal.now) (terms_at bank ids)) (sym (c.as_slice.ensures.value ∙ c.in_ok-known.ensures.all)) (goal_among bank c.args.path.now c.args.goal.now) in
    λ x free. among_free x (terms_at bank c.args.goal.now) (terms_at bank c.as_slice.result.now) within free

pub rename_new-requires-clause-terms : goal.rename_new-requires-clause-terms
rename_new-requires-clause-terms c =
    let w = c.args.work.now in
    terms_in c.args.history.now w (events_at w.bank c.args.history.now) (hints_at w.bank c.args.hints.now) c.args.goal.now c.args.terms.now c.requires.goal c.requires.terms

pub returns-clause-legal : goal.returns-clause-legal
returns-clause-legal c =
    let w = c.args.work.now in
    legal_ok c.args.history.now w c.rename_new.new.work c.requires.stands c.rename_new.ensures.grows c.args.goal.now c.args.terms.now c.requires.goal (events_at w.bank c.args.history.now) (hints_at w.bank c.args.hints.now) c.args.path.now c.as_slice.result.now
    c.in_ok-renaming.renaming c.generalize_by.result c.requires.terms (c.as_slice.ensures.value ∙ c.in_ok-known.ensures.all) c.in_ok-renaming.ensures.names c.in_ok-renaming.ensures.terms c.generalize_by.ensures.leads
