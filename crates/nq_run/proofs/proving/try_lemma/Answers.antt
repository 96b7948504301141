use Rattle.std.proofs.Common.{List, ap, subst, sym, ◌∙◌, ℕ}
use Rattle.nq_bank.specs.Content.{Content, term_at, text_at}
use Rattle.nq_bank.specs.Marks.{CanRelease, released}
use Rattle.nq_history.specs.Events.{events_at}
use Rattle.nq_kernel.specs.Growing.{WorkGrows}
use Rattle.nq_kernel.specs.Ready.{IsReady}
use Rattle.nq_run.specs.declared.proving.Found.{Found}
use Rattle.nq_run.specs.Outcome.{AreBlocks}
use Rattle.nq_run.specs.Sessions.{IsFoundBy, found_claims}
use Rattle.nq_run.proofs.ProvingLemmas.{can_give_back, found_before, free_kept, given_back_is, goal_stands, legal_begun, name_named, no_line_holds, over_begun, shown_kept, spelled_kept, spends_all, symbols_kept, work_stands, written_before}
use Rattle.nq_run.proofs.proving.try_lemma.Goals as goal

pub prove-requires-clause-ready : goal.prove-requires-clause-ready
prove-requires-clause-ready g c = subst (λ (b : Content). IsReady (events_at b c.args.history.now)) (sym c.new-work.ensures.bank) c.requires.ready

-- no line stands yet
pub prove-requires-clause-holds : goal.prove-requires-clause-holds
prove-requires-clause-holds g c = no_line_holds c.args.history.now c.new-work.result (c.new-work.ensures.log ∙ c.new.ensures)

pub shown_by-requires-clause-legal : goal.shown_by-requires-clause-legal
shown_by-requires-clause-legal g c = legal_begun c.args.history.now c.new-work.result c.prove.new.work (c.new-work.ensures.log ∙ c.new.ensures) c.prove.ensures.grows

pub shown_by-requires-clause-over : goal.shown_by-requires-clause-over
shown_by-requires-clause-over g c = over_begun c.args.history.now c.new-work.result c.prove.new.work (c.new-work.ensures.log ∙ c.new.ensures) c.prove.ensures.grows

-- the work that shows the lemma grew from none, as that of the prover did
pub tried_by-requires-clause-legal : goal.tried_by-requires-clause-legal
tried_by-requires-clause-legal g c =
    let none = c.new-work.ensures.log ∙ c.new.ensures in
    legal_begun c.args.history.now c.new-work.result c.in_ok-shown.shown.work none (c.in_ok-shown.ensures.grows c.new-work.result none c.new-work.ensures.known c.prove.ensures.grows)

pub tried_by-requires-clause-over : goal.tried_by-requires-clause-over
tried_by-requires-clause-over g c =
    let none = c.new-work.ensures.log ∙ c.new.ensures in
    over_begun c.args.history.now c.new-work.result c.in_ok-shown.shown.work none (c.in_ok-shown.ensures.grows c.new-work.result none c.new-work.ensures.known c.prove.ensures.grows)

pub tried_by-requires-clause-name : goal.tried_by-requires-clause-name
tried_by-requires-clause-name g c =
    let grows = c.in_ok-shown.ensures.grows c.new-work.result (c.new-work.ensures.log ∙ c.new.ensures) c.new-work.ensures.known c.prove.ensures.grows in
    name_named c.args.bank c.new-work.result.bank c.in_ok-shown.shown.work.bank c.args.history.now c.args.lemma.name c.args.lemma.goal c.requires.history c.requires.name c.requires.goal
    c.new-work.ensures.bank grows.bank

pub tried_by-requires-clause-goal : goal.tried_by-requires-clause-goal
tried_by-requires-clause-goal g c =
    let grows = c.in_ok-shown.ensures.grows c.new-work.result (c.new-work.ensures.log ∙ c.new.ensures) c.new-work.ensures.known c.prove.ensures.grows in
    goal_stands c.args.bank c.new-work.result.bank c.in_ok-shown.shown.work.bank c.args.history.now c.args.lemma.name c.args.lemma.goal c.requires.history c.requires.name c.requires.goal
    c.new-work.ensures.bank grows.bank

pub tried_by-requires-clause-symbols : goal.tried_by-requires-clause-symbols
tried_by-requires-clause-symbols g c =
    let grows = c.in_ok-shown.ensures.grows c.new-work.result (c.new-work.ensures.log ∙ c.new.ensures) c.new-work.ensures.known c.prove.ensures.grows in
    symbols_kept c.args.bank c.new-work.result.bank c.in_ok-shown.shown.work.bank c.args.history.now c.args.lemma.name c.args.lemma.goal c.requires.history c.requires.name c.requires.goal
    c.new-work.ensures.bank grows.bank c.requires.symbols

pub tried_by-requires-clause-spelled : goal.tried_by-requires-clause-spelled
tried_by-requires-clause-spelled g c =
    let grows = c.in_ok-shown.ensures.grows c.new-work.result (c.new-work.ensures.log ∙ c.new.ensures) c.new-work.ensures.known c.prove.ensures.grows in
    spelled_kept c.args.bank c.new-work.result.bank c.in_ok-shown.shown.work.bank c.args.history.now c.args.lemma.name c.args.lemma.goal c.requires.history c.requires.name c.requires.goal
    c.new-work.ensures.bank grows.bank c.requires.spelled

pub tried_by-requires-clause-free : goal.tried_by-requires-clause-free
tried_by-requires-clause-free g c =
    let grows = c.in_ok-shown.ensures.grows c.new-work.result (c.new-work.ensures.log ∙ c.new.ensures) c.new-work.ensures.known c.prove.ensures.grows in
    free_kept c.args.bank c.new-work.result.bank c.in_ok-shown.shown.work.bank c.args.history.now c.args.lemma.name c.args.lemma.goal c.requires.history c.requires.name c.requires.goal
    c.new-work.ensures.bank grows.bank c.requires.free

pub tried_by-requires-clause-shown : goal.tried_by-requires-clause-shown
tried_by-requires-clause-shown g c =
    let none = c.new-work.ensures.log ∙ c.new.ensures in
    let grows = c.in_ok-shown.ensures.grows c.new-work.result none c.new-work.ensures.known c.prove.ensures.grows in
    shown_kept c.args.bank c.new-work.result.bank c.in_ok-shown.shown.work.bank c.args.history.now c.args.lemma.name c.args.lemma.goal c.requires.history c.requires.name c.requires.goal
    c.new-work.ensures.bank grows.bank c.prove.new.work c.in_ok-verdict.verdict c.found_by.result c.in_ok-shown.shown c.found_by.ensures c.in_ok-shown.ensures
    (spends_all c.args.history.now c.new-work.result c.prove.new.work none c.new-work.ensures.used c.prove.ensures.grows)
    c.in_ok-verdict.ensures.told c.in_ok-verdict.ensures.first

-- each line that stands is derivable
pub tried_by-requires-clause-holds : goal.tried_by-requires-clause-holds
tried_by-requires-clause-holds g c =
    let work = c.new-work.result in
    let history = c.args.history.now in
    let none = c.new-work.ensures.log ∙ c.new.ensures in
    c.held_work.ensures.grown history work c.in_ok-shown.shown.work
    (work_stands history c.args.bank work c.requires.history c.new-work.ensures.bank none c.new-work.ensures.known)
    (subst (λ (b : Content). IsReady (events_at b history)) (sym c.new-work.ensures.bank) c.requires.ready)
    (no_line_holds history work none) (c.in_ok-shown.ensures.grows work none c.new-work.ensures.known c.prove.ensures.grows)

pub given_back-requires : goal.given_back-requires
given_back-requires g c =
    let grows = c.in_ok-shown.ensures.grows c.new-work.result (c.new-work.ensures.log ∙ c.new.ensures) c.new-work.ensures.known c.prove.ensures.grows in
    subst (λ (b : Content). CanRelease b c.mark-mark.result) (sym c.in_ok-tried.ensures.bank)
    (can_give_back c.args.bank c.new-work.result.bank c.in_ok-shown.shown.work.bank c.args.history.now c.args.lemma.name c.args.lemma.goal c.requires.history c.requires.name c.requires.goal
    c.new-work.ensures.bank grows.bank c.mark-mark.result c.mark-mark.ensures)

pub returns-clause-tried : goal.returns-clause-tried
returns-clause-tried g c =
    let bank = c.args.bank in
    let work = c.in_ok-shown.shown.work in
    let h = c.args.history.now in
    let name = c.args.lemma.name in
    let lemma = c.args.lemma.goal in
    let tried = c.in_ok-tried.tried in
    let back = c.given_back.ensures in
    let grows : WorkGrows h c.new-work.result work = c.in_ok-shown.ensures.grows c.new-work.result (c.new-work.ensures.log ∙ c.new.ensures) c.new-work.ensures.known c.prove.ensures.grows in
    record {
      same = back.bank ∙ ap (λ (b : Content). released b c.mark-mark.result) c.in_ok-tried.ensures.bank
          ∙ given_back_is bank c.new-work.result.bank work.bank h name lemma c.requires.history c.requires.name c.requires.goal c.new-work.ensures.bank grows.bank c.mark-mark.result c.mark-mark.ensures;
      found = subst (λ (limit : ℕ). IsFoundBy limit (events_at bank h) (term_at bank lemma) c.given_back.result.found) (grows.counter.limit ∙ c.new-work.ensures.limit)
          (subst (IsFoundBy work.counter.limit (events_at bank h) (term_at bank lemma)) (sym back.found)
          (found_before bank c.new-work.result.bank work.bank h name lemma c.requires.history c.requires.name c.requires.goal c.new-work.ensures.bank grows.bank work.counter.limit tried.found c.in_ok-tried.ensures.found));
      written = λ on.
          subst (λ (result : Found). AreBlocks (events_at bank h) (found_claims (text_at bank name) (term_at bank lemma) result) c.given_back.result.block) (sym back.found)
          (subst (λ (block : List ℕ). AreBlocks (events_at bank h) (found_claims (text_at bank name) (term_at bank lemma) tried.found) block) (sym back.block)
          (written_before bank c.new-work.result.bank work.bank h name lemma c.requires.history c.requires.name c.requires.goal c.new-work.ensures.bank grows.bank tried.found tried.block
          (c.in_ok-tried.ensures.written on)));
    }
