use Rattle.std.proofs.Common.{◌≡◌, ◌∙◌, ◌&&◌, ℕ, List, length, sym, ap, subst, true, false}
use Rattle.std.specs.Prelude.{All}
use Rattle.std.proofs.lemmas.List.{length-map}
use Rattle.nq_logic.specs.Admissible.{Call, calls_of}
use Rattle.nq_logic.specs.Terms.{Name, Term}
use Rattle.nq_bank.specs.Content.{term_at, text_at}
use Rattle.nq_bank.specs.Shells.{texts_at}
use Rattle.nq_calls.specs.declared.calls.Site.{Site}
use Rattle.nq_calls.specs.Calls.{SiteStands, counted_calls, site_at, sites_at}
use Rattle.nq_calls.specs.Falls.{uses_of}
use Rattle.nq_log.specs.States.{Block}
use Rattle.nq_log.specs.ClosingLines.{are_falls}
use Rattle.nq_rule.proofs.Made.{for_ok}
use Rattle.nq_check.specs.Contexts.{state_of}
use Rattle.nq_check.specs.Measures.{are_older, are_shown}
use Rattle.nq_check.proofs.MeasureLemmas.{falls_apart, too_few}
use Rattle.nq_check.proofs.context.Context.are_falls.Goals as goal

pub returns-then-calls-lines : goal.returns-then-calls-lines
returns-then-calls-lines c =
    let old = c.args.self.now in
    let f : Name = text_at old.bank c.args.f in
    let xs : List Name = texts_at old.bank c.args.formals.now in
    let m : Term = term_at old.bank c.args.measure in
    let sites = c.in_ok-sites.sites.items in
    sym (too_few (state_of old).block f xs m c.smaller_mentions.ensures c.requires.distinct c.requires.older (calls_of f (term_at old.bank c.args.body)) c.args.lines.now
    (λ e. c.if-calls-lines.true (ap (λ (l : List Site). length l) c.as_slice-calls.ensures.value ∙ sym (length-map sites (site_at old.bank)) ∙ ap (λ (l : List Call). length l) c.in_ok-sites.ensures.calls ∙ e)))

pub are_older-requires-clause-sites : goal.are_older-requires-clause-sites
are_older-requires-clause-sites c = subst (λ (l : List Site). All (SiteStands c.args.self.now.bank) l) (sym c.as_slice-calls.ensures.value) c.in_ok-sites.ensures.stand

pub returns-then-not-branch : goal.returns-then-not-branch
returns-then-not-branch c =
    let old = c.args.self.now in
    let block = (state_of old).block in
    let f : Name = text_at old.bank c.args.f in
    let xs : List Name = texts_at old.bank c.args.formals.now in
    let m : Term = term_at old.bank c.args.measure in
    let t : Term = term_at old.bank c.args.body in
    let sites = c.in_ok-sites.sites.items in
    let count : length (counted_calls f t) ≡ length c.args.lines.now =
    sym (ap (λ (l : List Call). length l) c.in_ok-sites.ensures.calls) ∙ length-map sites (site_at old.bank) ∙ sym (ap (λ (l : List Site). length l) c.as_slice-calls.ensures.value) ∙ c.if-calls-lines.false in
    let newer : are_older f (uses_of xs m) (counted_calls f t) ≡ false =
    sym (ap (are_older f (uses_of xs m)) c.in_ok-sites.ensures.calls) ∙ sym (ap (λ (l : List Site). are_older f (uses_of xs m) (sites_at old.bank l)) c.as_slice-calls.ensures.value) ∙ sym c.in_ok-are_older.ensures ∙ c.if-not-branch.true in
    sym (falls_apart block f xs m c.smaller_mentions.ensures c.requires.distinct c.requires.older (calls_of f t) c.args.lines.now count ∙ ap (λ b. b && are_shown block xs m (counted_calls f t) c.args.lines.now) newer)

pub show_falls-requires-clause-sites : goal.show_falls-requires-clause-sites
show_falls-requires-clause-sites c = subst (λ (l : List Site). All (SiteStands c.args.self.now.bank) l) (sym c.as_slice-calls.ensures.value) c.in_ok-sites.ensures.stand

pub returns : goal.returns
returns c =
    let old = c.args.self.now in
    let block = (state_of old).block in
    let f : Name = text_at old.bank c.args.f in
    let xs : List Name = texts_at old.bank c.args.formals.now in
    let m : Term = term_at old.bank c.args.measure in
    let t : Term = term_at old.bank c.args.body in
    let sites = c.in_ok-sites.sites.items in
    let rs : List ℕ = c.args.lines.now in
    let count : length (counted_calls f t) ≡ length rs =
    sym (ap (λ (l : List Call). length l) c.in_ok-sites.ensures.calls) ∙ length-map sites (site_at old.bank) ∙ sym (ap (λ (l : List Site). length l) c.as_slice-calls.ensures.value) ∙ c.if-calls-lines.false in
    let older : are_older f (uses_of xs m) (counted_calls f t) ≡ true =
    sym (ap (are_older f (uses_of xs m)) c.in_ok-sites.ensures.calls) ∙ sym (ap (λ (l : List Site). are_older f (uses_of xs m) (sites_at old.bank l)) c.as_slice-calls.ensures.value) ∙ sym c.in_ok-are_older.ensures ∙ c.if-not-branch.false in
    let apart : are_falls block f xs m (calls_of f t) rs ≡ are_shown block xs m (counted_calls f t) rs =
    falls_apart block f xs m c.smaller_mentions.ensures c.requires.distinct c.requires.older (calls_of f t) rs count ∙ ap (λ b. b && are_shown block xs m (counted_calls f t) rs) older in
    for_ok c.show_falls.result (λ b. b ≡ are_shown block xs m (sites_at old.bank c.as_slice-calls.result.now) rs) (λ b. b ≡ are_falls block f xs m (calls_of f t) rs)
    (λ b h. h ∙ ap (λ (l : List Site). are_shown block xs m (sites_at old.bank l) rs) c.as_slice-calls.ensures.value ∙ ap (λ (l : List Call). are_shown block xs m l rs) c.in_ok-sites.ensures.calls ∙ sym apart) c.show_falls.ensures
