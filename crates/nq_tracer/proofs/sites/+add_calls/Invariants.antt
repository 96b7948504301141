-- What is told so far, with the calls of the arguments from the place on.
use Rattle.std.proofs.Common.{◌≡◌, ◌++◌, drop}
use Rattle.std.specs.Prelude.{All}
use Rattle.nq_logic.specs.Admissible.{calls_of}
use Rattle.nq_bank.specs.Content.{text_at, term_at, terms_at}
use Rattle.nq_calls.specs.Calls.{SiteStands, guards_at, sites_at}
use Rattle.nq_tracer.specs.Sites.{beneath}
use Rattle.nq_tracer.proofs.SiteLemmas.{calls_from}
use Rattle.nq_tracer.proofs.sites.+add_calls.Given as goal

abbrev pub decreases-add_calls : goal.decreases-add_calls
decreases-add_calls l = l.t.0

abbrev pub invariant-loop-place : goal.invariant-loop-place
invariant-loop-place l =
    record {
      calls : sites_at l.bank l.sites.items ++ calls_from (text_at l.bank l.f) (guards_at l.bank l.path) l.choice (terms_at l.bank l.args) l.place (terms_at l.bank (drop l.place l.args)) ≡ sites_at l.bank l.fn.sites.items ++ beneath (guards_at l.bank l.path) (calls_of (text_at l.bank l.f) (term_at l.bank l.fn.t));
      stand : All (SiteStands l.bank) l.sites.items;
    }
