-- The calls that are left decide.
use Rattle.std.proofs.Common.{◌≡◌, drop}
use Rattle.nq_bank.specs.Content.{text_at}
use Rattle.nq_calls.specs.Calls.{sites_at}
use Rattle.nq_calls.specs.Mentions.{HasMentions}
use Rattle.nq_check.specs.Measures.{are_older}
use Rattle.nq_check.proofs.context.Context.are_older.Given as goal

abbrev pub invariant-loop-site : goal.invariant-loop-site
invariant-loop-site l =
    record {
      so_far : are_older (text_at l.self.bank l.f) l.uses.items (sites_at l.self.bank (drop l.site-index l.sites)) ≡ are_older (text_at l.self.bank l.f) l.uses.items (sites_at l.self.bank l.sites);
      answers : HasMentions l.self.bank (text_at l.self.bank l.f) l.known;
    }
