-- The terms that are left decide.
use Rattle.std.proofs.Common.{◌≡◌, drop}
use Rattle.nq_bank.specs.Content.{text_at, terms_at}
use Rattle.nq_calls.specs.Mentions.{is_mentioned, HasMentions}
use Rattle.nq_calls.proofs.mentions.are_mentioned.Given as goal

abbrev pub invariant-loop-t : goal.invariant-loop-t
invariant-loop-t l =
    record {
      so_far : is_mentioned (text_at l.bank l.f) (terms_at l.bank (drop l.t-index l.terms)) ≡ is_mentioned (text_at l.bank l.f) (terms_at l.bank l.terms);
      answers : HasMentions l.bank (text_at l.bank l.f) l.known;
    }
