-- The arguments that are left decide.
use Rattle.std.proofs.Common.{◌≡◌, drop}
use Rattle.nq_bank.specs.Content.{text_at, terms_at}
use Rattle.nq_calls.specs.Falls.{is_in_used}
use Rattle.nq_calls.specs.Mentions.{HasMentions}
use Rattle.nq_calls.proofs.lines.is_in_used.Given as goal

abbrev pub invariant-loop-place : goal.invariant-loop-place
invariant-loop-place l =
    record {
      so_far : is_in_used (text_at l.bank l.f) (drop l.place l.uses) (terms_at l.bank (drop l.place l.arguments)) ≡ is_in_used (text_at l.bank l.f) l.uses (terms_at l.bank l.arguments);
      answers : HasMentions l.bank (text_at l.bank l.f) l.known;
    }
