-- The answer so far is that of the arguments so far.
use Rattle.std.proofs.Common.{◌≡◌, take}
use Rattle.nq_bank.specs.Content.{text_at, terms_at}
use Rattle.nq_calls.specs.Mentions.{is_mentioned, HasMentions}
use Rattle.nq_calls.proofs.mentions.+mentions_within.Given as goal

abbrev pub decreases-mentions_within : goal.decreases-mentions_within
decreases-mentions_within l = l.t.0

abbrev pub invariant-loop-a : goal.invariant-loop-a
invariant-loop-a l =
    record {
      so_far : l.inside ≡ is_mentioned (text_at l.bank l.f) (terms_at l.bank (take l.a-index l.a-items));
      answers : HasMentions l.bank (text_at l.bank l.f) l.known;
    }
