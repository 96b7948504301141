-- The destructor calls in the arguments so far were put.
use Rattle.std.proofs.Common.{◌≡◌, ◌++◌, take}
use Rattle.std.specs.Prelude.{All}
use Rattle.nq_bank.specs.Content.{Stands, term_at, terms_at, text_at}
use Rattle.nq_eliminate.specs.Serving.{calls_of_all}
use Rattle.nq_eliminate.proofs.DestructorLemmas.{here_of}
use Rattle.nq_eliminate.proofs.destructors.+put_destructors.Given as goal

abbrev pub decreases-put_destructors : goal.decreases-put_destructors
decreases-put_destructors l = l.t.0

abbrev pub invariant-loop-a : goal.invariant-loop-a
invariant-loop-a l =
    record {
      more : terms_at l.bank l.found.items ≡ (terms_at l.bank l.fn.found.items ++ here_of l.here (term_at l.bank l.fn.t)) ++ calls_of_all (text_at l.bank l.x) (terms_at l.bank (take l.a-index l.arguments));
      stand : All (Stands l.bank) l.found.items;
    }
