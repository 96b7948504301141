use Rattle.std.proofs.Common.{refl, inl, inr, ◌≡◌, true, false}
use Rattle.nq_goals.proofs.examples.eliminations.Goals as goal

pub returns-clause-rules : goal.returns-clause-rules
returns-clause-rules c = record { ground = refl; parts = refl; lemma = refl; disabled = refl; quotient_parts = refl; quotient_others = refl; hypotheses = refl; leads = refl }

pub returns-clause-candidates : goal.returns-clause-candidates
returns-clause-candidates c = record {
  stands = record { enabled = inr (inl refl); each = refl; differs = refl; apart = refl; stands = refl };
  absent = λ e. let s : false ≡ true = e.stands in absurd cc;
  same = λ e. let s : true ≡ false = e.differs in absurd cc;
}

pub returns-clause-found : goal.returns-clause-found
returns-clause-found c = record { accessor = refl; both = refl; nested = refl; none = refl; quotient = refl; one_variable = refl; without_rule = refl }
