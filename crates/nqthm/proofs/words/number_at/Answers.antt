use Rattle.std.proofs.Common.{ap, ◌∙◌, ℕ, List, Option}
use Rattle.std.specs.Option.{option_and_then}
use Rattle.clap.specs.Words.{found_of}
use Rattle.clap.proofs.WalkLemmas.{first_value-rows}
use Rattle.nqthm.specs.Words.{number_in}
use Rattle.nqthm.proofs.words.number_at.Goals as goal

pub returns-in-Some-clause-value : goal.returns-in-Some-clause-value
returns-in-Some-clause-value c = let first = c.in-Some.ensures ∙ first_value-rows (found_of c.args.matches.now) c.args.id.now in
    c.number_in.ensures.value ∙ ap (λ (o : Option (List ℕ)). option_and_then (number_in c.args.least c.args.most) o) first

pub returns-in-None-clause-value : goal.returns-in-None-clause-value
returns-in-None-clause-value c = let first = c.in-None.ensures ∙ first_value-rows (found_of c.args.matches.now) c.args.id.now in
    ap (λ (o : Option (List ℕ)). option_and_then (number_in c.args.least c.args.most) o) first
