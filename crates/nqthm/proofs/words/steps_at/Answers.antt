use Rattle.std.proofs.Common.{ap, ◌∙◌, ℕ, List, Option, Some, codes}
use Rattle.std.specs.Option.{option_map_or}
use Rattle.clap.specs.Words.{found_of}
use Rattle.clap.proofs.WalkLemmas.{first_value-rows}
use Rattle.nqthm.specs.Words.{steps_of}
use Rattle.nqthm.proofs.words.steps_at.Goals as goal

pub returns-in-Some-clause-value : goal.returns-in-Some-clause-value
returns-in-Some-clause-value c = let first = c.in-Some.ensures ∙ first_value-rows (found_of c.args.matches.now) (codes "steps") in
    c.number_in.ensures.value ∙ ap (λ (o : Option (List ℕ)). option_map_or steps_of o (Some 2000000)) first

pub returns-in-None-clause-value : goal.returns-in-None-clause-value
returns-in-None-clause-value c = let first = c.in-None.ensures ∙ first_value-rows (found_of c.args.matches.now) (codes "steps") in
    ap (λ (o : Option (List ℕ)). option_map_or steps_of o (Some 2000000)) first
