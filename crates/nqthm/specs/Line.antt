-- The command line, as a command of `clap`: its subcommands and their arguments.
use Rattle.std.specs.Prelude.{ℕ, List, Some, true, codes}
use Rattle.clap.specs.Words.{App, Rule, new_app, new_rule, with_rule, with_subcommand}
use Rattle.clap.specs.declared.builder.ArgAction.TheVariants.{Set}

-- `--steps N`
abbrev pub steps_rule : Rule
steps_rule = record (new_rule (codes "steps")) { long = Some (codes "steps"); action = Some Set }

abbrev pub runner : List ℕ → App
runner name = with_rule (new_app name) steps_rule

-- a number that has to be given, in its place among the words
abbrev pub number_rule : List ℕ → Rule
number_rule id = record (new_rule id) { required = true; action = Some Set }

-- a seed and a size
abbrev pub sampler : App
sampler = with_rule (with_rule (new_app (codes "sample")) (number_rule (codes "seed"))) (number_rule (codes "size"))

abbrev pub program : App
program = let app = new_app (codes "nqthm") in record app { top = record app.top { subcommand_required = true } }

-- `run` and `log`, each with a number of steps, `check`, and `sample`
abbrev pub command_line : App
command_line =
    with_subcommand
    (with_subcommand (with_subcommand (with_subcommand program (runner (codes "run")).top) (runner (codes "log")).top) (new_app (codes "check")).top)
    sampler.top
