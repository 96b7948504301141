use Rattle.nq_schemes.proofs.showing.shell_line.Goals as goal

pub descent_line-requires-clause-literals : goal.descent_line-requires-clause-literals
descent_line-requires-clause-literals c = λ k d below. (c.requires.goal k d below).stands

pub returns-in-Ok-clause-grows : goal.returns-in-Ok-clause-grows
returns-in-Ok-clause-grows c = c.descent_line.ensures.grows.grows

pub returns-in-Err-clause-grows : goal.returns-in-Err-clause-grows
returns-in-Err-clause-grows c = c.descent_line.ensures.grows.grows
