use Rattle.nq_log_tests.proofs.moves.led_in.Goals as goal

pub led_on-requires-clause-hints : goal.led_on-requires-clause-hints
led_on-requires-clause-hints g c = c.hints_with-hints.ensures _
