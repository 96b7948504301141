-- Fewer tests are left.
use Rattle.std.proofs.Common.{length}
use Rattle.nq_tracer.proofs.tests.+tests_with.Given as goal

abbrev pub decreases-tests_with : goal.decreases-tests_with
decreases-tests_with l = length l.rest.now
