use Rattle.nq_print.proofs.objects.+is_object.Given as goal

abbrev pub decreases-is_object : goal.decreases-is_object
decreases-is_object l = l.t.0
