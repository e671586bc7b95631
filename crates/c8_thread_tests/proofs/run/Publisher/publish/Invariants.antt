-- What is published is one idle row for each frame of the run.
use Rattle.c8_thread_tests.specs.Idle.{idle_rows}
use Rattle.c8_thread_tests.proofs.run.Publisher.publish.Given as goal

abbrev pub ghost-publish : goal.ghost-publish
ghost-publish a = idle_rows a.count
