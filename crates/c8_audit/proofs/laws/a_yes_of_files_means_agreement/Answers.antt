-- What `gather` and `judge` promise of files is what the law about readings asks: three yes tell one story.
use Rattle.c8_audit.proofs.StoryLemmas.{one_story}
use Rattle.c8_audit.proofs.laws.a_yes_of_files_means_agreement.Goals as goal

pub returns : goal.returns
returns c = one_story
