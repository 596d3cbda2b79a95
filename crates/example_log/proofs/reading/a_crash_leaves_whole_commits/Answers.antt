use Rattle.example_log.proofs.CommitsRead.{whole-commits}
use Rattle.example_log.proofs.reading.a_crash_leaves_whole_commits.Goals as goal

pub returns : goal.returns
returns c = whole-commits
