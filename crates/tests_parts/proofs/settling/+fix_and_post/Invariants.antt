-- Each call fixes one pass fewer.
use Rattle.tests_parts.proofs.settling.+fix_and_post.Given as goal

abbrev pub decreases-fix_and_post : goal.decreases-fix_and_post
decreases-fix_and_post g l = l.more
