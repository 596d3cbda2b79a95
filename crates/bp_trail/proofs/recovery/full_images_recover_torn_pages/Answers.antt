use Rattle.bp_trail.proofs.Crashes.{redo-whole, recovers-torn, redo-alone}
use Rattle.bp_trail.proofs.Full.{redo-torn, patch-puts_in}
use Rattle.bp_trail.proofs.recovery.full_images_recover_torn_pages.Goals as goal

pub returns-clause-any : goal.returns-clause-any
returns-clause-any c = redo-whole

pub returns-clause-torn : goal.returns-clause-torn
returns-clause-torn c = recovers-torn

pub returns-clause-alone : goal.returns-clause-alone
returns-clause-alone c = redo-alone

pub returns-clause-by_page_lsn : goal.returns-clause-by_page_lsn
returns-clause-by_page_lsn c = redo-torn

pub returns-clause-bytes_are_put_in : goal.returns-clause-bytes_are_put_in
returns-clause-bytes_are_put_in c = patch-puts_in
