use Rattle.user_chan.specs.PasswordLaws.{all_tests_tell, all_sets_are_kept, changes_one_status}
use Rattle.user_chan.proofs.laws.passwords_law.Goals as goal

pub returns-clause-tests : goal.returns-clause-tests
returns-clause-tests c = all_tests_tell

pub returns-clause-sets : goal.returns-clause-sets
returns-clause-sets c = all_sets_are_kept

pub returns-clause-status : goal.returns-clause-status
returns-clause-status c = changes_one_status
