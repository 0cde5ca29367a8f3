use Rattle.model_bus.proofs.laws.resumed_manager_goes_on.Goals as goal
use Rattle.model_bus.proofs.Resume.{ipmb_resumes, smbus_resumes, tags_go_on}

pub returns-clause-ipmb : goal.returns-clause-ipmb
returns-clause-ipmb c = ipmb_resumes

pub returns-clause-smbus : goal.returns-clause-smbus
returns-clause-smbus c = smbus_resumes

pub returns-clause-tags : goal.returns-clause-tags
returns-clause-tags c = tags_go_on
