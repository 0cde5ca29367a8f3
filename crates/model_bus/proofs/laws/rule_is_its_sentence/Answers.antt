use Rattle.model_bus.proofs.laws.rule_is_its_sentence.Goals as goal
use Rattle.model_bus.proofs.Sentence.{sentence_64, sentence_32}
use Rattle.model_bus.proofs.Requesters.{requesters_of}

pub returns-clause-ipmb : goal.returns-clause-ipmb
returns-clause-ipmb c = sentence_64

pub returns-clause-smbus : goal.returns-clause-smbus
returns-clause-smbus c = sentence_32

pub returns-clause-requesters : goal.returns-clause-requesters
returns-clause-requesters c = requesters_of
