use Rattle.model_headline.proofs.request_laws.greetings_set_nothing.Goals as goal
use Rattle.model_headline.proofs.GreetingRequests.{greeter_freshens, greetings_set_nothing, no_plan_greets}

pub returns-clause-nothing : goal.returns-clause-nothing
returns-clause-nothing c = greetings_set_nothing

pub returns-clause-unlike : goal.returns-clause-unlike
returns-clause-unlike c = no_plan_greets

pub returns-clause-fresh : goal.returns-clause-fresh
returns-clause-fresh c = greeter_freshens
