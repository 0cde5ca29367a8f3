use Rattle.model_headline.proofs.laws.plays_stand.Goals as goal
use Rattle.model_headline.proofs.Plays as plays

pub returns : goal.returns
returns c = plays.plays_stand
