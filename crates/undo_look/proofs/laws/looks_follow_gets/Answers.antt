use Rattle.undo_look.proofs.Course as course
use Rattle.undo_look.proofs.laws.looks_follow_gets.Goals as goal

pub returns : goal.returns
returns c = course.looks_follow_gets
