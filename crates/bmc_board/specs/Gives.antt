-- What a call that appends a reply's data gives.
pub use Rattle.record_kinds.specs.Gives.{GivesReply, AppendsReply, AnswersCode}
