-- Replies.
pub use Rattle.record_kinds.specs.Replies.{done, refused, sessionless_channel, unknown_code}
