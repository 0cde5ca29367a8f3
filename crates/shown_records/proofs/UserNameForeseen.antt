-- What is foreseen of a user's name.
use Rattle.std.proofs.Common.{refl}
use Rattle.user_chan.specs.UserNames.{words, record_words}
use Rattle.user_chan.specs.UserNamesLaws.{record_laws}
use Rattle.shown_records.specs.Users.{after_user_name}
use Rattle.shown_records.proofs.Foreseen.{IsForeseen, whole_foreseen}

pub foreseen : IsForeseen words record_words after_user_name
foreseen = whole_foreseen words record_words after_user_name record_laws (λ value. refl) (λ op old new live is_valid done. done.all)
