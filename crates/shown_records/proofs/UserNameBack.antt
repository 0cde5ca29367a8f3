-- What sets a user's name to what its Get shows.
use Rattle.std.proofs.Common.{ℕ, List, length, ◌==◌, Some, None, if◌then◌else◌, refl, ◌∙◌, ap}
use Rattle.record_base.specs.declared.user.SetUserName.{SetUserName}
use Rattle.record_base.specs.UserSizes.{user_name_size}
use Rattle.user_chan.specs.CommonLaws.{again}
use Rattle.user_chan.specs.UserNames.{shown_name, undo_name, words, record_words}
use Rattle.user_chan.specs.UserNamesLaws.{record_laws}
use Rattle.shown_records.specs.Probes.{probe_name}
use Rattle.shown_records.proofs.SetBack.{IsSetBack, any_values, set_back_by}

-- the operation that gives this name to a user
abbrev named : List ℕ → ℕ → SetUserName
named value user = record { user = user; name = shown_name value; sized = refl }

pub set_back : IsSetBack words record_words (λ user shown. probe_name user) any_values
set_back =
    set_back_by words record_words record_laws _ (λ user reply. length reply == user_name_size) (λ user reply. undo_name (probe_name user) reply) (λ user reply. refl)
    (λ user reply holds.
    ap (λ b. if b then Some (undo_name (undo_name (probe_name user) reply) reply) else None) holds ∙ ap (λ (n : ℕ). Some (named reply n)) (again user.number))
    (λ user reply one other made holds done. done)
