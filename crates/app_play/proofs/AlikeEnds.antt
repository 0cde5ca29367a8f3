-- The lines of a play and its chart end alike.
use Rattle.std.proofs.Common.{◌≡◌, ◌∙◌, ℕ, List, length, Option, Some, None, ap, refl, subst, sym}
use Rattle.text_lines.specs.declared.event.Event.{Event}
use Rattle.cfg_records.specs.declared.board_file.BoardFile.{BoardFile}
use Rattle.record_base.specs.declared.op.Op.{Op}
use Rattle.model_lab.specs.declared.fault.Fault.{Fault}
use Rattle.model_lab.specs.Played.{Ending, Whole, Stops, IsPlayed}
use Rattle.app_play.specs.declared.account.Account.{Account}
use Rattle.lab_play.specs.declared.run.Stopped.{Stopped}
use Rattle.app_play.specs.declared.inputs.Inputs.{Inputs}
use Rattle.app_play.specs.Account.{IsAccountOf, status_of}
use Rattle.app_play.specs.Alike.{EndAlike}
use Rattle.app_play.specs.Drawn.{EndsAt}

-- an event that wasn't taken is known by its place and its fault
pub same_stop : (stopped other : Stopped) → stopped.place ≡ other.place → stopped.fault ≡ other.fault → stopped ≡ other
same_stop stopped other place why =
    subst (λ (p : ℕ). stopped ≡ record { place = p; fault = other.fault }) place
    (subst (λ (f : Fault). stopped ≡ record { place = stopped.place; fault = f }) why refl)

-- accounts of one ending name the same event
pub same_stopped : (account other : Account) (ending : Ending) → IsAccountOf account ending → IsAccountOf other ending → account.stopped ≡ other.stopped
same_stopped account other (Whole told) is also = is.1 ∙ sym also.1
same_stopped account other (Stops cause at told) (accounts, (stopped, is_stopped, why, place)) (also, (event, is_event, cause_is, at_is)) =
    is_stopped ∙ ap Some (same_stop stopped event (place ∙ sym at_is) (why ∙ sym cause_is)) ∙ sym is_event

-- the account and the chart of one ending name the same event
one_stop : (events : List Event) (notes : ℕ) (account : Account) (stopped : Option Stopped) (ending : Ending) → IsAccountOf account ending → EndsAt events notes stopped ending
    → stopped ≡ account.stopped
one_stop events notes account None (Whole told) is ends = sym is.1
one_stop events notes account (Some stopped) (Whole told) is ends = absurd ends
one_stop events notes account None (Stops cause at told) is ends = absurd ends
one_stop events notes account (Some stopped) (Stops cause at told) (accounts, (other, is_other, why, place)) (fault_is, place_is, behind) =
    ap Some (same_stop stopped other (place_is ∙ sym place) (fault_is ∙ sym why)) ∙ sym is_other

-- a play ends in one way
abbrev pub OneEnding : Type 0
OneEnding = (file : BoardFile) (steps : List Op) (retries : ℕ) (events : List Event) (ending other : Ending)
    → IsPlayed file steps retries events ending → IsPlayed file steps retries events other → ending ≡ other

pub ends_alike : OneEnding → (inputs : Inputs) → EndAlike inputs
ends_alike one inputs frames premises text chart status other told drawn =
    let same : told.ending ≡ drawn.play.ending =
    one inputs.file inputs.plan.steps inputs.plan.retries inputs.events told.ending drawn.play.ending told.played drawn.play.played in
    let stop : drawn.stopped ≡ told.account.stopped =
    one_stop inputs.events (length drawn.notes) told.account drawn.stopped drawn.play.ending
    (subst (λ (ending : Ending). IsAccountOf told.account ending) same told.is) drawn.play.ends in
    (stop, drawn.ended ∙ ap status_of stop ∙ sym told.ended)
