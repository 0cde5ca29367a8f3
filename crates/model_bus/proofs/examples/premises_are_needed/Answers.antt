use Rattle.std.proofs.Common.{refl}
use Rattle.model_bus.proofs.examples.premises_are_needed.Goals as goal

pub returns-clause-span : goal.returns-clause-span
returns-clause-span c = (refl, refl, refl)

pub returns-clause-open_request : goal.returns-clause-open_request
returns-clause-open_request c = (refl, refl, refl)

pub returns-clause-older_frames : goal.returns-clause-older_frames
returns-clause-older_frames c = (refl, refl, refl)

pub returns-clause-address : goal.returns-clause-address
returns-clause-address c = (refl, refl, refl)

pub returns-clause-resume : goal.returns-clause-resume
returns-clause-resume c = (refl, refl, refl)

pub returns-clause-empty_window : goal.returns-clause-empty_window
returns-clause-empty_window c = (refl, refl)
