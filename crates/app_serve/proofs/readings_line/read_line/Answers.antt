use Rattle.std.proofs.Common.{List, ℕ, map, ap, ◌∙◌, subst}
use Rattle.std.specs.Borrow.{Bor}
use Rattle.text_lines.specs.Reads.{FindsOne}
use Rattle.app_serve.specs.ReadingsLine.{SayTimed}
use Rattle.app_serve.proofs.readings_line.read_line.Goals as goal

pub returns : goal.returns
returns c = subst (λ (words : List (List ℕ)). FindsOne (SayTimed words) c.timed.result) (ap (λ (words : List (Bor (List ℕ))). map (λ x. x.now) words) c.as_slice.ensures.value ∙ c.in_ok-words.ensures) c.timed.ensures
