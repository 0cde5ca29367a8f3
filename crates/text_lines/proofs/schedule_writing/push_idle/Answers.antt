use Rattle.std.proofs.Common.{ℕ, ◌<◌, arith, refl}
use Rattle.two_wire.specs.declared.Bus.{Bus}
use Rattle.text_lines.specs.declared.event.Event.TheVariants.{Idle}
use Rattle.text_lines.specs.Written.{line_of, IsEventLine}
use Rattle.text_lines.proofs.Written.{stands, one_word, bus_word, small_byte}
use Rattle.text_lines.proofs.schedule_writing.push_idle.Goals as goal

idle_stands : (on : Bus) (requester : ℕ) → requester < 256 → IsEventLine (line_of (Idle on requester)) (Idle on requester)
idle_stands on requester small = stands (Idle on requester) (one_word _ refl refl, (bus_word on, (small_byte requester small, tt))) tt refl

pub returns-in_err-from-clause-stands : goal.returns-in_err-from-clause-stands
returns-in_err-from-clause-stands c = idle_stands c.args.on c.args.requester (omega (arith, c.ranges.requester.fits))

pub returns-clause-stands : goal.returns-clause-stands
returns-clause-stands c = idle_stands c.args.on c.args.requester (omega (arith, c.ranges.requester.fits))
