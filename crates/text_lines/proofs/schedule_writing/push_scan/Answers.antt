use Rattle.std.proofs.Common.{ℕ, ◌<◌, arith, refl}
use Rattle.text_lines.specs.declared.event.BenchEvent.TheVariants.{Scan}
use Rattle.text_lines.specs.declared.event.Event.{Event}
use Rattle.text_lines.specs.declared.event.Event.TheVariants.{OnBench}
use Rattle.text_lines.specs.Written.{line_of, IsEventLine}
use Rattle.text_lines.proofs.Written.{stands, one_word, small_byte}
use Rattle.text_lines.proofs.schedule_writing.push_scan.Goals as goal

abbrev scanned : ℕ → ℕ → Event
scanned sensor reading = OnBench (Scan sensor reading)

scan_stands : (sensor reading : ℕ) → sensor < 256 → reading < 256 → IsEventLine (line_of (scanned sensor reading)) (scanned sensor reading)
scan_stands sensor reading one two = stands (scanned sensor reading) (one_word _ refl refl, (small_byte sensor one, (small_byte reading two, tt))) tt refl

pub returns-in_err-sensor-clause-stands : goal.returns-in_err-sensor-clause-stands
returns-in_err-sensor-clause-stands c = scan_stands c.args.sensor c.args.reading (omega (arith, c.ranges.sensor.fits)) (omega (arith, c.ranges.reading.fits))

pub returns-in_err-reading-clause-stands : goal.returns-in_err-reading-clause-stands
returns-in_err-reading-clause-stands c = scan_stands c.args.sensor c.args.reading (omega (arith, c.ranges.sensor.fits)) (omega (arith, c.ranges.reading.fits))

pub returns-clause-stands : goal.returns-clause-stands
returns-clause-stands c = scan_stands c.args.sensor c.args.reading (omega (arith, c.ranges.sensor.fits)) (omega (arith, c.ranges.reading.fits))
