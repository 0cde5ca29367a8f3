use Rattle.std.proofs.Common.{ℕ, List, arith, refl}
use Rattle.hex.specs.Hex.{IsBytes}
use Rattle.two_wire.specs.declared.Bus.{Bus}
use Rattle.text_lines.specs.declared.event.Event.TheVariants.{Noise}
use Rattle.text_lines.specs.EventLine.{most_noise, AreSome}
use Rattle.text_lines.specs.Written.{line_of, IsEventLine}
use Rattle.text_lines.proofs.Written.{stands, one_word, bus_word}
use Rattle.text_lines.proofs.schedule_writing.push_noise.Goals as goal

noise_stands : (on : Bus) (bytes : List ℕ) → IsBytes bytes → AreSome most_noise bytes → IsEventLine (line_of (Noise on bytes)) (Noise on bytes)
noise_stands on bytes small some = stands (Noise on bytes) (one_word _ refl refl, (bus_word on, (small, tt))) some refl

pub returns-in_err-digits-clause-stands : goal.returns-in_err-digits-clause-stands
returns-in_err-digits-clause-stands c = noise_stands c.args.on c.args.bytes.now (λ i. omega (arith, c.type_inv.bytes i)) c.requires

pub returns-clause-stands : goal.returns-clause-stands
returns-clause-stands c = noise_stands c.args.on c.args.bytes.now (λ i. omega (arith, c.type_inv.bytes i)) c.requires
