use Rattle.std.specs.Prelude.{Result, Ok}
use Rattle.std.proofs.Common.{rules, ◌≡◌, ℕ, List, sym, ◌∙◌, ap, subst}
use Rattle.wire_links.specs.declared.link.Heard.{Heard}
use Rattle.wire_links.specs.declared.link.Heard.TheVariants.{Frame}
use Rattle.wire_links.specs.declared.link.LinkFault.{LinkFault}
use Rattle.undo_core.specs.Course.{InputResult}
use Rattle.bmc_ports.specs.Driving.{Answers, call_for}
use Rattle.bmc_ports.proofs.driver.hear.Goals as goal

pub returns-in-Ok-Frame : goal.returns-in-Ok-Frame
returns-in-Ok-Frame g c =
    let is : c.next.result ≡ Ok (Frame c.as_slice.result.now) =
    c.in-Ok-Frame.is ∙ ap (λ (h : Heard). Ok h) c.in-Ok-Frame.field-0-is ∙ ap (λ (l : List ℕ). Ok (Frame l)) (sym c.as_slice.ensures.value) in (
      c.next.result,
      record { gave = c.next.ensures.gave; counted = c.next.ensures.counted },
      λ names s shows.
          subst (λ (x : Result Heard LinkFault). InputResult names (call_for (Answers c.args.bus x)) s c.on_frame.new.self c.on_frame.result) (sym is) (c.on_frame.ensures.heard names s shows),
    )

pub returns-in-Ok-Quiet : goal.returns-in-Ok-Quiet
returns-in-Ok-Quiet g c = (c.next.result, record { gave = c.next.ensures.gave; counted = c.next.ensures.counted }, search rules)
