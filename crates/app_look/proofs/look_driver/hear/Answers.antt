use Rattle.std.specs.Prelude.{Result, Ok}
use Rattle.std.proofs.Common.{◌≡◌, ◌∙◌, ℕ, List, None, sym, ap, subst}
use Rattle.wire_links.specs.declared.link.Heard.{Heard}
use Rattle.wire_links.specs.declared.link.Heard.TheVariants.{Frame}
use Rattle.wire_links.specs.declared.link.LinkFault.{LinkFault}
use Rattle.app_look.specs.Driven.{Hears, state}
use Rattle.app_look.proofs.look_driver.hear.Goals as goal

pub returns-in-Ok-Frame : goal.returns-in-Ok-Frame
returns-in-Ok-Frame g c =
    let is : c.next.result ≡ Ok (Frame c.as_slice.result.now) =
    c.in-Ok-Frame.is ∙ ap (λ (h : Heard). Ok h) c.in-Ok-Frame.field-0-is ∙ ap (λ (l : List ℕ). Ok (Frame l)) (sym c.as_slice.ensures.value) in (
      c.next.result,
      record { gave = c.next.ensures.gave; counted = c.next.ensures.counted },
      subst (λ (x : Result Heard LinkFault). Hears c.args.bus x (state c.args.looker.now None) (state c.on_frame.new.self c.on_frame.result)) (sym is) c.on_frame.ensures,
    )
