use Rattle.std.proofs.Common.{sym, ◌∙◌, ap, subst}
use Rattle.text_lines.specs.declared.event.Event.{Event}
use Rattle.text_lines.specs.Written.{IsEventLine, has_line, line_of}
use Rattle.text_lines.proofs.Written.{to_bmc_stands, to_mgr_stands}
use Rattle.text_lines.proofs.schedule_writing.push_event.Goals as goal

pub returns-in-ToBmc-clause-stands : goal.returns-in-ToBmc-clause-stands
returns-in-ToBmc-clause-stands c h =
    subst (λ (e : Event). IsEventLine (line_of e) e) (sym c.in-ToBmc.is) (to_bmc_stands c.in-ToBmc.number (sym (ap has_line c.in-ToBmc.is) ∙ h))

pub returns-in-ToMgr-clause-stands : goal.returns-in-ToMgr-clause-stands
returns-in-ToMgr-clause-stands c h =
    subst (λ (e : Event). IsEventLine (line_of e) e) (sym c.in-ToMgr.is) (to_mgr_stands c.in-ToMgr.number (sym (ap has_line c.in-ToMgr.is) ∙ h))
