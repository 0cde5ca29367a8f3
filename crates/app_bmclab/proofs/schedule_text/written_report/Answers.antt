use Rattle.std.proofs.Common.{◌≡◌, ◌∙◌, List, ℕ, Ok, ap, string_bytes, subst, sym}
use Rattle.text_lines.specs.declared.event.Event.{Event}
use Rattle.text_lines.specs.Schedule.{TextIsRead}
use Rattle.text_lines.specs.Written.{text_of}
use Rattle.app_bmclab.proofs.schedule_text.written_report.Goals as goal

pub returns-clause-written : goal.returns-clause-written
returns-clause-written c =
    let text = string_bytes c.in_ok-text.text in
    let events = c.in_ok-events.events.items in
    let said : string_bytes c.output.result.text ≡ text = ap string_bytes c.output.ensures.text in
    let read : TextIsRead text (Ok events) = subst (λ (events : List Event). TextIsRead text (Ok events)) c.as_slice.ensures.value c.in_ok-text.ensures.said in
    record {
      events = events;
      made = c.in_ok-events.ensures;
      written = said ∙ subst (λ (events : List Event). text ≡ text_of events) c.as_slice.ensures.value c.in_ok-text.ensures.text;
      read = subst (λ (text : List ℕ). TextIsRead text (Ok events)) (sym said) read;
      ended = c.output.ensures.status;
    }
