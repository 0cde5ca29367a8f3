-- The frame that an event delivers, and those that it sends.
use Rattle.std.proofs.Common.{◌≡◌, ℕ, Option, Some, None, refl, sym, ◌∙◌, ap, option_map}
use Rattle.std.specs.Prelude.{slice_get}
use Rattle.two_wire.specs.declared.Bus.{Bus}
use Rattle.cfg_records.specs.declared.board_file.BoardFile.{BoardFile}
use Rattle.model_lab.specs.declared.way.Way.TheVariants.{ToPort}
use Rattle.model_lab.specs.Lab.{LabFrame, Lab as LabModel, port_on}
use Rattle.model_lab.specs.declared.fault.Fault.TheVariants.{NoFrame}
use Rattle.model_lab.specs.Faults.{first_of, delivery}
use Rattle.bmc_core.specs.declared.out.Disposition.{Disposition}
use Rattle.text_lines.specs.declared.event.Event.{Event}
use Rattle.text_lines.specs.declared.event.Event.TheVariants as event
use Rattle.lab_run.specs.declared.frames.SentFrame.{SentFrame}
use Rattle.model_lab.specs.Played.{plans, fault_at}
use Rattle.lab_run.specs.declared.lab_state.Lab.{Lab}
use Rattle.lab_run.specs.Shown.{Represents, IsSentFrame}
use Rattle.lab_run.specs.Hearing.{EventResult, done_on}
use Rattle.lab_run.specs.Coming.{done_at, done_in}
use Rattle.lab_run.proofs.Sent.{beside, none_beside}

-- ---- what the controller did

module _ (file : BoardFile) (old new : Lab) (x : LabModel plans) (shows : Represents file old x) where
  -- a frame that is delivered was sent
  done_of_frame : (number : ℕ) (o : Option LabFrame) → slice_get x.frames number ≡ o → fault_at file x (event.ToBmc number) ≡ None → EventResult (event.ToBmc number) old new
      → Some new.out.done ≡ option_map (λ f. done_on f.on (port_on plans f.on x) f.value) o
  done_of_frame number (Some f) is none did = ap (λ (d : Disposition). Some d) (did file x f shows is)
  done_of_frame number None is none did =
      let no : Some NoFrame ≡ None = sym (ap (λ (o : Option LabFrame). first_of (delivery plans ToPort x o)) is) ∙ none in cc no

  pub done_is : (e : Event) → fault_at file x e ≡ None → EventResult e old new → done_in e new ≡ done_at x e
  done_is (event.ToBmc number) none did =
      done_of_frame number (slice_get x.frames number) refl none did
  done_is _ none did = refl

-- ---- the bus of a frame that is sent

module _ (file : BoardFile) (lab : Lab) (x : LabModel plans) (number : ℕ) (shows : Represents file lab x) where
  pub bus_shown : (s : SentFrame) → slice_get lab.frames number ≡ Some s → Some s.mark.on ≡ option_map (λ f. f.on) (slice_get x.frames number)
  bus_shown s there =
      let at = beside IsSentFrame lab.frames x.frames number s shows.frames there in
      ap (λ (b : Bus). Some b) (sym at.2.is.mark.on) ∙ ap (option_map (λ (f : LabFrame). f.on)) (sym at.1)

  pub no_bus : slice_get lab.frames number ≡ None → None ≡ option_map (λ f. f.on) (slice_get x.frames number)
  no_bus none = ap (option_map (λ (f : LabFrame). f.on)) (sym (none_beside IsSentFrame lab.frames x.frames number shows.frames none))
