-- What a restart of the manager does in a lab, it does in the model's world.
use Rattle.std.proofs.Common.{◌≡◌, [], ◌∷◌, length, refl, ◌∙◌, ap, subst}
use Rattle.two_wire.specs.declared.Bus.{Bus}
use Rattle.two_wire.specs.declared.Bus.TheVariants.{Ipmb, Smbus}
use Rattle.cfg_records.specs.declared.board_file.BoardFile.{BoardFile}
use Rattle.model_bus.specs.BusState.{BusState}
use Rattle.model_bus.specs.Answering.{AreWritten}
use Rattle.model_bus.proofs.Lists.{Grows}
use Rattle.model_undo.specs.Machine.{count_of, Stage, AtStart, Opened, AtEnd, AtHalt, AtUndone, AtRefused, Machine}
use Rattle.model_undo.specs.Restart.{restarts}
use Rattle.model_undo.specs.World.{States, Restart}
use Rattle.undo_plans.specs.declared.names.Names.{Names}
use Rattle.model_lab.specs.ManagerSteps.{remade}
use Rattle.model_lab.specs.Lab.{Lab}
use Rattle.model_headline.specs.Made.{MachineMade, StageMade}
use Rattle.model_headline.specs.Each.{Each}
use Rattle.model_headline.proofs.Frames.{all_held}
use Rattle.model_headline.specs.Tied.{own_plans, own_lines, rules_on, requests, EntryAnswers, IsTied, WorldFollows}
use Rattle.model_headline.proofs.Begun.{own, words}
use Rattle.model_headline.proofs.Goes.{Quietly, goes_quietly}

module _ (setup : BoardFile) (names : Names) where
  -- a manager makes the same requests
  restart_made : (stage : Stage (words setup names)) (m : Machine (words setup names)) → m.stage ≡ stage → MachineMade (own setup names) m → MachineMade (own setup names) (restarts (words setup names) stage m)
  restart_made (Opened heeded task part) m at made = record { stage = subst (StageMade (own setup names)) at made.stage; undo = made.undo }
  restart_made AtStart m at made = made
  restart_made AtEnd m at made = made
  restart_made (AtHalt k why) m at made = made
  restart_made AtUndone m at made = made
  restart_made (AtRefused k code) m at made = made

  same_counts : (stage : Stage (words setup names)) (m : Machine (words setup names)) → (restarts (words setup names) stage m).counts ≡ m.counts
  same_counts (Opened heeded task part) m = refl
  same_counts AtStart m = refl
  same_counts AtEnd m = refl
  same_counts (AtHalt k why) m = refl
  same_counts AtUndone m = refl
  same_counts (AtRefused k code) m = refl

  module _ (x : Lab (own_plans setup names)) (on : States (own_lines setup names)) (tied : IsTied setup names x on) where
    abbrev machine : Machine (words setup names)
    machine = x.manager.machine

    abbrev left : States (own_lines setup names)
    left bus = (own_lines setup names bus).restarts (on bus)

    abbrev made_again : Lab (own_plans setup names)
    made_again = record x { manager = remade (own_plans setup names) x.manager }

    by_bus : (Q : Bus → BusState → Type 0) → ((bus : Bus) → Q bus (requests setup names on bus)) → (bus : Bus) → Q bus (requests setup names left bus)
    by_bus Q q Ipmb = q Ipmb
    by_bus Q q Smbus = q Smbus

    tied_again : IsTied setup names made_again left
    tied_again = record {
      named = tied.named;
      ipmb_wire = tied.ipmb_wire;
      smbus_wire = tied.smbus_wire;
      ipmb_log = tied.ipmb_log;
      smbus_port = record { log = tied.smbus_port.log; waits = tied.smbus_port.waits; sound = tied.smbus_port.sound };
      waits = λ n. refl;
      alone = cc;
      counted = by_bus (λ bus s. count_of bus (restarts (words setup names) machine.stage machine).counts ≡ length s.taken)
          (λ bus. ap (count_of bus) (same_counts machine.stage machine) ∙ tied.counted bus);
      written = by_bus (λ bus s. AreWritten bus (rules_on setup names bus) s) tied.written;
      answered = by_bus (λ bus s. Each (EntryAnswers setup names bus) s.log) tied.answered;
      made = restart_made machine.stage machine refl tied.made;
      frames = all_held setup names on left x.frames (by_bus (λ bus s. Grows (requests setup names on bus).frames s.frames) (λ bus n f e. e)) tied.frames;
      opened = tied.opened;
    }

    pub restart_quietly : Quietly setup names x on made_again
    restart_quietly = record { went = record { happenings = Restart ∷ []; left = left; may = (tt, tt); reaches = refl; tied = tied_again }; none = refl }

    pub restart_goes : WorldFollows setup names x on made_again
    restart_goes = goes_quietly setup names x made_again on restart_quietly
