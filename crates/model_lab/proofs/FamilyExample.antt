-- The run computes.
use Rattle.std.proofs.Common.{◌≡◌, ℕ, true, List, [], ◌∷◌, Some, refl, subst, lit≤}
use Rattle.std.proofs.lemmas.Option.{same_Some}
use Rattle.two_wire.specs.declared.Bus.{Bus}
use Rattle.two_wire.specs.declared.Bus.TheVariants.{Ipmb, Smbus}
use Rattle.record_base.specs.declared.key.Key.TheVariants as key
use Rattle.cfg_records.specs.declared.board_file.BoardFile.{BoardFile}
use Rattle.record_base.specs.PowerPolicy.{IsPowerPolicy}
use Rattle.cfg_records.specs.Records.{Records}
use Rattle.bmc_board.specs.State.{State}
use Rattle.bmc_board.proofs.OneAnswer.{has_answer}
use Rattle.model_bus.specs.Numbering.{ipmb}
use Rattle.model_bus.specs.BusState.{ReachesPort, ReachesManager}
use Rattle.model_bus.proofs.Decides.{is_honest, is_honest-tells}
use Rattle.model_undo.specs.Family.{AllValid}
use Rattle.model_undo.specs.World.{World, BoardMay, MayHappen}
use Rattle.model_undo.specs.Example.{addresses, messages, quiet_messages}
use Rattle.model_lab.specs.Family.{family, answer}
use Rattle.bmc_core.specs.Wires.{asked_from}
use Rattle.model_lab.specs.ManagerWires.{wires}
use Rattle.model_lab.proofs.Board.{ready_at_first}
use Rattle.model_lab.specs.FamilyExample.{with_others, board, with_policy, to_port, to_manager, after, EndsUndone}

module _ (setup : BoardFile) (others : Records) where
  port_may : (w : World (family setup addresses) messages) (which : ℕ) (reply : List ℕ) (b : State) → is_honest (ipmb 44 32 0) (w.on Ipmb) (ReachesPort which reply) ≡ true
      → BoardMay (family setup addresses) messages (wires addresses) Ipmb ((messages Ipmb).carries (w.on Ipmb) (ReachesPort which reply)) w.board b
      → MayHappen (family setup addresses) messages (wires addresses) w (to_port setup others which reply b)
  port_may w which reply b live does = ((tt, is_honest-tells (ipmb 44 32 0) (w.on Ipmb) (ReachesPort which reply) live), refl, does)

  manager_may : (w : World (family setup addresses) messages) (which : ℕ) → is_honest (ipmb 44 32 0) (w.on Ipmb) (ReachesManager which) ≡ true
      → MayHappen (family setup addresses) messages (wires addresses) w (to_manager setup others which)
  manager_may w which live = ((tt, is_honest-tells (ipmb 44 32 0) (w.on Ipmb) (ReachesManager which) live), refl)

  -- a request of these bytes is carried out
  does : (w : World (family setup addresses) messages) (bytes reply : List ℕ)
      → reply ≡ (wires addresses).reply_to Ipmb bytes (answer setup w.board (asked_from addresses Ipmb bytes)).0
      → BoardMay (family setup addresses) messages (wires addresses) Ipmb (Some (record { bytes = bytes; reply = reply })) w.board (answer setup w.board (asked_from addresses Ipmb bytes)).1
  does w bytes reply is = ((answer setup w.board (asked_from addresses Ipmb bytes)).0, is, has_answer setup w.board (asked_from addresses Ipmb bytes))

  is_quiet : (bus : Bus) → (messages bus).IsStart (quiet_messages bus)
  is_quiet Ipmb = (record { begun = refl; carried = refl; taken = refl; frames = refl }, tt)
  is_quiet Smbus = (record { begun = refl; carried = refl; taken = refl; frames = refl }, tt)

  is_valid : AllValid (family setup addresses) others → AllValid (family setup addresses) (with_others others)
  is_valid all key.PowerPolicy v e = subst IsPowerPolicy (same_Some _ _ e) (record { one = refl; known = lit≤ tt })
  is_valid all k v e = all k v e

  get_carried : MayHappen (family setup addresses) messages (wires addresses) (after setup others 1) (to_port setup others 0 (0x04 ∷ 0x00 ∷ 0x01 ∷ 0x00 ∷ 0x00 ∷ 0x00 ∷ 0x00 ∷ []) (board setup others))
  get_carried = port_may (after setup others 1) 0 (0x04 ∷ 0x00 ∷ 0x01 ∷ 0x00 ∷ 0x00 ∷ 0x00 ∷ 0x00 ∷ []) (board setup others) refl (does (after setup others 1) (0x00 ∷ 0x00 ∷ 0x01 ∷ []) (0x04 ∷ 0x00 ∷ 0x01 ∷ 0x00 ∷ 0x00 ∷ 0x00 ∷ 0x00 ∷ []) refl)

  set_carried : MayHappen (family setup addresses) messages (wires addresses) (after setup others 3) (to_port setup others 2 (0x04 ∷ 0x04 ∷ 0x06 ∷ 0x00 ∷ 0x07 ∷ []) (with_policy 1 (board setup others)))
  set_carried = port_may (after setup others 3) 2 (0x04 ∷ 0x04 ∷ 0x06 ∷ 0x00 ∷ 0x07 ∷ []) (with_policy 1 (board setup others)) refl (does (after setup others 3) (0x00 ∷ 0x04 ∷ 0x06 ∷ 0x01 ∷ []) (0x04 ∷ 0x04 ∷ 0x06 ∷ 0x00 ∷ 0x07 ∷ []) refl)

  set_repeats : MayHappen (family setup addresses) messages (wires addresses) (after setup others 5) (to_port setup others 2 [] (with_policy 1 (board setup others)))
  set_repeats = port_may (after setup others 5) 2 [] (with_policy 1 (board setup others)) refl (refl, λ series bodies ready. ready)

  undo_carried : MayHappen (family setup addresses) messages (wires addresses) (after setup others 7) (to_port setup others 5 (0x04 ∷ 0x08 ∷ 0x06 ∷ 0x00 ∷ 0x07 ∷ []) (with_policy 0 (with_policy 1 (board setup others))))
  undo_carried =
      port_may (after setup others 7) 5 (0x04 ∷ 0x08 ∷ 0x06 ∷ 0x00 ∷ 0x07 ∷ []) (with_policy 0 (with_policy 1 (board setup others))) refl (does (after setup others 7) (0x00 ∷ 0x08 ∷ 0x06 ∷ 0x00 ∷ []) (0x04 ∷ 0x08 ∷ 0x06 ∷ 0x00 ∷ 0x07 ∷ []) refl)

  pub ends_undone : EndsUndone setup others
  ends_undone = record {
    starts = λ all. record { on_bus = is_quiet; valid = is_valid all; ready = λ series. ready_at_first (addresses Smbus).manager series };
    may = (tt, (get_carried, (manager_may (after setup others 2) 1 refl, (set_carried, (manager_may (after setup others 4) 3 refl, (set_repeats, (tt, (undo_carried, (manager_may (after setup others 8) 6 refl, tt)))))))));
    sent = refl;
    set = refl;
    undone = refl;
  }
