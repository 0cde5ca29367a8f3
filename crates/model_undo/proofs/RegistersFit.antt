-- What the registers are asked and reply is short enough to be cut.
use Rattle.std.proofs.Common.{ℕ, ◌≤◌, List, [], ◌∷◌, length, Option, Some, None, eqb, subst, sym, lit≤, arith}
use Rattle.std.specs.Prelude.{slice_get, slice_set}
use Rattle.std.proofs.lemmas.Bool.{cond_both}
use Rattle.two_wire.specs.Codes.{success, invalid_data_field}
use Rattle.two_wire.specs.declared.Bus.{Bus}
use Rattle.two_wire.specs.declared.Bus.TheVariants.{Ipmb, Smbus}
use Rattle.model_bus.specs.Packet.{packets_of}
use Rattle.model_bus.proofs.Cutting.{cuts_all}
use Rattle.model_bus.specs.Answered.{Answered}
use Rattle.model_bus.specs.Addresses.{Addresses}
use Rattle.model_undo.specs.TwoBuses.{with_packets, packets_come}
use Rattle.model_undo.specs.Clean.{AnswersByRow}
use Rattle.model_undo.specs.CleanBuses.{AllCanBeSent}
use Rattle.model_undo.specs.Registers.{Halves, Write, Asked, AskGet, AskSet, Board, is_valid, written, replied, get_answer, set_answer, answer, bytes_of, register_words, registers, wires}

can_send : (at : Bus → Addresses) (bus : Bus) (bytes : List ℕ) → length bytes ≤ 256 → (packets_come at packets_of bus).CanSend bytes
can_send at Ipmb bytes short = tt
can_send at Smbus bytes short = (cuts_all bytes short).0

asked_short : (number : ℕ) (asked : Asked) → length (bytes_of number asked) ≤ 256
asked_short number (AskGet register) = lit≤ tt
asked_short number (AskSet w) = lit≤ tt

abbrev IsShort : Answered → Type 0
IsShort a = length a.body ≤ 3

get_short : (register : ℕ) (o : Option Halves) (requests : ℕ) → IsShort (get_answer register o requests)
get_short register None requests = lit≤ tt
get_short register (Some v) requests =
    cond_both (eqb register 2) (v.high ∷ requests ∷ []) (v.high ∷ v.low ∷ requests ∷ []) (λ (l : List ℕ). length l ≤ 3) (λ _. lit≤ tt) (λ _. lit≤ tt)

set_short : (w : Write) (o : Option Halves) (r : List Halves) → IsShort (set_answer w o r).0
set_short w None r = lit≤ tt
set_short w (Some v) r =
    cond_both (is_valid (written w v)) (replied success [], slice_set r w.register (written w v)) (replied invalid_data_field [], r) (λ (x : Answered × List Halves). IsShort x.0) (λ _. lit≤ tt) (λ _. lit≤ tt)

answer_short : (b : Board) (asked : Asked) → IsShort (answer b asked).0
answer_short b (AskGet register) = get_short register (slice_get b.registers register) b.requests
answer_short b (AskSet w) = set_short w (slice_get b.registers w.register) b.registers

pub registers_fit : (at : Bus → Addresses) (reply : Board → Asked → Answered × Board) → AnswersByRow registers reply → AllCanBeSent registers (with_packets at packets_of) (packets_come at packets_of) wires reply
registers_fit at reply by_row = record {
  requests = λ number asked made. can_send at (register_words.bus_of asked) (wires.bytes_of number asked) (asked_short number asked);
  answers = λ number asked b valid made.
      let short : IsShort (reply b asked).0 = subst IsShort (sym (by_row b asked).0) (answer_short b asked) in
      can_send at (register_words.bus_of asked) (wires.reply_to (register_words.bus_of asked) (wires.bytes_of number asked) (reply b asked).0) (omega arith);
}
