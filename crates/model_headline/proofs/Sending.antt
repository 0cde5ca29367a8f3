-- The frames of a request of the manager are held by the model's frame of it.
use Rattle.std.proofs.Common.{lit<, ◌≡◌, ℕ, suc, zero, ◌+◌, ◌*◌, ◌/◌, ◌%◌, ◌<◌, ◌≤◌, Bool, true, false, cond, ◌&&◌, ◌||◌, leb, List, [], ◌∷◌, length, map, Option, Some, None, refl, sym, ◌∙◌, ap, subst, arith, inl, inr}
use Rattle.std.specs.Prelude.{◌==◌, slice_get, Ok, Err}
use Rattle.std.specs.Option.{option_map}
use Rattle.std.proofs.lemmas.Bool.{leb-true, eqb-true, eq-eqb}
use Rattle.std.proofs.lemmas.Option.{same_Some, none-some, slice_get-map}
use Rattle.two_wire.specs.declared.Bus.{Bus}
use Rattle.two_wire.specs.declared.Bus.TheVariants.{Ipmb, Smbus}
use Rattle.mctp_net.specs.declared.packet.Packet.{Packet}
use Rattle.mctp_net.specs.declared.message.Message.{Message}
use Rattle.mctp_net.specs.Sizes.{unit_size}
use Rattle.mctp_net.specs.Cut.{piece}
use Rattle.mctp_net.specs.Assembly.{name_of}
use Rattle.pldm_base.specs.declared.message.PldmRequest.{PldmRequest}
use Rattle.pldm_base.specs.Message.{IsRequest}
use Rattle.pldm_base.proofs.InBytes.{request-in_back}
use Rattle.record_base.specs.declared.message.Asked.{Asked}
use Rattle.record_base.specs.declared.message.Asked.TheVariants.{Ipmi, Pldm}
use Rattle.cfg_records.specs.declared.board_file.BoardFile.{BoardFile}
use Rattle.record_base.specs.declared.op.Op.{Op}
use Rattle.bios_attr.specs.EntryParts.{is_in_parts, part_at, first_request, request_at, alone_at}
use Rattle.record_kinds.specs.Limits.{get_asked}
use Rattle.record_kinds.specs.Series.{set_whole}
use Rattle.bmc_board.specs.Table.{is_pldm_type, pldm_line_of}
use Rattle.bmc_board.specs.Request.{Request as BoardRequest, asked_by, asked_at, pldm_refusals}
use Rattle.bmc_board.proofs.Decoded.{gets_are_read, sets_are_read}
use Rattle.model_bus.specs.Repeat.{In}
use Rattle.model_bus.specs.Packet.{Packet as ModelPacket, packets_of, packets_from}
use Rattle.model_bus.specs.BusState.{Frame, Ask, request_of}
use Rattle.model_bus.specs.Bytes.{request_in}
use Rattle.model_bus.specs.Request.{Request as Heard}
use Rattle.model_bus.specs.Assembly.{Name}
use Rattle.model_bus.specs.PacketBus.{rules_of, request_name}
use Rattle.model_bus.proofs.Cutting.{cuts_all}
use Rattle.model_undo.specs.Wires.{number_of, IsMade}
use Rattle.model_bus.specs.Addresses.{Addresses}
use Rattle.model_undo.specs.World.{States}
use Rattle.bmc_core.specs.Wires.{bus_of, bytes_of, reply_to}
use Rattle.model_lab.specs.ManagerWords.{from_manager, manager_words}
use Rattle.model_bus.specs.Answered.{Answered}
use Rattle.model_lab.proofs.Spelled.{are_spelled}
use Rattle.model_lab.specs.WireLaws.{managers, read_back, upper, lower}
use Rattle.bmc_core.specs.Seen.{seen, seen_name}
use Rattle.undo_plans.specs.declared.names.Names.{Names}
use Rattle.bmc_core.specs.Values.{Value, Part, parts_of}
use Rattle.model_lab.specs.ManagerSteps.{addresses, values_of}
use Rattle.model_lab.specs.declared.way.Way.TheVariants.{ToPort}
use Rattle.model_lab.specs.Lab.{LabFrame}
use Rattle.bmc_core.proofs.Parts.{parts_are_cuts}
use Rattle.model_headline.specs.Each.{Each}
use Rattle.model_headline.proofs.Each.{each_map, each_by_place}
use Rattle.model_headline.proofs.Series.{mapped, alone_is, IsOfAll, made_so}
use Rattle.model_headline.specs.Tied.{own_lines, smbus_bus, IsHeld, requests}

-- ---- types of PLDM

of_type : (kind : ℕ) → is_pldm_type kind ≡ true → kind < 64
of_type kind t = by (kind == 0) (kind == 2) (kind == 3) refl refl refl t
  where
    by : (a b c : Bool) → (kind == 0) ≡ a → (kind == 2) ≡ b → (kind == 3) ≡ c → (a || b || c) ≡ true → kind < 64
    by true b c e f g t = let is : kind ≡ 0 = eqb-true _ _ e in omega arith
    by false true c e f g t = let is : kind ≡ 2 = eqb-true _ _ f in omega arith
    by false false true e f g t = let is : kind ≡ 3 = eqb-true _ _ g in omega arith
    by false false false e f g t = absurd cc

-- the type of a request of PLDM fits in six bits
abbrev HasType : Asked → Type 0
HasType (Ipmi from net_fn lun command body) = Unit {0}
HasType (Pldm from kind command body) = kind < 64

read_type : (asked : Asked) (r : BoardRequest) → asked_by asked ≡ Ok r → HasType asked
read_type (Ipmi from net_fn lun command body) r e = tt
read_type (Pldm from kind command body) r e = by (is_pldm_type kind) refl e
  where
    by : (t : Bool) → is_pldm_type kind ≡ t → cond t (asked_at from pldm_refusals (pldm_line_of kind command) body) (Err 32) ≡ Ok r → kind < 64
    by true t e = of_type kind t
    by false t e = absurd cc

from_type : (at : Bus → Addresses) (asked : Asked) → HasType asked → HasType (from_manager at asked)
from_type at (Ipmi from net_fn lun command body) h = tt
from_type at (Pldm from kind command body) h = h

first_type : (asked : Asked) → HasType asked → HasType (first_request asked)
first_type (Ipmi from net_fn lun command body) h = tt
first_type (Pldm from kind command body) h = h

later_type : (asked : Asked) (place : ℕ) (next : Asked) → HasType asked → request_at asked place ≡ Some next → HasType next
later_type (Ipmi from net_fn lun command body) place next h e = subst HasType (alone_is (Ipmi from net_fn lun command body) place next e).1 tt
later_type (Pldm from kind command body) place next h e = by (is_in_parts (Pldm from kind command body)) e
  where
    by : (t : Bool) → cond t (option_map (Pldm from kind command) (part_at body place)) (alone_at (Pldm from kind command body) place) ≡ Some next → HasType next
    by true e = subst HasType (mapped (Pldm from kind command) (part_at body place) next e).2 h
    by false e = subst HasType (alone_is (Pldm from kind command body) place next e).1 h

whole_type : (o : Op) → HasType (set_whole o)
whole_type o = read_type (set_whole o) _ (sets_are_read o).is_read

all_types : IsOfAll HasType
all_types = record {
  gets = λ k. read_type (get_asked k) _ (gets_are_read k).is_read;
  get_parts = λ handle transfer. lit< tt;
  sets = λ o. first_type (set_whole o) (whole_type o);
  set_parts = λ o place next e. later_type (set_whole o) place next (whole_type o) e;
}

pub made_type : (at : Bus → Addresses) (asked : Asked) → IsMade (manager_words at) asked → HasType asked
made_type at asked made = made_so at HasType all_types (from_type at) asked made

-- ---- packets

stands_in : {X : Type 0} (xs : List X) (n : ℕ) (x : X) → slice_get xs n ≡ Some x → In x xs
stands_in [] n x e = absurd (none-some x e)
stands_in (y ∷ ys) zero x e = inl (same_Some _ _ e)
stands_in (y ∷ ys) (suc n) x e = inr (stands_in ys n x e)

-- each packet of a message that can be cut has at most 64 bytes
pub small_packet : (bytes : List ℕ) (n : ℕ) (q : ModelPacket) → slice_get (packets_of bytes) n ≡ Some q → length q.payload ≤ 64
small_packet bytes n q e = by (leb (length bytes) 256) refl
  where
    by : (t : Bool) → leb (length bytes) 256 ≡ t → length q.payload ≤ 64
    by true t = (cuts_all bytes (leb-true _ _ t)).1 q (stands_in (packets_of bytes) n q e)
    by false t = absurd (none-some q (sym (ap (λ (b : Bool). slice_get (cond b (packets_from 4 0 bytes) []) n) t) ∙ e))

-- a message of which there is a packet can be cut
fits_packets : (bytes : List ℕ) (n : ℕ) (q : ModelPacket) → slice_get (packets_of bytes) n ≡ Some q → length bytes ≤ 256
fits_packets bytes n q e = by (leb (length bytes) 256) refl
  where
    by : (t : Bool) → leb (length bytes) 256 ≡ t → length bytes ≤ 256
    by true t = leb-true _ _ t
    by false t = absurd (none-some q (sym (ap (λ (b : Bool). slice_get (cond b (packets_from 4 0 bytes) []) n) t) ∙ e))

-- a message's packet at a place is the model's there
pub part_seen : (m : Message) (n : ℕ) (p : Packet) → slice_get (parts_of m) n ≡ Some p → slice_get (packets_of m.body) n ≡ Some (seen (piece p))
part_seen m n p e =
    ap (λ (ps : List ModelPacket). slice_get ps n) (sym (parts_are_cuts.seen_so m))
    ∙ slice_get-map (λ (p : Packet). seen (piece p)) (parts_of m) n
    ∙ ap (option_map (λ (p : Packet). seen (piece p))) e

pub small_part : (m : Message) (n : ℕ) (p : Packet) → slice_get (parts_of m) n ≡ Some p → length p.payload ≤ unit_size
small_part m n p e = small_packet m.body n (seen (piece p)) (part_seen m n p e)

-- and has its envelope
pub part_envelope : (m : Message) (n : ℕ) (p : Packet) → slice_get (parts_of m) n ≡ Some p → p.envelope ≡ m.envelope
part_envelope m n p e =
    by (slice_get (packets_of m.body) n) (sym (slice_get-map (λ (q : ModelPacket). let r : Packet = record { envelope = m.envelope; start = q.first; end = q.last; sequence = q.sequence; payload = q.payload } in r) (packets_of m.body) n) ∙ e)
  where
    by : (o : Option ModelPacket) → option_map (λ (q : ModelPacket). let r : Packet = record { envelope = m.envelope; start = q.first; end = q.last; sequence = q.sequence; payload = q.payload } in r) o ≡ Some p → p.envelope ≡ m.envelope
    by None e = absurd (none-some p e)
    by (Some q) e = ap (λ (r : Packet). r.envelope) (sym (same_Some _ _ e))

-- ---- what is sent

pub from_zero : (n : ℕ) → n ≡ 0 + n
from_zero n = omega arith

high_bits : (n : ℕ) → n < 64 → n / 64 ≡ 0
high_bits n below = omega (arith, below)

request_bits : (n : ℕ) → (128 + n % 32) / 64 ≡ 2
request_bits n = omega arith

below_32 : (n : ℕ) → n % 32 < 32
below_32 n = omega arith

instance_back : (n : ℕ) → (128 + n % 32) % 32 ≡ n % 32
instance_back n = omega arith

-- the bytes of the response to a request of logical unit 0
responded : (net_fn lun number command : ℕ) (body : List ℕ) → lun ≡ 0 → (a : Answered)
    → (4 * (net_fn + 1) + 0) ∷ (4 * number + lun) ∷ command ∷ a.code ∷ a.body ≡ reply_to Ipmb ((4 * net_fn + lun) ∷ (4 * number + 0) ∷ command ∷ body) a
responded net_fn lun number command body none a = λ i.
    (4 * (sym (upper net_fn lun none) i + 1) + sym (lower number 0 refl) i) ∷ (4 * sym (upper number 0 refl) i + sym (lower net_fn lun none) i) ∷ command ∷ a.code ∷ a.body

module _ (setup : BoardFile) (names : Names) (now : States (own_lines setup names)) (which count idles : ℕ) (g : Frame) where
  -- a frame of the lab that is sent to the port with the request
  abbrev pub to_port : Bus → Value → LabFrame
  to_port on value = record { on = on; way = ToPort; request = count; idles = idles; value = value }

  abbrev named_by : ℕ → Name
  named_by n = record { source = names.own_eid; owner = true; tag = n % 8 }

  -- the bus model's request in the message of a request of PLDM
  reads : (from kind command : ℕ) (body : List ℕ) → kind < 64
      → request_in names.own_eid (bytes_of (count % 32) (Pldm from kind command body)) ≡ Some (request_of (rules_of (smbus_bus setup names)) count (bytes_of (count % 32) (Pldm from kind command body)))
  reads from kind command body small =
      let none : Option Heard = None in
      ap (λ (t : Bool). cond (t && ((128 + count % 32) / 64 == 2)) (Some (record { requester = names.own_eid; number = (128 + count % 32) % 32; bytes = 1 ∷ (128 + (128 + count % 32) % 32) ∷ kind ∷ command ∷ body })) none) (eq-eqb _ _ (high_bits kind small))
      ∙ ap (λ (t : Bool). cond t (Some (record { requester = names.own_eid; number = (128 + count % 32) % 32; bytes = 1 ∷ (128 + (128 + count % 32) % 32) ∷ kind ∷ command ∷ body })) none) (eq-eqb _ _ (request_bits count))
      ∙ ap (λ (n : ℕ). Some (record { requester = names.own_eid; number = n; bytes = 1 ∷ (128 + n) ∷ kind ∷ command ∷ body })) (instance_back count)
      ∙ ap (λ (n : ℕ). Some (record { requester = names.own_eid; number = n % 32; bytes = bytes_of (count % 32) (Pldm from kind command body) })) (from_zero count)

  -- the request of PLDM that a message holds
  abbrev pldm_of : ℕ → ℕ → List ℕ → PldmRequest
  pldm_of kind command body = record { header = record { instance = count % 32; pldm_type = kind; command = command }; body = body }

  spells : (kind command : ℕ) (body : List ℕ) → kind < 64 → length (1 ∷ (128 + count % 32) ∷ kind ∷ command ∷ body) ≤ 256 → IsRequest (pldm_of kind command body) ((128 + count % 32) ∷ kind ∷ command ∷ body)
  spells kind command body small fits = (0, record { bit = lit< tt; header = record { instance = below_32 count; pldm_type = small }; fits = omega (arith, fits); spelled = refl })

  pub request_held : (asked : Asked) → IsMade (manager_words (addresses names)) asked → slice_get (requests setup names now (bus_of asked)).frames which ≡ Some g
      → g.request ≡ count → g.idles ≡ idles → g.content ≡ Ask (bytes_of (number_of (bus_of asked) count) asked)
      → Each (IsHeld setup names now) (map (to_port (bus_of asked)) (values_of names count asked))
  request_held (Ipmi from net_fn lun command body) made sent request same asks =
      let asked : Asked = Ipmi from net_fn lun command body in
      let own = managers (addresses names) asked made in (
        record {
          which = which;
          frame = g;
          is_of = record { sent = sent; request = request; idles = same };
          request = record {
            header = record {
              responder = record { address = names.peer_address; lun = lun };
              requester = record { address = names.own_address; lun = 0 };
              net_fn = net_fn;
              sequence = number_of Ipmb count;
              command = command;
            };
            body = body;
          };
          value = refl;
          bytes = bytes_of (number_of Ipmb count) asked;
          asks = asks;
          heard = ap (λ (n : ℕ). let h : Heard = record { requester = names.own_address; number = n % 64; bytes = bytes_of (number_of Ipmb count) asked } in h) (sym request ∙ from_zero g.request);
          to_port = refl;
          read = read_back (addresses names) (number_of Ipmb count) asked own ∙ ap (λ (n : ℕ). Ipmi n net_fn lun command body) own.0;
          number = number_of Ipmb count;
          spelled = (are_spelled (addresses names)).requests count asked made;
          responds = λ a. responded net_fn lun (number_of Ipmb count) command body own.1 a;
          from_manager = refl;
        },
        tt,
      )
  request_held (Pldm from kind command body) made sent request same asks =
      let asked : Asked = Pldm from kind command body in
      let m : Message = record {
        envelope = record {
          destination = names.peer_wire;
          source = names.own_wire;
          destination_eid = names.peer_eid;
          source_eid = names.own_eid;
          tag_owner = true;
          tag = count % 8;
        };
        body = bytes_of (number_of Smbus count) asked;
      } in
      each_map (to_port Smbus) (IsHeld setup names now) (map Part (parts_of m))
      (each_map Part (λ (v : Value). IsHeld setup names now (to_port Smbus v)) (parts_of m)
      (each_by_place (λ (p : Packet). IsHeld setup names now (to_port Smbus (Part p))) (parts_of m)
      (λ n p at. record {
        which = which;
        place = n;
        packet = p;
        value = refl;
        part = record {
          frame = g;
          bytes = bytes_of (number_of Smbus count) asked;
          sent = sent;
          asks = asks;
          part = part_seen m n p at;
          named = ap (λ e. seen_name (name_of e)) (part_envelope m n p at) ∙ ap named_by (from_zero count) ∙ ap (request_name (smbus_bus setup names)) (sym request);
          read = reads from kind command body (made_type (addresses names) asked made) ∙ ap (λ (k : ℕ). Some (request_of (rules_of (smbus_bus setup names)) k (bytes_of (count % 32) asked))) (sym request);
        };
        same_request = request;
        same_idles = same;
        small = small_part m n p at;
        to_port = ap (λ e. e.destination) (part_envelope m n p at);
        from_manager = ap (λ e. e.source) (part_envelope m n p at);
        request = pldm_of kind command body;
        rest = (128 + count % 32) ∷ kind ∷ command ∷ body;
        typed = refl;
        says = request-in_back (pldm_of kind command body) ((128 + count % 32) ∷ kind ∷ command ∷ body) (spells kind command body (made_type (addresses names) asked made) (fits_packets m.body n _ (part_seen m n p at)));
        heard = ap (λ (k : ℕ). let h : Heard = record { requester = names.own_eid; number = k % 32; bytes = bytes_of (count % 32) asked } in h) (from_zero count ∙ ap (λ (k : ℕ). 0 + k) (sym request));
        reads = refl;
        number = number_of Smbus count;
        spelled = (are_spelled (addresses names)).requests count asked made;
      })))
