-- The bytes are those of IPMB and of PLDM.
use Rattle.std.proofs.Common.{◌≡◌, ℕ, ◌+◌, ◌%◌, ◌<◌, refl, sym, subst, lit<, arith}
use Rattle.two_wire.specs.declared.Bus.{Bus}
use Rattle.record_base.specs.declared.message.Asked.{Asked}
use Rattle.record_base.specs.declared.message.Asked.TheVariants.{Ipmi, Pldm}
use Rattle.model_bus.specs.Bytes.{ipmb_reply, pldm_reply, IsRequestOn, IsReplyOn}
use Rattle.model_bus.specs.Answered.{Answered}
use Rattle.model_bus.specs.Addresses.{Addresses}
use Rattle.model_undo.specs.Wires.{number_of}
use Rattle.bmc_core.specs.Wires.{bus_of, bytes_of, reply_to}
use Rattle.model_lab.specs.WireLaws.{IsManagers, managers, upper, lower}
use Rattle.model_lab.specs.Spelled.{AreSpelled}

below_4 : (lun : ℕ) → lun ≡ 0 → lun < 4
below_4 lun is = subst (λ (n : ℕ). n < 4) (sym is) (lit< tt)

small : (n : ℕ) → n % 32 < 32
small n = omega arith

instance_back : (number : ℕ) → number < 32 → (128 + number) % 32 ≡ number
instance_back number below = omega (arith, below)

request : (at : Bus → Addresses) (n : ℕ) (asked : Asked) → IsManagers at asked → IsRequestOn (bus_of asked) (number_of (bus_of asked) n) (bytes_of (number_of (bus_of asked) n) asked)
request at n (Ipmi from net_fn lun command body) is = record {
  header = record { net_fn = net_fn; responder_lun = lun; requester_lun = 0; command = command };
  is_header = record { responder = below_4 lun is.1; requester = lit< tt };
  body = body;
  spelled = refl;
}
request at n (Pldm from kind command body) is = record {
  header = record { pldm_type = kind; command = command };
  instance = small n;
  body = body;
  spelled = refl;
}

reply : (at : Bus → Addresses) (n : ℕ) (asked : Asked) (a : Answered) → IsManagers at asked
    → IsReplyOn (bus_of asked) a.code (bytes_of (number_of (bus_of asked) n) asked) (reply_to (bus_of asked) (bytes_of (number_of (bus_of asked) n) asked) a)
reply at n (Ipmi from net_fn lun command body) a is = record {
  header = record { net_fn = net_fn; responder_lun = lun; requester_lun = 0; command = command };
  is_header = record { responder = below_4 lun is.1; requester = lit< tt };
  number = n % 64;
  request_body = body;
  body = a.body;
  request_spelled = refl;
  reply_spelled = λ i. ipmb_reply
      (record { net_fn = upper net_fn lun is.1 i; responder_lun = lower net_fn lun is.1 i; requester_lun = lower (n % 64) 0 refl i; command = command })
      (upper (n % 64) 0 refl i) a.code a.body;
}
reply at n (Pldm from kind command body) a is = record {
  header = record { pldm_type = kind; command = command };
  number = n % 32;
  instance = small n;
  request_body = body;
  body = a.body;
  request_spelled = refl;
  reply_spelled = λ i. pldm_reply (record { pldm_type = kind; command = command }) (instance_back (n % 32) (small n) i) a.code a.body;
}

pub are_spelled : (at : Bus → Addresses) → AreSpelled at
are_spelled at = record {
  requests = λ n asked made. request at n asked (managers at asked made);
  replies = λ n asked a made. reply at n asked a (managers at asked made);
}
