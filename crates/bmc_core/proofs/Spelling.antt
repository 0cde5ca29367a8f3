-- Requests and replies are those of the model of a bus.
use Rattle.std.proofs.Common.{◌≡◌, ℕ, ◌+◌, ◌*◌, ◌/◌, ◌%◌, ◌<◌, List, refl, ◌∙◌, ap, lit<, arith}
use Rattle.two_wire.specs.declared.Bus.{Bus}
use Rattle.two_wire.specs.declared.Bus.TheVariants.{Ipmb, Smbus}
use Rattle.record_base.specs.declared.message.Asked.{Asked}
use Rattle.record_base.specs.declared.message.Asked.TheVariants.{Ipmi, Pldm}
use Rattle.model_bus.specs.Bytes.{ipmb_reply, pldm_reply, IsRequestOn, IsReplyOn, IsIpmbRequest, IsIpmbReply, IsPldmRequest, IsPldmReply}
use Rattle.model_bus.specs.Answered.{Answered}
use Rattle.bmc_core.specs.Wires.{bus_of, bytes_of, reply_to}
use Rattle.bmc_core.specs.Bytes.{UnitFits, IsNumber, AreTheModels}

high : (n lun : ℕ) → lun < 4 → (4 * n + lun) / 4 ≡ n
high n lun below = omega (arith, below)

low : (n lun : ℕ) → lun < 4 → (4 * n + lun) % 4 ≡ lun
low n lun below = omega (arith, below)

instance_back : (number : ℕ) → number < 32 → (128 + number) % 32 ≡ number
instance_back number below = omega (arith, below)

request : (number : ℕ) (asked : Asked) → UnitFits asked → IsNumber (bus_of asked) number → IsRequestOn (bus_of asked) number (bytes_of number asked)
request number (Ipmi from net_fn lun command body) fits is = record {
  header = record { net_fn = net_fn; responder_lun = lun; requester_lun = 0; command = command };
  is_header = record { responder = fits; requester = lit< tt };
  body = body;
  spelled = refl;
}
request number (Pldm from kind command body) fits is = record { header = record { pldm_type = kind; command = command }; instance = is; body = body; spelled = refl }

ipmb_reply_is : (number : ℕ) (bytes : List ℕ) (a : Answered) → IsIpmbRequest number bytes → IsIpmbReply a.code bytes (reply_to Ipmb bytes a)
ipmb_reply_is number bytes a r =
    let h = r.header in
    record {
      header = h;
      is_header = r.is_header;
      number = number;
      request_body = r.body;
      body = a.body;
      request_spelled = r.spelled;
      reply_spelled = ap (λ (x : List ℕ). reply_to Ipmb x a) r.spelled
          ∙ (λ i. ipmb_reply
          (record { net_fn = high h.net_fn h.responder_lun r.is_header.responder i; responder_lun = low h.net_fn h.responder_lun r.is_header.responder i; requester_lun = low number h.requester_lun r.is_header.requester i; command = h.command })
          (high number h.requester_lun r.is_header.requester i) a.code a.body);
    }

pldm_reply_is : (number : ℕ) (bytes : List ℕ) (a : Answered) → IsPldmRequest number bytes → IsPldmReply a.code bytes (reply_to Smbus bytes a)
pldm_reply_is number bytes a r = record {
  header = r.header;
  number = number;
  instance = r.instance;
  request_body = r.body;
  body = a.body;
  request_spelled = r.spelled;
  reply_spelled = ap (λ (x : List ℕ). reply_to Smbus x a) r.spelled ∙ (λ i. pldm_reply r.header (instance_back number r.instance i) a.code a.body);
}

reply : (on : Bus) (number : ℕ) (bytes : List ℕ) (a : Answered) → IsRequestOn on number bytes → IsReplyOn on a.code bytes (reply_to on bytes a)
reply Ipmb number bytes a r = ipmb_reply_is number bytes a r
reply Smbus number bytes a r = pldm_reply_is number bytes a r

pub are_the_models : AreTheModels
are_the_models = record { request = request; reply = reply }
