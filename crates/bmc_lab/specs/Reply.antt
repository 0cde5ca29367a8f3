-- The reply that frames carry.
use Rattle.std.specs.Prelude.{◌≡◌, ℕ, List, [], ◌∷◌, ◌++◌, codes}
use Rattle.std.specs.List.{AllZip, flat_map}
use Rattle.hex.specs.Hex.{encode_upper}
use Rattle.two_wire.specs.declared.Bus.{Bus}
use Rattle.two_wire.specs.declared.Bus.TheVariants.{Ipmb, Smbus}
use Rattle.ipmb_frame.specs.declared.message.Response.{Response}
use Rattle.ipmb_frame.specs.Grammar.{IsResponse}
use Rattle.mctp_net.specs.declared.packet.Packet.{Packet}
use Rattle.mctp_net.specs.Grammar.{IsPacket}
use Rattle.pldm_base.specs.declared.message.PldmReply.{PldmReply}
use Rattle.pldm_base.specs.Message.{IsReply}
use Rattle.model_bus.specs.Bytes.{pldm_message_type}
use Rattle.report_words.specs.CodeNames.{code_words}

-- the frame is a response with this code and these data
pub record IsIpmiReply (frames : List (List ℕ)) (code : ℕ) (body : List ℕ) : Type 0 where
  pub frame : List ℕ
  pub alone : frames ≡ frame ∷ []
  pub response : Response
  pub read : IsResponse response frame
  pub coded : response.code ≡ code
  pub shown : response.body ≡ body

-- the frames are packets, and these are the bytes that they carry together
abbrev pub AreCarried : (frames : List (List ℕ)) → (message : List ℕ) → Type 0
AreCarried frames message = (packets : List Packet) × AllZip IsPacket packets frames × (message ≡ flat_map (λ packet. packet.payload) packets)

-- the bytes are a message of PLDM: a reply with this code and these data
pub record IsReplyMessage (message : List ℕ) (code : ℕ) (body : List ℕ) : Type 0 where
  pub bytes : List ℕ
  pub typed : message ≡ pldm_message_type ∷ bytes
  pub reply : PldmReply
  pub read : IsReply reply bytes
  pub coded : reply.code ≡ code
  pub shown : reply.body ≡ body

-- the frames are packets, and what they carry together is such a message
pub record IsPldmReply (frames : List (List ℕ)) (code : ℕ) (body : List ℕ) : Type 0 where
  pub message : List ℕ
  pub joined : AreCarried frames message
  pub says : IsReplyMessage message code body

-- the frames on the bus carry a reply with this code and these data
abbrev pub IsReplyIn : Bus → (frames : List (List ℕ)) → (code : ℕ) → (body : List ℕ) → Type 0
IsReplyIn Ipmb frames code body = IsIpmiReply frames code body
IsReplyIn Smbus frames code body = IsPldmReply frames code body

-- ---- in words

-- a word, bytes in upper-case hexadecimal, and the line's end
abbrev pub bytes_line : (word bytes : List ℕ) → List ℕ
bytes_line word bytes = word ++ codes " " ++ encode_upper bytes ++ codes "\n"

-- the line of a reply's data, where it has some
abbrev pub data_line : List ℕ → List ℕ
data_line [] = []
data_line (byte ∷ bytes) = bytes_line (codes "data") (byte ∷ bytes)

-- the reply's code by its name, and its data
abbrev pub reply_lines : Bus → (code : ℕ) → (body : List ℕ) → List ℕ
reply_lines bus code body = codes "code " ++ code_words bus code ++ codes "\n" ++ data_line body
