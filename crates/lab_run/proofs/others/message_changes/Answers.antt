use Rattle.std.proofs.Common.{◌≡◌, ◌≤◌, ◌-◌, ◌==◌, ◌&&◌, ℕ, List, [], ◌∷◌, length, take, drop, get_or, Option, Some, None, Result, sym, ◌∙◌, ap, arith}
use Rattle.std.proofs.lemmas.List.{take_all}
use Rattle.pldm_base.specs.declared.message.PldmRequest.{PldmRequest}
use Rattle.pldm_base.specs.declared.fault.PldmFault.{PldmFault}
use Rattle.pldm_base.specs.Message.{request_in}
use Rattle.std.specs.Result.{result_ok}
use Rattle.model_bus.specs.Bytes.{pldm_message_type}
use Rattle.model_lab.specs.Faults.{message_changes, pldm_changes}
use Rattle.lab_run.proofs.others.message_changes.Goals as goal

-- a message of PLDM changes what the request that it reads as changes
as_read : (from : ℕ) (bytes rest : List ℕ) (found : Option PldmRequest) → 1 ≤ length bytes → get_or bytes 0 0 ≡ pldm_message_type → rest ≡ take (length bytes - 1) (drop 1 bytes)
    → request_in rest ≡ found → pldm_changes from found ≡ message_changes from bytes
as_read from [] rest found long type same read = absurd (omega (arith, long))
as_read from (kind ∷ bytes) rest found long type same read =
    let whole : rest ≡ bytes = same ∙ take_all (length (kind ∷ bytes) - 1) bytes (omega arith) in
    sym (ap (λ (k : ℕ). k == pldm_message_type && pldm_changes from (request_in bytes)) type ∙ ap (pldm_changes from) (ap request_in (sym whole) ∙ read))

pub returns-in-Ok : goal.returns-in-Ok
returns-in-Ok c =
    c.is_changing.ensures ∙ as_read c.args.from c.args.bytes.now c.new.result (Some c.in-Ok.request) c.in-len1-up.len_at_least c.if-kind-ne-PLDM_MESSAGE_TYPE.false c.new.ensures (sym c.in-Ok.ensures.value)

pub returns-in-Err : goal.returns-in-Err
returns-in-Err c =
    let read : request_in c.new.result ≡ None = sym c.read_pldm.ensures.value ∙ ap (λ (r : Result PldmRequest PldmFault). result_ok r) c.in-Err.is in
    as_read c.args.from c.args.bytes.now c.new.result None c.in-len1-up.len_at_least c.if-kind-ne-PLDM_MESSAGE_TYPE.false c.new.ensures read
