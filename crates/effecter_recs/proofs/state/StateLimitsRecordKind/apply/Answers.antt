use Rattle.std.proofs.Common.{◌≡◌, List, ℕ, Result, Ok, Err, subst, rules}
use Rattle.two_wire.specs.Codes.{pldm_invalid_state}
use Rattle.record_base.specs.Meaning.{DecidesValue}
use Rattle.effecter_recs.specs.State.{SetsStates, state_outcome}
use Rattle.effecter_recs.specs.StateLaws.{record_laws}
use Rattle.effecter_recs.proofs.state.StateLimitsRecordKind.apply.Goals as goal

pub returns-then-not-are_states-clause-decides : goal.returns-then-not-are_states-clause-decides
returns-then-not-are_states-clause-decides c =
    let effecter = c.args.self.now in
    let refused : state_outcome effecter c.args.op.now c.args.value.now ≡ Err pldm_invalid_state = search rules in
    subst (λ (r : Result (List ℕ) ℕ). DecidesValue r (SetsStates effecter c.args.op.now c.args.value.now)) refused ((record_laws effecter).decides c.args.op.now c.args.value.now)

pub returns-clause-decides : goal.returns-clause-decides
returns-clause-decides c =
    let effecter = c.args.self.now in
    let made : state_outcome effecter c.args.op.now c.args.value.now ≡ Ok c.replace.new.self = search rules in
    subst (λ (r : Result (List ℕ) ℕ). DecidesValue r (SetsStates effecter c.args.op.now c.args.value.now)) made ((record_laws effecter).decides c.args.op.now c.args.value.now)
