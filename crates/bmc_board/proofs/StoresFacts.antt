-- A request that changes two stores changes both or neither.
use Rattle.std.proofs.Common.{◌≡◌, ◌≢◌, ℕ, List, Option, Some, None, Result, Ok, Err, ◌⊎◌, inl, inr, refl, subst, arith}
use Rattle.two_wire.specs.Codes.{success}
use Rattle.record_base.specs.Meaning.{IsRefusal}
use Rattle.record_base.specs.declared.op.Op.{Op}
use Rattle.record_base.specs.declared.op.Op.TheVariants as of_kind
use Rattle.cfg_records.specs.declared.board_file.BoardFile.{BoardFile}
use Rattle.record_kinds.specs.declared.limits.Limits.{Limits}
use Rattle.record_kinds.specs.Limits.{key_of, limits_at}
use Rattle.record_kinds.specs.LimitsLaws as laws
use Rattle.record_kinds.specs.Sets.{set_outcome}
use Rattle.bmc_board.specs.State.{State}
use Rattle.bmc_board.specs.Replies.{unknown_code}
use Rattle.bmc_board.specs.Answer.{outcome_at, both_given}
use Rattle.bmc_board.specs.Stores.{ChangesBoth, ChangesNeither, BothOrNone}
use Rattle.bmc_board.proofs.LiveFacts.{unknown_is_refused}

refused_as : (limits : Option Limits) (value : Option (List ℕ)) (unknown : ℕ) (op : Op) (code : ℕ) → IsRefusal unknown → set_outcome limits value unknown op ≡ Err code → IsRefusal code
refused_as (Some l) (Some old) unknown op code is e = (laws.record_laws l).refuses op old code e
refused_as (Some l) None unknown op code is e = let same : unknown ≡ code = cc in subst IsRefusal same is
refused_as None (Some old) unknown op code is e = let same : unknown ≡ code = cc in subst IsRefusal same is
refused_as None None unknown op code is e = let same : unknown ≡ code = cc in subst IsRefusal same is

refusal_at : (setup : BoardFile) (before : State) (op : Op) (code : ℕ) → outcome_at setup before op ≡ Err code → IsRefusal code
refusal_at setup before op code is = refused_as (limits_at setup (key_of op)) (before.records (key_of op)) (unknown_code setup (key_of op)) op code (unknown_is_refused setup (key_of op)) is

-- a refusal isn't success
fault_of : (code : ℕ) → IsRefusal code → code ≢ success
fault_of code is same = absurd (omega (arith, is.is_fault))

both_where : (setup : BoardFile) (before : State) (first second : Op) (a b : Result (List ℕ) ℕ) → outcome_at setup before first ≡ a → outcome_at setup before second ≡ b
    → ChangesBoth setup before first second (both_given a b (key_of first) (key_of second) before) ⊎ ChangesNeither before (both_given a b (key_of first) (key_of second) before)
both_where setup before first second (Ok new) (Ok other) p q = inl (record { new = new; other = other; first_made = p; second_made = q; replied = refl; left = refl })
both_where setup before first second (Ok new) (Err code) p q = inr (record { is_fault = fault_of code (refusal_at setup before second code q); left = refl })
both_where setup before first second (Err code) (Ok other) p q = inr (record { is_fault = fault_of code (refusal_at setup before first code p); left = refl })
both_where setup before first second (Err code) (Err later) p q = inr (record { is_fault = fault_of code (refusal_at setup before first code p); left = refl })

pub both_or_none : BothOrNone
both_or_none setup before first second =
    both_where setup before (of_kind.ChannelAccess first) (of_kind.ChannelAccess second) (outcome_at setup before (of_kind.ChannelAccess first)) (outcome_at setup before (of_kind.ChannelAccess second)) refl refl
