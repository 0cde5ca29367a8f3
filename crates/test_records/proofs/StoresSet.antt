-- What comes of each request computes.
use Rattle.std.proofs.Common.{◌≡◌, ℕ, List, [], ◌∷◌, Option, Some, Bool, Result, Err, if◌then◌else◌, refl, ap, ◌∙◌}
use Rattle.std.specs.Option.{option_map}
use Rattle.record_base.specs.Numbers.{channel_in, low_bits}
use Rattle.record_base.specs.declared.channel.AccessStore.{AccessStore}
use Rattle.record_base.specs.declared.channel.AccessStore.TheVariants.{NonVolatile, Volatile}
use Rattle.record_base.specs.declared.channel.Channel.{Channel}
use Rattle.record_base.specs.declared.channel.ChannelChange.TheVariants.{Access, Limit}
use Rattle.record_base.specs.declared.channel.SetChannelAccess.{SetChannelAccess}
use Rattle.record_base.specs.declared.op.Op.{Op}
use Rattle.record_base.specs.declared.op.Op.TheVariants as op
use Rattle.record_base.specs.declared.message.Answered.{Answered}
use Rattle.cfg_records.specs.declared.board_file.BoardFile.{BoardFile}
use Rattle.cfg_records.specs.Records.{Records}
use Rattle.user_chan.specs.ChannelRequests.{change}
use Rattle.record_kinds.specs.declared.limits.Limits.{Limits}
use Rattle.record_kinds.specs.declared.limits.Limits.TheVariants as limits
use Rattle.record_kinds.specs.Boards.{in_store_of}
use Rattle.record_kinds.specs.Limits.{key_of, limits_at}
use Rattle.record_kinds.specs.Replies.{sessionless_channel, unknown_code}
use Rattle.record_kinds.specs.Sets.{outcome_among, set_outcome, both_answered, both_set}
use Rattle.two_wire.specs.Codes.{invalid_data_field}
use Rattle.test_records.specs.StoresSet.{non_volatile, HasChannel, ChangesTogether}

-- a change of the access in the first store, and one of the limit in the second, by the bytes that name them
abbrev first : ℕ → ℕ → SetChannelAccess
first channel byte = change (channel_in channel) NonVolatile (Access (low_bits 6 byte))

abbrev second : ℕ → ℕ → SetChannelAccess
second channel byte = change (channel_in channel) Volatile (Limit (low_bits 6 byte))

-- what both leave and answer, by what each makes
abbrev both : Records → SetChannelAccess → SetChannelAccess → Result (List ℕ) ℕ → Result (List ℕ) ℕ → Option (Answered × Records)
both records one other made other_made = Some (both_answered made other_made, both_set made other_made (key_of (op.ChannelAccess one)) (key_of (op.ChannelAccess other)) records)

abbrev access_limits : Limits
access_limits = limits.ChannelAccess (record {})

module _ (setup : BoardFile) (records : Records) (has : HasChannel setup records) where
  -- a change makes of a store's value what its kind says
  makes : (op : Op) (old : List ℕ) → limits_at setup (key_of op) ≡ Some access_limits → records (key_of op) ≡ Some old
      → outcome_among setup records op ≡ set_outcome (Some access_limits) (Some old) (unknown_code setup (key_of op)) op
  makes op old at had =
      ap (λ (l : Option Limits). set_outcome l (records (key_of op)) (unknown_code setup (key_of op)) op) at
      ∙ ap (λ (v : Option (List ℕ)). set_outcome (Some access_limits) v (unknown_code setup (key_of op)) op) had

  abbrev limits_by : (store : AccessStore) → Option Channel → Option Limits
  limits_by store channel = option_map (λ c. access_limits) (in_store_of store channel)

  of_first : (byte : ℕ) → outcome_among setup records (op.ChannelAccess (first 2 byte)) ≡ set_outcome (Some access_limits) (Some (0x3A ∷ 0x03 ∷ [])) 0 (op.ChannelAccess (first 2 byte))
  of_first byte = makes (op.ChannelAccess (first 2 byte)) (0x3A ∷ 0x03 ∷ []) (ap (limits_by NonVolatile) has.there) has.first

  of_second : (byte : ℕ) → outcome_among setup records (op.ChannelAccess (second 2 byte)) ≡ set_outcome (Some access_limits) (Some (0x09 ∷ 0x05 ∷ [])) 0 (op.ChannelAccess (second 2 byte))
  of_second byte = makes (op.ChannelAccess (second 2 byte)) (0x09 ∷ 0x05 ∷ []) (ap (limits_by Volatile) has.there) has.second

  -- no store of a channel without sessions has a record
  of_none : (byte : ℕ) → outcome_among setup records (op.ChannelAccess (first 15 byte)) ≡ Err sessionless_channel
  of_none byte =
      ap (λ (l : Option Limits). set_outcome l (records (non_volatile 15)) (unknown_code setup (non_volatile 15)) (op.ChannelAccess (first 15 byte))) (ap (limits_by NonVolatile) has.no_fifteenth)
      ∙ ap (λ (b : Bool). Err (if b then sessionless_channel else invalid_data_field)) has.is_sessionless

  of_both : (one other : SetChannelAccess) (made other_made : Result (List ℕ) ℕ) → outcome_among setup records (op.ChannelAccess one) ≡ made → outcome_among setup records (op.ChannelAccess other) ≡ other_made
      → both records one other (outcome_among setup records (op.ChannelAccess one)) (outcome_among setup records (op.ChannelAccess other)) ≡ both records one other made other_made
  of_both one other made other_made is other_is =
      ap (λ (r : Result (List ℕ) ℕ). both records one other r (outcome_among setup records (op.ChannelAccess other))) is
      ∙ ap (λ (r : Result (List ℕ) ℕ). both records one other made r) other_is

  pub changes_together : ChangesTogether setup records
  changes_together = record {
    both = record { after = _; came = of_both (first 2 0x41) (second 2 0x82) _ _ (of_first 0x41) (of_second 0x82); in_first = refl; in_second = refl };
    second_refused = record { after = records; came = of_both (first 2 0x41) (second 2 0x86) _ _ (of_first 0x41) (of_second 0x86); in_first = has.first; in_second = has.second };
    first_refused = record { after = records; came = of_both (first 2 0x44) (second 2 0x82) _ _ (of_first 0x44) (of_second 0x82); in_first = has.first; in_second = has.second };
    no_sessions = record {
      after = records;
      came = ap (λ (r : Result (List ℕ) ℕ). both records (first 15 0x41) (second 15 0x82) r (outcome_among setup records (op.ChannelAccess (second 15 0x82)))) (of_none 0x41);
      in_first = has.first;
      in_second = has.second;
    };
  }
