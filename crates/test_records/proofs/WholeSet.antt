-- What comes of each Set computes.
use Rattle.std.proofs.Common.{◌≡◌, ℕ, List, [], ◌∷◌, Option, Some, Result, ap}
use Rattle.record_base.specs.declared.key.Key.TheVariants as key
use Rattle.record_base.specs.declared.live.Live.{Live as LivePart}
use Rattle.record_base.specs.declared.op.Op.{Op}
use Rattle.record_base.specs.declared.op.Op.TheVariants as op
use Rattle.cfg_records.specs.declared.board_file.BoardFile.{BoardFile}
use Rattle.cfg_records.specs.Records.{Records}
use Rattle.watch_boot.specs.Watchdog.{watchdog_in}
use Rattle.record_kinds.specs.declared.limits.Limits.TheVariants as limits
use Rattle.record_kinds.specs.Replies.{unknown_code}
use Rattle.record_kinds.specs.Sets.{outcome_among, set_outcome, set_given, records_set, live_set}
use Rattle.test_records.specs.WholeSet.{HasSettings, counting, SetLeaves, SetsWhole}

module _ (setup : BoardFile) (records : Records) (live : LivePart) (has : HasSettings records) where
  -- what a Set makes of the settings
  abbrev made_of : Op → Result (List ℕ) ℕ
  made_of set = set_outcome (Some (limits.Watchdog (record {}))) (Some (0x04 ∷ 0x01 ∷ 0x0A ∷ 0xB8 ∷ 0x0B ∷ [])) (unknown_code setup key.Watchdog) set

  leaves : (body : List ℕ) → let set = op.Watchdog (watchdog_in body) in SetLeaves setup records live body (set_given (made_of set) set) (records_set (made_of set) set records) (live_set (made_of set) set (counting live))
  leaves body =
      let set = op.Watchdog (watchdog_in body) in
      let makes : outcome_among setup records set ≡ made_of set = ap (λ (v : Option (List ℕ)). set_outcome (Some (limits.Watchdog (record {}))) v (unknown_code setup key.Watchdog) set) has in
      record {
        answered = ap (λ (r : Result (List ℕ) ℕ). set_given r set) makes;
        kept = ap (λ (r : Result (List ℕ) ℕ). records_set r set records) makes;
        goes_on = ap (λ (r : Result (List ℕ) ℕ). live_set r set (counting live)) makes;
      }

  pub sets_whole : SetsWhole setup records live
  sets_whole = record {
    runs_on = leaves (0xC4 ∷ 0x11 ∷ 0x05 ∷ 0x10 ∷ 0x70 ∷ 0x17 ∷ []);
    stops = leaves (0x04 ∷ 0x11 ∷ 0x05 ∷ 0x10 ∷ 0x70 ∷ 0x17 ∷ []);
    no_use = leaves (0xC0 ∷ 0x11 ∷ 0x05 ∷ 0x10 ∷ 0x70 ∷ 0x17 ∷ []);
  }
