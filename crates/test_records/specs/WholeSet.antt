-- Set Watchdog Timer (IPMI 2.0), by the definitions of Sets: what the board answers, and what it leaves of its records and of its live part. It may
-- happen on every board whose watchdog runs with these settings.
use Rattle.std.specs.Prelude.{◌≡◌, ℕ, List, [], ◌∷◌, true, false, Some}
use Rattle.record_base.specs.declared.key.Key.TheVariants as key
use Rattle.record_base.specs.declared.live.Live.{Live as LivePart}
use Rattle.record_base.specs.declared.message.Answered.{Answered}
use Rattle.record_base.specs.declared.op.Op.TheVariants as op
use Rattle.cfg_records.specs.declared.board_file.BoardFile.{BoardFile}
use Rattle.cfg_records.specs.Records.{Records, with_record}
use Rattle.watch_boot.specs.Watchdog.{watchdog_in}
use Rattle.record_kinds.specs.Replies.{done, refused}
use Rattle.record_kinds.specs.Keeps.{answer_to, records_after, live_after}

-- The timer counts down for the operating system, with 12,345 tenths of a second left. It was to reset after 3,000, and the flags of two uses are set.
abbrev pub HasSettings : Records → Type 0
HasSettings records = records key.Watchdog ≡ Some (0x04 ∷ 0x01 ∷ 0x0A ∷ 0xB8 ∷ 0x0B ∷ [])

abbrev pub counting : LivePart → LivePart
counting live = record live { countdown = 12345; expired = 0x18; running = true }

-- the Set with these data is answered so, and leaves these records and this live part
pub record SetLeaves (setup : BoardFile) (records : Records) (live : LivePart) (body : List ℕ) (answer : Answered) (after : Records) (left : LivePart) : Type 0 where
  pub answered : answer_to setup records (op.Watchdog (watchdog_in body)) ≡ answer
  pub kept : records_after setup records (op.Watchdog (watchdog_in body)) ≡ after
  pub goes_on : live_after setup records (op.Watchdog (watchdog_in body)) (counting live) ≡ left

-- 6,000 tenths of a second for the operating system, a reset and an interrupt 5 seconds before; the flag of use 4 is cleared
pub record SetsWhole (setup : BoardFile) (records : Records) (live : LivePart) : Type 0 where
  -- without a log, and the timer isn't stopped
  pub runs_on : SetLeaves setup records live (0xC4 ∷ 0x11 ∷ 0x05 ∷ 0x10 ∷ 0x70 ∷ 0x17 ∷ []) (done []) (with_record records key.Watchdog (0x84 ∷ 0x11 ∷ 0x05 ∷ 0x70 ∷ 0x17 ∷ []))
      (record live { countdown = 6000; expired = 0x08; running = true })
  -- with a log, and the timer is stopped
  pub stops : SetLeaves setup records live (0x04 ∷ 0x11 ∷ 0x05 ∷ 0x10 ∷ 0x70 ∷ 0x17 ∷ []) (done []) (with_record records key.Watchdog (0x04 ∷ 0x11 ∷ 0x05 ∷ 0x70 ∷ 0x17 ∷ []))
      (record live { countdown = 6000; expired = 0x08; running = false })
  -- use 0 is none
  pub no_use : SetLeaves setup records live (0xC0 ∷ 0x11 ∷ 0x05 ∷ 0x10 ∷ 0x70 ∷ 0x17 ∷ []) (refused 0xCC) records (counting live)
