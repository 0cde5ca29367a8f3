-- A text of 400 bytes is set by three requests (DSP0247, "SetBIOSAttributeCurrentValue"), by the definitions of Sets in parts. It may happen on
-- every board that has such an attribute.
use Rattle.std.specs.Prelude.{◌≡◌, ℕ, List, [], ◌∷◌, take, replicate, map, true, false, Some, None, Ok}
use Rattle.std.proofs.Common.{lit≤}
use Rattle.record_base.specs.declared.attribute.Attribute.{Attribute}
use Rattle.record_base.specs.declared.attribute_range.AttributeRange.TheVariants.{Text}
use Rattle.record_base.specs.declared.attribute_range.TextLengths.{TextLengths}
use Rattle.record_base.specs.declared.key.Key.TheVariants as key
use Rattle.record_base.specs.declared.live.Live.{Live as LivePart}
use Rattle.record_base.specs.Attribute.{range_of}
use Rattle.cfg_records.specs.declared.board_file.BoardFile.{BoardFile}
use Rattle.cfg_records.specs.Records.{Records, with_record}
use Rattle.record_kinds.specs.declared.set_part.SetPart.{SetPart}
use Rattle.record_kinds.specs.declared.set_part.SetPart.TheVariants.{Start, Middle, End}
use Rattle.record_kinds.specs.PartData.{part_in}
use Rattle.record_kinds.specs.Stagings.{StagedParts}
use Rattle.record_kinds.specs.Boards.{attribute_at}
use Rattle.record_kinds.specs.Replies.{done, refused}
use Rattle.record_kinds.specs.Keeps.{settable}
use Rattle.record_kinds.specs.SetParts.{is_last, part_given_at}

-- the length 400 in two bytes, and 400 times `a`
abbrev pub value : List ℕ
value = 0x90 ∷ 0x01 ∷ replicate 400 0x61

-- the entry: attribute 1, a string
abbrev pub entry : List ℕ
entry = 0x01 ∷ 0x00 ∷ 0x01 ∷ value

-- its parts, of 192, 192 and 21 bytes
abbrev pub first : SetPart
first = Start (take 192 entry)

abbrev pub second : SetPart
second = Middle 192 (replicate 192 0x61)

abbrev pub third : SetPart
third = End 384 (replicate 21 0x61)

-- ---- the board

abbrev pub lengths : TextLengths
lengths = record { least = 0; most = 1024; few = lit≤ tt }

-- attribute 1 is a text of at most 1,024 bytes that can be set, and is `rack-1`; there is no attribute 9
pub record HasText (setup : BoardFile) (records : Records) : Type 0 where
  pub text : Attribute
  pub there : attribute_at setup.attributes.items 1 ≡ Some text
  pub can_be_set : text.read_only ≡ false
  pub has_lengths : range_of text.kind ≡ Text lengths
  pub value_at_first : records (key.BiosAttribute 1) ≡ Some (0x06 ∷ 0x00 ∷ 0x72 ∷ 0x61 ∷ 0x63 ∷ 0x6B ∷ 0x2D ∷ 0x31 ∷ [])
  pub no_ninth : attribute_at setup.attributes.items 9 ≡ None

-- what requester 0Bh has staged
abbrev pub staged : List ℕ → StagedParts
staged bytes = record { from = 0x0B; entry = bytes } ∷ []

-- eight other requesters have something staged
abbrev pub eight_others : StagedParts
eight_others = map (λ from. record { from = from; entry = take 192 entry }) (0x11 ∷ 0x12 ∷ 0x13 ∷ 0x14 ∷ 0x15 ∷ 0x16 ∷ 0x17 ∷ 0x18 ∷ [])

-- ---- what comes of each part

-- The replies have the handle of the next part, or a code. A refused part changes nothing, and no record changes before the last part, which ends
-- what the requester has staged.
pub record GoesInThree (setup : BoardFile) (records : Records) (live : LivePart) : Type 0 where
  pub start_read : part_in (0x00 ∷ 0x00 ∷ 0x00 ∷ 0x00 ∷ 0x01 ∷ take 192 entry) ≡ Ok first
  pub middle_read : part_in (0xC0 ∷ 0x00 ∷ 0x00 ∷ 0x00 ∷ 0x02 ∷ replicate 192 0x61) ≡ Ok second
  pub end_read : part_in (0x80 ∷ 0x01 ∷ 0x00 ∷ 0x00 ∷ 0x04 ∷ replicate 21 0x61) ≡ Ok third
  pub not_the_first : is_last first ≡ false
  pub not_the_second : is_last second ≡ false
  pub the_third : is_last third ≡ true
  pub started : part_given_at setup 0x0B (settable records live []) first
      ≡ (done (0xC0 ∷ 0x00 ∷ 0x00 ∷ 0x00 ∷ []), settable records live (staged (take 192 entry)))
  pub goes_on : part_given_at setup 0x0B (settable records live (staged (take 192 entry))) second
      ≡ (done (0x80 ∷ 0x01 ∷ 0x00 ∷ 0x00 ∷ []), settable records live (staged (take 384 entry)))
  pub ended : part_given_at setup 0x0B (settable records live (staged (take 384 entry))) third
      ≡ (done (0x00 ∷ 0x00 ∷ 0x00 ∷ 0x00 ∷ []), settable (with_record records (key.BiosAttribute 1) value) live [])
  -- by another requester, who staged nothing
  pub not_anothers : part_given_at setup 0x0C (settable records live (staged (take 192 entry))) second
      ≡ (refused 0x02, settable records live (staged (take 192 entry)))
  -- a last part that is a byte short
  pub too_short : part_given_at setup 0x0B (settable records live (staged (take 384 entry))) (End 384 (replicate 20 0x61))
      ≡ (refused 0x03, settable records live (staged (take 384 entry)))
  -- an attribute that there isn't
  pub unknown : part_given_at setup 0x0B (settable records live []) (Start (0x09 ∷ 0x00 ∷ 0x01 ∷ take 189 value)) ≡ (refused 0x88, settable records live [])
  -- a ninth requester
  pub ninth : part_given_at setup 0x0B (settable records live eight_others) first ≡ (refused 0x01, settable records live eight_others)
