-- What comes of each part computes.
use Rattle.std.proofs.Common.{◌≡◌, ℕ, List, [], ◌∷◌, take, Option, Some, Result, Ok, Bool, false, refl, ap, ◌∙◌}
use Rattle.std.specs.Option.{option_map}
use Rattle.record_base.specs.declared.attribute.Attribute.{Attribute}
use Rattle.record_base.specs.declared.attribute_range.AttributeRange.{AttributeRange}
use Rattle.record_base.specs.declared.attribute_range.AttributeRange.TheVariants.{Text}
use Rattle.record_base.specs.declared.key.Key.TheVariants as key
use Rattle.record_base.specs.declared.op.Op.{Op}
use Rattle.record_base.specs.declared.op.Op.TheVariants as op
use Rattle.record_base.specs.declared.live.Live.{Live as LivePart}
use Rattle.record_base.specs.Attribute.{range_of}
use Rattle.record_base.specs.BiosAttribute.{setting}
use Rattle.cfg_records.specs.declared.board_file.BoardFile.{BoardFile}
use Rattle.cfg_records.specs.Records.{Records}
use Rattle.bios_attr.specs.declared.bios_attribute.AttributeLimits.{AttributeLimits}
use Rattle.record_kinds.specs.Stagings.{StagedParts, start_outcome}
use Rattle.record_kinds.specs.declared.limits.Limits.{Limits}
use Rattle.record_kinds.specs.declared.limits.Limits.TheVariants as limits
use Rattle.record_kinds.specs.Limits.{limits_at}
use Rattle.record_kinds.specs.Keeps.{settable}
use Rattle.record_kinds.specs.Replies.{unknown_code}
use Rattle.record_kinds.specs.Sets.{outcome_among, set_outcome, set_given, records_set, live_set}
use Rattle.record_kinds.specs.SetParts.{SetGiven, limits_named, staged_given, ends_staging}
use Rattle.test_records.specs.PartsSet.{value, entry, lengths, HasText, staged, eight_others, GoesInThree}

abbrev text_limits : AttributeLimits
text_limits = record { handle = 1; read_only = false; range = Text lengths }

-- the limits of attribute 1, by what can be done with it
abbrev limits_of : Bool → AttributeRange → AttributeLimits
limits_of read_only range = record { handle = 1; read_only = read_only; range = range }

abbrev limits_in : Option Attribute → Option AttributeLimits
limits_in at = option_map (λ a. limits_of a.read_only (range_of a.kind)) at

-- the Set of the whole entry
abbrev whole : Op
whole = op.BiosAttribute (setting 1 1 value)

module _ (setup : BoardFile) (records : Records) (live : LivePart) (has : HasText setup records) where
  are_limits : limits_of has.text.read_only (range_of has.text.kind) ≡ text_limits
  are_limits = ap (λ (b : Bool). limits_of b (range_of has.text.kind)) has.can_be_set ∙ ap (limits_of false) has.has_lengths

  named : limits_named setup 1 ≡ Some text_limits
  named = ap limits_in has.there ∙ ap (λ (l : AttributeLimits). Some l) are_limits

  kind_limits : limits_at setup (key.BiosAttribute 1) ≡ Some (limits.BiosAttribute text_limits)
  kind_limits =
      ap (λ (a : Option Attribute). option_map (λ a. limits.BiosAttribute (limits_of a.read_only (range_of a.kind))) a) has.there
      ∙ ap (λ (l : AttributeLimits). Some (limits.BiosAttribute l)) are_limits

  -- a first part, by the limits of its attribute
  abbrev begins : List ℕ → StagedParts → Option AttributeLimits → SetGiven
  begins bytes before given = staged_given 0x0B (settable records live before) (start_outcome given before 0x0B bytes)

  -- the Set of the whole entry, by what it makes
  abbrev ends : Result (List ℕ) ℕ → SetGiven
  ends made =
      ends_staging 0x0B (set_given made whole, record (settable records live (staged (take 384 entry))) { records = records_set made whole records; live = live_set made whole live })

  makes : outcome_among setup records whole ≡ Ok value
  makes =
      ap (λ (l : Option Limits). set_outcome l (records (key.BiosAttribute 1)) (unknown_code setup (key.BiosAttribute 1)) whole) kind_limits
      ∙ ap (λ (v : Option (List ℕ)). set_outcome (Some (limits.BiosAttribute text_limits)) v (unknown_code setup (key.BiosAttribute 1)) whole) has.value_at_first

  pub goes_in_three : GoesInThree setup records live
  goes_in_three = record {
    start_read = refl;
    middle_read = refl;
    end_read = refl;
    not_the_first = refl;
    not_the_second = refl;
    the_third = refl;
    started = ap (begins (take 192 entry) []) named;
    goes_on = refl;
    ended = ap ends makes;
    not_anothers = refl;
    too_short = refl;
    unknown = ap (λ (a : Option Attribute). begins (0x09 ∷ 0x00 ∷ 0x01 ∷ take 189 value) [] (option_map (λ a. record { handle = 9; read_only = a.read_only; range = range_of a.kind }) a)) has.no_ninth;
    ninth = ap (begins (take 192 entry) eight_others) named;
  }
