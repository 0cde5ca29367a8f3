-- The flags, the events and the thresholds of a sensor that an item without a fault has.
use Rattle.std.proofs.Common.{◌≡◌, ℕ, zero, suc, ◌*◌, ◌/◌, ◌%◌, ◌<◌, ◌==◌, ◌&&◌, nat_lt, Bool, true, false, List, length, Option, Some, None, if◌then◌else◌, option_and_then, refl, sym, ◌∙◌, ap, arith}
use Rattle.std.proofs.lemmas.Bool.{and_parts}
use Rattle.std.proofs.lemmas.Bool.Decides.{nat_tests}
use Rattle.std.proofs.lemmas.Option.{same_Some}
use Rattle.std.specs.List.{list_all}
use Rattle.record_base.specs.Masks.{has}
use Rattle.record_base.specs.Sensor.EventEnable.{AreWithin, are_within, flags_byte}
use Rattle.record_base.specs.EventLaws.{within_true}
use Rattle.toml.specs.Data.{Data, Members}
use Rattle.text_fields.specs.declared.field.Field.{Field}
use Rattle.text_fields.specs.declared.field.Field.TheVariants as field
use Rattle.text_fields.specs.declared.row.Shape.TheVariants as shape
use Rattle.text_fields.specs.declared.row.Need.TheVariants as need
use Rattle.text_fields.specs.Trees.{in_field, natural, number_in, naturals_in, all_bytes, bytes_in, HasBelow, HasNumbers}
use Rattle.text_fields.specs.Ranges.{passes, are_flags, are_supported}
use Rattle.text_fields.proofs.Rows.{Sound, value_of}

-- ---- flags

-- flags that the item has
pub record Flags (tree : Members) (field : Field) : Type 0 where
  pub number : ℕ
  pub found : number_in field tree ≡ Some number
  pub byte : number < 256
  pub no_more : number % 64 ≡ 0

flags_cases : (tree : Members) (field : Field) (d : Data) (o : Option ℕ) → in_field field tree ≡ Some d → natural d ≡ o → passes are_flags o ≡ true → Flags tree field
flags_cases tree field d (Some n) found is within =
    let (low, clear) = and_parts (nat_lt n 256) (n % 64 == 0) within in
    record {
      number = n;
      found = rw (found, is);
      byte = grind (arith, nat_tests);
      no_more = grind (arith, nat_tests);
    }
flags_cases tree field d None found is within = cc

pub flags_of : (tree : Members) (field : Field) → Sound tree (record { 0 = field; 1 = shape.Flags; 2 = need.Always }) → Flags tree field
flags_of tree field sound =
    let v = value_of tree (record { 0 = field; 1 = shape.Flags; 2 = need.Always }) (in_field field tree) refl refl sound in
    flags_cases tree field v.value (natural v.value) v.found refl v.within

four_flags : (k : ℕ) → k < 4 → flags_byte (has (64 * k) 7) (has (64 * k) 6) ≡ 64 * k
four_flags zero lt = refl
four_flags (suc zero) lt = refl
four_flags (suc (suc zero)) lt = refl
four_flags (suc (suc (suc zero))) lt = refl
four_flags (suc (suc (suc (suc k)))) lt = absurd (omega arith)

-- flags are their bits 7 and 6
pub flags_are : (n : ℕ) → n < 256 → n % 64 ≡ 0 → flags_byte (has n 7) (has n 6) ≡ n
flags_are n byte no_more =
    let whole : 64 * (n / 64) ≡ n = omega arith in
    let few : n / 64 < 4 = omega arith in
    ap (λ (m : ℕ). flags_byte (has m 7) (has m 6)) (sym whole) ∙ four_flags (n / 64) few ∙ whole

-- ---- events

-- events that the item has, each of which it supports
pub record Events (tree : Members) (named : Field) : Type 0 where
  pub events : ℕ
  pub found : number_in named tree ≡ Some events
  pub word : events < 65536
  pub within : (supported : ℕ) → number_in field.Supported tree ≡ Some supported → AreWithin events supported

events_cases : (tree : Members) (named : Field) (d : Data) (s e : Option ℕ) → in_field named tree ≡ Some d → number_in field.Supported tree ≡ s → natural d ≡ e
    → passes (λ supported. passes (are_supported supported) e) s ≡ true → Events tree named
events_cases tree named d (Some s) (Some e) found has_s is within =
    let (words, each) = and_parts (nat_lt s 65536 && nat_lt e 65536) (are_within e s) within in
    let (first_word, second_word) = and_parts (nat_lt s 65536) (nat_lt e 65536) words in
    record {
      events = e;
      found = rw (found, is);
      word = grind (arith, nat_tests);
      within = λ supported other.
          let same : s ≡ supported = same_Some _ _ (sym has_s ∙ other) in
          within_true e supported (ap (are_within e) (sym same) ∙ each);
    }
events_cases tree named d (Some s) None found has_s is within = cc
events_cases tree named d None e found has_s is within = cc

pub events_of : (tree : Members) (named : Field) → Sound tree (record { 0 = named; 1 = shape.Events; 2 = need.Always }) → Events tree named
events_of tree named sound =
    let v = value_of tree (record { 0 = named; 1 = shape.Events; 2 = need.Always }) (in_field named tree) refl refl sound in
    events_cases tree named v.value (number_in field.Supported tree) (natural v.value) v.found refl refl v.within

-- events fit in two bytes
pub below_word : {tree : Members} {named : Field} → Events tree named → HasBelow 65536 named tree
below_word v = (v.events, (v.found, v.word))

-- these events are among those that the item supports
pub supported_events : {tree : Members} {named : Field} (events supported : ℕ) → Events tree named → number_in named tree ≡ Some events → number_in field.Supported tree ≡ Some supported
    → AreWithin events supported
supported_events events supported v is has_s =
    let same : v.events ≡ events = same_Some _ _ (sym v.found ∙ is) in
    rw (← same) (v.within supported has_s)

-- ---- thresholds

kept_where : (b : Bool) (ms ns : List ℕ) → (if b then Some ms else None) ≡ Some ns → Some ms ≡ Some ns
kept_where true ms ns is = is
kept_where false ms ns is = cc

bytes_are : (o : Option (List ℕ)) (ns : List ℕ) → option_and_then all_bytes o ≡ Some ns → o ≡ Some ns
bytes_are (Some ms) ns is = kept_where (list_all (λ n. nat_lt n 256) ms) ms ns is
bytes_are None ns is = cc

-- the item has the thresholds that were read from the field's value
pub thresholds_held : (tree : Members) (d : Data) (values : List ℕ) → in_field field.Thresholds tree ≡ Some d → length values ≡ 6 → bytes_in 6 d ≡ Some values
    → HasNumbers field.Thresholds tree values
thresholds_held tree d values found six bytes = rw (six, found) (bytes_are (naturals_in 6 d) values bytes)
