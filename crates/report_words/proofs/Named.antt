-- Lines with the name of a record's sensor or attribute, as that of a changed record.
use Rattle.std.specs.Prelude.{OnOk, Result}
use Rattle.std.proofs.Common.{◌≡◌, ◌++◌, ◌∷◌, ◌∙◌, ℕ, List, [], Option, Some, None, Ok, Err, append-nil, append_assoc, ap, codes, drop, inl, inr, length, refl, subst, sym}
use Rattle.std.proofs.lemmas.Option.{none-some}
use Rattle.std.proofs.Math.Seq.{drop-append_seam}
use Rattle.std.specs.declared.alloc.AllocError.{AllocError}
use Rattle.std.specs.Fmt.{decimal}
use Rattle.record_base.specs.declared.key.Key.{Key}
use Rattle.record_base.specs.declared.key.Key.TheVariants as key
use Rattle.record_words.specs.declared.parts.Part.{Part}
use Rattle.record_words.specs.declared.parts.Way.TheVariants.{There}
use Rattle.record_words.specs.NameWords.{record_words, subject_words}
use Rattle.record_words.specs.NamedWords.{IsNamed}
use Rattle.record_words.specs.OpWords.{change_words}
use Rattle.record_words.specs.PartWords.{line_words, parts_of}
use Rattle.record_words.specs.Quotes.{quoted}
use Rattle.record_words.specs.ValueFields.{value_fields}
use Rattle.report_words.specs.BoardNames.{GivenNames, name_of, named_told, with_name}

-- what is told begins with the record's sensor or attribute
abbrev pub Begins : Key → (told : List ℕ) → Type 0
Begins key told = (rest : List ℕ) × (told ≡ subject_words key ++ rest)

-- it does where that has a name
abbrev pub BeginsNamed : GivenNames → Key → (told : List ℕ) → Type 0
BeginsNamed names key told = (name : List ℕ) → name_of names key ≡ Some name → Begins key told

-- so it does with more behind it
pub begins_more : (key : Key) (told : List ℕ) → Begins key told → (more : List ℕ) → Begins key (told ++ more)
begins_more key told begun more = (begun.0 ++ more, ap (λ (l : List ℕ). l ++ more) begun.1 ∙ append_assoc (subject_words key) begun.0 more)

parted : (front number kind end : List ℕ) → (front ++ (number ++ kind)) ++ end ≡ (front ++ number) ++ (kind ++ end)
parted front number kind end = ap (λ (l : List ℕ). l ++ end) (sym (append_assoc front number kind)) ∙ append_assoc (front ++ number) kind end

-- so does a line of parts, where the record's name does
pub of_parts : (key : Key) (front number kind : List ℕ) → record_words key ≡ front ++ (number ++ kind) → subject_words key ≡ front ++ number → (parts : List Part)
    → Begins key (line_words key parts)
of_parts key front number kind record_is subject_is [] = (
  kind ++ codes ": no change",
  ap (λ (l : List ℕ). l ++ codes ": no change") record_is ∙ parted front number kind (codes ": no change") ∙ ap (λ (l : List ℕ). l ++ (kind ++ codes ": no change")) (sym subject_is),
)
of_parts key front number kind record_is subject_is (first ∷ more) = (_, refl)

-- so does the name of a record
of_record : (key : Key) (front number kind : List ℕ) → record_words key ≡ front ++ (number ++ kind) → subject_words key ≡ front ++ number → Begins key (record_words key)
of_record key front number kind record_is subject_is =
    (kind, record_is ∙ sym (append_assoc front number kind) ∙ ap (λ (l : List ℕ). l ++ kind) (sym subject_is))

pub record_begins : (names : GivenNames) (key : Key) (name : List ℕ) → name_of names key ≡ Some name → Begins key (record_words key)
record_begins names (key.Thresholds sensor) name is = of_record (key.Thresholds sensor) (codes "sensor ") (decimal sensor) (codes " thresholds") refl refl
record_begins names (key.Hysteresis sensor) name is = of_record (key.Hysteresis sensor) (codes "sensor ") (decimal sensor) (codes " hysteresis") refl refl
record_begins names (key.EventEnable sensor) name is = of_record (key.EventEnable sensor) (codes "sensor ") (decimal sensor) (codes " event enable") refl refl
record_begins names key.PowerPolicy name is = absurd (none-some name is)
record_begins names key.Watchdog name is = absurd (none-some name is)
record_begins names key.GlobalEnables name is = absurd (none-some name is)
record_begins names (key.BootParam parameter) name is = absurd (none-some name is)
record_begins names (key.NumericEffecter effecter) name is = absurd (none-some name is)
record_begins names (key.StateEffecter effecter) name is = absurd (none-some name is)
record_begins names (key.UserName user) name is = absurd (none-some name is)
record_begins names (key.UserAccess on) name is = absurd (none-some name is)
record_begins names (key.ChannelAccess stored) name is = absurd (none-some name is)
record_begins names (key.BiosAttribute handle) name is = ([], sym (append-nil (codes "attribute " ++ decimal handle)))
record_begins names (key.LanParam on) name is = absurd (none-some name is)

-- what is told of a changed record does whose sensor or attribute has a name
begins : (names : GivenNames) (key : Key) (name : List ℕ) (type : ℕ) (old new : List ℕ) → name_of names key ≡ Some name → Begins key (change_words key type old new)
begins names (key.Thresholds sensor) name type old new is =
    of_parts (key.Thresholds sensor) (codes "sensor ") (decimal sensor) (codes " thresholds") refl refl
    (parts_of There (value_fields (key.Thresholds sensor) old) (value_fields (key.Thresholds sensor) new))
begins names (key.Hysteresis sensor) name type old new is =
    of_parts (key.Hysteresis sensor) (codes "sensor ") (decimal sensor) (codes " hysteresis") refl refl
    (parts_of There (value_fields (key.Hysteresis sensor) old) (value_fields (key.Hysteresis sensor) new))
begins names (key.EventEnable sensor) name type old new is =
    of_parts (key.EventEnable sensor) (codes "sensor ") (decimal sensor) (codes " event enable") refl refl
    (parts_of There (value_fields (key.EventEnable sensor) old) (value_fields (key.EventEnable sensor) new))
begins names key.PowerPolicy name type old new is = absurd (none-some name is)
begins names key.Watchdog name type old new is = absurd (none-some name is)
begins names key.GlobalEnables name type old new is = absurd (none-some name is)
begins names (key.BootParam parameter) name type old new is = absurd (none-some name is)
begins names (key.NumericEffecter effecter) name type old new is = absurd (none-some name is)
begins names (key.StateEffecter effecter) name type old new is = absurd (none-some name is)
begins names (key.UserName user) name type old new is = absurd (none-some name is)
begins names (key.UserAccess on) name type old new is = absurd (none-some name is)
begins names (key.ChannelAccess stored) name type old new is = absurd (none-some name is)
begins names (key.BiosAttribute handle) name type old new is = (_, sym (append_assoc (codes "attribute ") (decimal handle) _))
begins names (key.LanParam on) name type old new is = absurd (none-some name is)

-- a name stands behind that which is told
named_by : (key : Key) (named : Option (List ℕ)) (told shown : List ℕ) → ((name : List ℕ) → named ≡ Some name → Begins key told) → IsNamed key named told shown
    → shown ≡ with_name key named told
named_by key None told shown from is = is
named_by key (Some name) told shown from (inl is) =
    is.2 ∙ ap (λ (rest : List ℕ). subject_words key ++ (codes " (" ++ (quoted name ++ (codes ")" ++ rest))))
    (sym (ap (λ (l : List ℕ). drop (length (subject_words key)) l) is.1 ∙ drop-append_seam (subject_words key) is.0))
named_by key (Some name) told shown from (inr is) = let b = from name refl in absurd (is.0 b.0 b.1)

-- so it stands in a text to which it was added
pub is_named : (result : Result (Unit {0}) AllocError) (text grown : List ℕ) (names : GivenNames) (key : Key) (named : Option (List ℕ)) (said told : List ℕ)
    → BeginsNamed names key told → named ≡ name_of names key → said ≡ told
    → OnOk result ((shown : List ℕ) × IsNamed key named said shown × (grown ≡ text ++ shown))
    → OnOk result (grown ≡ text ++ named_told names key told)
is_named (Ok done) text grown names key named said told from named_is said_is is =
    is.2 ∙ ap (λ (l : List ℕ). text ++ l) (named_by key (name_of names key) told is.0 from
    (subst (λ (t : List ℕ). IsNamed key (name_of names key) t is.0) said_is (subst (λ (n : Option (List ℕ)). IsNamed key n said is.0) named_is is.1)))
is_named (Err refused) text grown names key named said told from named_is said_is is = is

-- and so the line of a changed record
pub is_added : (result : Result (Unit {0}) AllocError) (text grown : List ℕ) (names : GivenNames) (key : Key) (type : ℕ) (old new : List ℕ) (named : Option (List ℕ))
    (told : List ℕ) → named ≡ name_of names key → told ≡ change_words key type old new
    → OnOk result ((shown : List ℕ) × IsNamed key named told shown × (grown ≡ text ++ shown))
    → OnOk result (grown ≡ text ++ named_told names key (change_words key type old new))
is_added result text grown names key type old new named told named_is told_is is =
    is_named result text grown names key named told (change_words key type old new) (λ name given. begins names key name type old new given) named_is told_is is
