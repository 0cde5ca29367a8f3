-- Lines of records, with the names of their sensors and attributes.
use Rattle.std.specs.Prelude.{OnOk, Result}
use Rattle.std.specs.declared.alloc.AllocError.{AllocError}
use Rattle.std.specs.Fmt.{decimal}
use Rattle.std.proofs.Common.{◌≡◌, ◌++◌, ◌∙◌, ℕ, List, [], Option, Some, None, Ok, Err, append-nil, append_assoc, ap, codes, drop, inl, inr, length, refl, subst, sym}
use Rattle.std.proofs.lemmas.Option.{none-some}
use Rattle.std.proofs.Math.Seq.{drop-append_seam}
use Rattle.record_base.specs.declared.key.Key.{Key}
use Rattle.record_base.specs.declared.key.Key.TheVariants as key
use Rattle.record_words.specs.NameWords.{record_words, subject_words}
use Rattle.record_words.specs.NamedWords.{IsNamed}
use Rattle.record_words.specs.Quotes.{quoted}
use Rattle.report_words.specs.declared.table_names.Names.{Names}
use Rattle.report_words.specs.BoardNames.{with_name}
use Rattle.report_words.specs.TableNames.{name_of}
use Rattle.app_revert.specs.Sentences.{name_in}

-- what is told begins with the record's sensor or attribute
abbrev Begins : Key → (told : List ℕ) → Type 0
Begins key told = (rest : List ℕ) × (told ≡ subject_words key ++ rest)

of_record : (key : Key) (front number kind : List ℕ) → record_words key ≡ front ++ (number ++ kind) → subject_words key ≡ front ++ number → Begins key (record_words key)
of_record key front number kind record_is subject_is =
    (kind, record_is ∙ sym (append_assoc front number kind) ∙ ap (λ (l : List ℕ). l ++ kind) (sym subject_is))

-- so does the record's name, where its sensor or attribute has one
record_begins : (names : Names) (key : Key) (name : List ℕ) → name_of names key ≡ Some name → Begins key (record_words key)
record_begins names (key.Thresholds sensor) name is = of_record (key.Thresholds sensor) (codes "sensor ") (decimal sensor) (codes " thresholds") refl refl
record_begins names (key.Hysteresis sensor) name is = of_record (key.Hysteresis sensor) (codes "sensor ") (decimal sensor) (codes " hysteresis") refl refl
record_begins names (key.EventEnable sensor) name is = of_record (key.EventEnable sensor) (codes "sensor ") (decimal sensor) (codes " event enable") refl refl
record_begins names key.PowerPolicy name is = absurd (none-some name is)
record_begins names key.Watchdog name is = absurd (none-some name is)
record_begins names key.GlobalEnables name is = absurd (none-some name is)
record_begins names (key.BootParam parameter) name is = absurd (none-some name is)
record_begins names (key.NumericEffecter effecter) name is = absurd (none-some name is)
record_begins names (key.StateEffecter effecter) name is = absurd (none-some name is)
record_begins names (key.UserName user) name is = absurd (none-some name is)
record_begins names (key.UserAccess on) name is = absurd (none-some name is)
record_begins names (key.ChannelAccess stored) name is = absurd (none-some name is)
record_begins names (key.BiosAttribute handle) name is = ([], sym (append-nil (codes "attribute " ++ decimal handle)))
record_begins names (key.LanParam on) name is = absurd (none-some name is)

-- so does a line that begins with it
line_begins : (names : Result Names AllocError) (key : Key) (name more : List ℕ) → name_in names key ≡ Some name → Begins key (record_words key ++ more)
line_begins (Ok names) key name more is =
    let begun = record_begins names key name is in (begun.0 ++ more, ap (λ (l : List ℕ). l ++ more) begun.1 ∙ append_assoc (subject_words key) begun.0 more)
line_begins (Err refused) key name more is = absurd (none-some name is)

named_by : (key : Key) (named : Option (List ℕ)) (told shown : List ℕ) → ((name : List ℕ) → named ≡ Some name → Begins key told) → IsNamed key named told shown
    → shown ≡ with_name key named told
named_by key None told shown from is = is
named_by key (Some name) told shown from (inl is) =
    is.2 ∙ ap (λ (rest : List ℕ). subject_words key ++ (codes " (" ++ (quoted name ++ (codes ")" ++ rest))))
    (sym (ap (λ (l : List ℕ). drop (length (subject_words key)) l) is.1 ∙ drop-append_seam (subject_words key) is.0))
named_by key (Some name) told shown from (inr is) = let b = from name refl in absurd (is.0 b.0 b.1)

-- a line was added, with the name of the record's sensor or attribute
pub line_added : (result : Result (Unit {0}) AllocError) (text grown : List ℕ) (names : Result Names AllocError) (key : Key) (named : Option (List ℕ)) (said more : List ℕ)
    → named ≡ name_in names key → said ≡ record_words key ++ more → OnOk result ((shown : List ℕ) × IsNamed key named said shown × (grown ≡ text ++ shown))
    → OnOk result (grown ≡ text ++ with_name key (name_in names key) (record_words key ++ more))
line_added (Ok done) text grown names key named said more named_is said_is is =
    is.2 ∙ ap (λ (l : List ℕ). text ++ l) (named_by key (name_in names key) (record_words key ++ more) is.0 (λ name given. line_begins names key name more given)
    (subst (λ (t : List ℕ). IsNamed key (name_in names key) t is.0) said_is (subst (λ (n : Option (List ℕ)). IsNamed key n said is.0) named_is is.1)))
line_added (Err refused) text grown names key named said more named_is said_is is = is
