-- What a step meets, with the name of its record's sensor or attribute.
use Rattle.std.specs.Prelude.{OnOk, Result}
use Rattle.std.proofs.Common.{◌≡◌, ◌++◌, ◌∙◌, ℕ, List, [], Option, Some, None, append_assoc, ap, codes, refl, subst, sym}
use Rattle.std.proofs.lemmas.Option.{none-some}
use Rattle.std.specs.declared.alloc.AllocError.{AllocError}
use Rattle.std.specs.Fmt.{decimal}
use Rattle.record_base.specs.declared.key.Key.{Key}
use Rattle.record_base.specs.declared.key.Key.TheVariants as key
use Rattle.record_base.specs.declared.op.Op.{Op}
use Rattle.record_base.specs.declared.op.Op.TheVariants as op
use Rattle.record_kinds.specs.Limits.{inverse, key_of}
use Rattle.record_words.specs.declared.parts.Way.TheVariants.{There}
use Rattle.record_words.specs.NameWords.{record_words}
use Rattle.record_words.specs.NamedWords.{IsNamed}
use Rattle.record_words.specs.OpWords.{fields_over, olds, op_words}
use Rattle.record_words.specs.PartWords.{parts_of}
use Rattle.report_words.specs.BoardNames.{GivenNames, name_of}
use Rattle.report_words.proofs.Named.{Begins, begins_more, is_named, of_parts, record_begins}
use Rattle.bmc_lab.specs.declared.finding.Finding.{Finding}
use Rattle.bmc_lab.specs.declared.finding.Finding.TheVariants.{GetRefused, NotRestorable, Refused, Done}
use Rattle.bmc_lab.specs.FindingWords.{finding_told, finding_words, refusal_words}

-- an operation in words begins with the sensor or attribute of its record, where that has a name
op_begins : (names : GivenNames) (o : Op) (before : Option Op) (name : List ℕ) → name_of names (key_of o) ≡ Some name → Begins (key_of o) (op_words There o before)
op_begins names (op.Thresholds set) before name is =
    of_parts (key.Thresholds set.sensor) (codes "sensor ") (decimal set.sensor) (codes " thresholds") refl refl
    (parts_of There (olds before) (fields_over (op.Thresholds set) before))
op_begins names (op.Hysteresis set) before name is =
    of_parts (key.Hysteresis set.sensor) (codes "sensor ") (decimal set.sensor) (codes " hysteresis") refl refl
    (parts_of There (olds before) (fields_over (op.Hysteresis set) before))
op_begins names (op.EventEnable set) before name is =
    of_parts (key.EventEnable set.sensor) (codes "sensor ") (decimal set.sensor) (codes " event enable") refl refl
    (parts_of There (olds before) (fields_over (op.EventEnable set) before))
op_begins names (op.PowerPolicy set) before name is = absurd (none-some name is)
op_begins names (op.Watchdog set) before name is = absurd (none-some name is)
op_begins names (op.GlobalEnables set) before name is = absurd (none-some name is)
op_begins names (op.BootParam set) before name is = absurd (none-some name is)
op_begins names (op.NumericEffecter set) before name is = absurd (none-some name is)
op_begins names (op.StateEffecter set) before name is = absurd (none-some name is)
op_begins names (op.UserName set) before name is = absurd (none-some name is)
op_begins names (op.UserAccess set) before name is = absurd (none-some name is)
op_begins names (op.ChannelAccess set) before name is = absurd (none-some name is)
op_begins names (op.BiosAttribute set) before name is = (_, sym (append_assoc (codes "attribute ") (decimal set.attribute) _))
op_begins names (op.LanParam set) before name is = absurd (none-some name is)

-- so does what a step meets
finding_begins : (names : GivenNames) (o : Op) (finding : Finding) (name : List ℕ) → name_of names (key_of o) ≡ Some name → Begins (key_of o) (finding_told o finding)
finding_begins names o (GetRefused code) name is =
    begins_more (key_of o) (record_words (key_of o)) (record_begins names (key_of o) name is)
    (codes ": the board hasn't it (" ++ (refusal_words (key_of o) code ++ codes ")"))
finding_begins names o NotRestorable name is =
    begins_more (key_of o) (record_words (key_of o)) (record_begins names (key_of o) name is) (codes ": can't be taken back")
finding_begins names o (Refused code) name is =
    begins_more (key_of o) (op_words There o None) (op_begins names o None name is)
    (codes ": would be refused (" ++ (refusal_words (key_of o) code ++ codes ")"))
finding_begins names o (Done shown) name is = op_begins names o (inverse o shown.items) name is

-- it is added with the name, where it was told in an empty text
pub finding_named : (result : Result (Unit {0}) AllocError) (text grown : List ℕ) (names : GivenNames) (it o : Op) (on : Key) (finding : Finding)
    (named : Option (List ℕ)) (empty told said : List ℕ) → it ≡ o → on ≡ key_of it → named ≡ name_of names on → empty ≡ []
    → told ≡ empty ++ finding_told o finding → said ≡ told
    → OnOk result ((shown : List ℕ) × IsNamed on named said shown × (grown ≡ text ++ shown))
    → OnOk result (grown ≡ text ++ finding_words names o finding)
finding_named result text grown names it o on finding named empty told said same is named_is empty_is told_is said_is added =
    let at : on ≡ key_of o = is ∙ ap key_of same in
    let words : said ≡ finding_told o finding = said_is ∙ told_is ∙ ap (λ (l : List ℕ). l ++ finding_told o finding) empty_is in
    is_named result text grown names (key_of o) named said (finding_told o finding) (finding_begins names o finding) (named_is ∙ ap (name_of names) at) words
    (subst (λ (k : Key). OnOk result ((shown : List ℕ) × IsNamed k named said shown × (grown ≡ text ++ shown))) at added)
