-- What is said of the fields of a record, and the line that says it.
use Rattle.std.specs.Prelude.{ℕ, Bool, ◌||◌, Option, Some, None, List, [], ◌∷◌, ◌++◌, if◌then◌else◌, codes}
use Rattle.std.specs.List.{find, flat_map}
use Rattle.record_base.specs.declared.key.Key.{Key}
use Rattle.record_words.specs.declared.field.Field.{Field}
use Rattle.record_words.specs.declared.field.Label.{Label}
use Rattle.record_words.specs.declared.field.Label.TheVariants as label
use Rattle.record_words.specs.declared.shown.Shown.{Shown}
use Rattle.record_words.specs.declared.shown.Shown.TheVariants.{Kept}
use Rattle.record_words.specs.declared.parts.Part.{Part}
use Rattle.record_words.specs.declared.parts.Said.{Said}
use Rattle.record_words.specs.declared.parts.Said.TheVariants.{Is, Becomes, Again}
use Rattle.record_words.specs.declared.parts.Way.{Way}
use Rattle.record_words.specs.declared.parts.Way.TheVariants.{There, Back}
use Rattle.record_words.specs.contracts.field.LabelPartialEq.TheImpl as label_eq
use Rattle.record_words.specs.contracts.shown.ShownPartialEq.TheImpl as shown_eq
use Rattle.record_words.specs.FieldWords.{label_words}
use Rattle.record_words.specs.NameWords.{record_words, subject_words}
use Rattle.record_words.specs.ShownWords.{shown_words}

-- two names of fields are the same, and two fields
abbrev pub same_label : Label → Label → Bool
same_label = (label_eq.ghosts).eq

abbrev pub same_shown : Shown → Shown → Bool
same_shown = (shown_eq.ghosts).eq

-- what a field was, where it is known
abbrev pub shown_in : Option Field → Shown
shown_in None = Kept
shown_in (Some field) = field.shown

-- the field of this name, and what it was
abbrev pub found : List Field → Label → Option Field
found olds label = find (λ old. same_label old.label label) olds

abbrev pub old_of : List Field → Label → Shown
old_of olds label = shown_in (found olds label)

-- what is said of a field by the way of the request: what it becomes, or was and becomes, or becomes again
abbrev pub by_way : Way → (old new : Shown) → Said
by_way Back old new = Again new
by_way There old new = if same_shown old Kept then Is new else Becomes old new

-- nothing is said of a field that an operation leaves, or that stays the same
abbrev pub saying : Way → (old new : Shown) → Option Said
saying way old new = if same_shown new Kept || same_shown old new then None else Some (by_way way old new)

-- the part of a field
abbrev pub labelled : Label → Option Said → Option Part
labelled label None = None
labelled label (Some said) = Some (record { label = label; said = said })

abbrev pub part_of : Way → List Field → Field → Option Part
part_of way olds field = labelled field.label (saying way (old_of olds field.label) field.shown)

-- a list of one at most
abbrev pub listed : Option Part → List Part
listed None = []
listed (Some part) = part ∷ []

-- the parts of fields, where these are what they were
abbrev pub parts_of : Way → (olds fields : List Field) → List Part
parts_of way olds fields = flat_map (λ field. listed (part_of way olds field)) fields

-- ---- the words

abbrev pub said_words : Said → List ℕ
said_words (Is new) = codes ": " ++ shown_words new
said_words (Becomes old new) = codes ": " ++ (shown_words old ++ (codes " -> " ++ shown_words new))
said_words (Again old) = codes " <- " ++ shown_words old

abbrev pub part_words : Part → List ℕ
part_words part = label_words part.label ++ said_words part.said

-- what stands between the record and the first part: a space, where the part has a name
abbrev pub front : Label → List ℕ
front label.Whole = []
front (label.Of term) = codes " "
front (label.Field number) = codes " "

-- the parts behind the first
abbrev pub more_words : List Part → List ℕ
more_words parts = flat_map (λ part. codes "; " ++ part_words part) parts

-- the line: that nothing changes, or the parts behind what the fields' names stand behind
abbrev pub line_words : Key → List Part → List ℕ
line_words key [] = record_words key ++ codes ": no change"
line_words key (first ∷ more) = subject_words key ++ (front first.label ++ (part_words first ++ more_words more))
