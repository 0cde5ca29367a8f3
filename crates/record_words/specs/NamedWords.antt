-- A line on a record whose sensor or attribute has a name, which stands behind its number.
use Rattle.std.specs.Prelude.{◌≡◌, ◌⊎◌, ℕ, List, ◌++◌, Option, Some, None, codes}
use Rattle.record_base.specs.declared.key.Key.{Key}
use Rattle.record_words.specs.NameWords.{subject_words}
use Rattle.record_words.specs.Quotes.{quoted}

-- what is said begins with the record's sensor or attribute, and the name stands behind that, in quotes and parentheses; what begins otherwise stays,
-- and so does all where there is no name
abbrev pub IsNamed : Key → Option (List ℕ) → (said text : List ℕ) → Type 0
IsNamed key None said text = text ≡ said
IsNamed key (Some name) said text =
    ((rest : List ℕ) × (said ≡ subject_words key ++ rest) × (text ≡ subject_words key ++ (codes " (" ++ (quoted name ++ (codes ")" ++ rest)))))
    ⊎ (((rest : List ℕ) → said ≡ subject_words key ++ rest → ⊥) × (text ≡ said))
