-- What a step for an attribute has in its fields.
use Rattle.std.proofs.Common.{◌≡◌, ℕ, ◌≤◌, nat_le, length, List, Bool, true, false, ◌&&◌, if◌then◌else◌, is_some, is_none, Option, Some, None, option_and_then, refl, arith}
use Rattle.std.proofs.lemmas.Bool.{and_parts}
use Rattle.std.proofs.lemmas.Bool.Decides.{nat_tests}
use Rattle.std.proofs.lemmas.Option.{same_Some}
use Rattle.std.specs.List.{list_all}
use Rattle.toml.specs.Data.{Data, Members, as_str}
use Rattle.record_base.specs.AttributeSizes.{most_text}
use Rattle.text_fields.specs.declared.field.Field.TheVariants as field
use Rattle.text_fields.specs.declared.row.Row.{Row}
use Rattle.text_fields.specs.declared.row.Shape.TheVariants as shape
use Rattle.text_fields.specs.declared.row.Need.TheVariants as need
use Rattle.text_fields.specs.Trees.{in_field, lacks, natural, members, members_in, number_in, or_none}
use Rattle.text_fields.specs.Ranges.{has_type, is_in_range}
use Rattle.text_fields.specs.Attributes.{text_within, string_of, string_in, is_below, are_indexes}
use Rattle.text_fields.proofs.Rows.{Sound, Value, not_false}
use Rattle.text_fields.proofs.Members.{listed}

-- a value that the item has, whether it needs it or not
value_given : (tree : Members) (row : Row) (o : Option Data) → in_field row.0 tree ≡ o → is_some o ≡ true → Sound tree row → Value tree row.0 row.1
value_given tree row (Some d) is some sound = record {
  value = d;
  found = is;
  typed = not_false (has_type row.1 d) (rw is at sound.typed);
  within = not_false (is_in_range tree row.1 d) (rw is at sound.within);
}
value_given tree row None is some sound = cc

le_from : (m n : ℕ) → nat_le m n ≡ true → m ≤ n
le_from m n h = grind (arith, nat_tests)

none_there : (o : Option Data) → is_none o ≡ true → o ≡ None
none_there None none = refl
none_there (Some d) none = cc

-- ---- indexes

abbrev pub indexes_row : Row
indexes_row = record { 0 = field.Indexes; 1 = shape.FewIndexes; 2 = need.WithoutValue }

-- the indexes that a step gives, and nothing besides
pub record Indexed (tree : Members) : Type 0 where
  pub few : length (members_in field.Indexes tree) ≤ 16
  pub all : list_all (λ d. is_below 256 (natural d)) (members_in field.Indexes tree) ≡ true
  pub no_text : in_field field.Text tree ≡ None
  pub no_number : in_field field.Number tree ≡ None

pub indexes_there : (tree : Members) → is_some (in_field field.Indexes tree) ≡ true → Sound tree indexes_row → Indexed tree
indexes_there tree some sound =
    let v = value_given tree indexes_row (in_field field.Indexes tree) refl some sound in
    let ds = or_none (members v.value) in
    let (only, good) = and_parts (lacks field.Text tree && lacks field.Number tree) (are_indexes 16 256 ds) v.within in
    let (text, number) = and_parts (lacks field.Text tree) (lacks field.Number tree) only in
    let there = listed 16 256 ds good in
    record {
      few = rw v.found there.few;
      all = rw v.found there.all;
      no_text = none_there (in_field field.Text tree) text;
      no_number = none_there (in_field field.Number tree) number;
    }

-- ---- texts

abbrev pub text_row : Row
text_row = record { 0 = field.Text; 1 = shape.AttributeText; 2 = need.Never }

-- the text that a step gives, and no number besides
pub record Texted (tree : Members) : Type 0 where
  pub text : List ℕ
  pub found : string_in field.Text tree ≡ Some text
  pub few : length text ≤ most_text
  pub no_number : in_field field.Number tree ≡ None

few_cases : (text held : List ℕ) (b : Bool) → nat_le (length text) most_text ≡ b → (if b then Some text else None) ≡ Some held → length held ≤ most_text
few_cases text held true is same = let told : text ≡ held = same_Some text held same in rw (← told) (le_from (length text) most_text is)
few_cases text held false is same = cc

few_bytes : (o : Option (List ℕ)) (held : List ℕ) → option_and_then (text_within most_text) o ≡ Some held → length held ≤ most_text
few_bytes (Some text) held is = few_cases text held (nat_le (length text) most_text) refl is
few_bytes None held is = cc

text_cases : (tree : Members) (d : Data) (o : Option (List ℕ)) → in_field field.Text tree ≡ Some d → string_of d ≡ o → is_some o ≡ true → in_field field.Number tree ≡ None → Texted tree
text_cases tree d (Some text) found is short none = record { text = text; found = rw (found, is) refl; few = few_bytes (as_str d) text is; no_number = none }
text_cases tree d None found is short none = cc

pub text_there : (tree : Members) → is_some (in_field field.Text tree) ≡ true → Sound tree text_row → Texted tree
text_there tree some sound =
    let v = value_given tree text_row (in_field field.Text tree) refl some sound in
    let (number, short) = and_parts (lacks field.Number tree) (is_some (string_of v.value)) v.within in
    text_cases tree v.value (string_of v.value) v.found refl short (none_there (in_field field.Number tree) number)

-- ---- numbers

abbrev pub number_row : Row
number_row = record { 0 = field.Number; 1 = shape.Natural; 2 = need.Never }

given_else : (tree : Members) (o : Option Data) → in_field field.Indexes tree ≡ None → in_field field.Text tree ≡ None → in_field field.Number tree ≡ o → Sound tree indexes_row → is_some o ≡ true
given_else tree (Some d) no_indexes no_text number sound = refl
given_else tree None no_indexes no_text number sound = let missing : true ≡ false = rw (no_indexes, no_text, number) at sound.present in cc

number_cases : (tree : Members) (d : Data) (o : Option ℕ) → in_field field.Number tree ≡ Some d → natural d ≡ o → is_some o ≡ true → is_some (number_in field.Number tree) ≡ true
number_cases tree d (Some n) found is some = rw (found, is) refl
number_cases tree d None found is some = cc

-- a step with neither indexes nor a text gives a number
pub number_there : (tree : Members) → in_field field.Indexes tree ≡ None → in_field field.Text tree ≡ None → Sound tree indexes_row → Sound tree number_row → is_some (number_in field.Number tree) ≡ true
number_there tree no_indexes no_text sound also =
    let v = value_given tree number_row (in_field field.Number tree) refl (given_else tree (in_field field.Number tree) no_indexes no_text refl sound) also in
    number_cases tree v.value (natural v.value) v.found refl v.within
