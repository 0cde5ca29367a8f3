-- What a checked table has in a field, by the field's row.
use Rattle.std.proofs.Common.{◌≡◌, ℕ, ◌≤◌, List, [], ◌∷◌, Bool, true, false, not, length, cond, Option, Some, None, IsSome, is_some, refl, sym, ap, ◌∙◌, arith}
use Rattle.std.proofs.lemmas.Bool.{and_parts}
use Rattle.std.proofs.lemmas.Bool.Decides.{nat_tests}
use Rattle.std.proofs.lemmas.Slice.Eq.{bytes_eq-Decides}
use Rattle.std.specs.List.{AllByRecursion, list_all}
use Rattle.toml.specs.Data.{Data, Members, get_member}
use Rattle.text_fields.specs.declared.field.Field.{Field}
use Rattle.text_fields.specs.declared.row.Need.{Need}
use Rattle.text_fields.specs.declared.row.Need.TheVariants as need
use Rattle.text_fields.specs.declared.row.Row.{Row}
use Rattle.text_fields.specs.declared.row.Shape.{Shape}
use Rattle.text_fields.specs.declared.row.Shape.TheVariants as shape
use Rattle.text_fields.specs.Words.{word}
use Rattle.text_fields.specs.Trees.{in_field, natural, number_in, members_in}
use Rattle.text_fields.specs.Faults.{is_needed, field_faults}
use Rattle.text_fields.specs.Ranges.{passes, has_type, is_in_range, is_table, is_most, is_upper_natural, is_step}
use Rattle.text_fields.proofs.Members.{tables_of}
use Rattle.text_fields.specs.CheckedRows.{is_of, row_of, is_always, is_always_there, shape_of, is_array_shape, is_array, tables_in, most_tables, is_up_to, is_number, is_natural_shape, is_natural, lowest, highest, least_of, most_of}
use Rattle.text_fields.proofs.Rows.{Sound, all_sound, Value, value_of, Number, number_cases}

passes_some : {A : Type 0} (p : A → Bool) (o : Option A) → passes p o ≡ true → is_some o ≡ true
passes_some p (Some x) is = refl
passes_some p None is = cc

module _ (tree : Members) (named : Field) where
  found_here : (b : Bool) (r : Row) (rows : List Row) (row : Row) → is_of named r ≡ b → Sound tree r
      → (row_of named rows ≡ Some row → Sound tree row × (word row.0 ≡ word named))
      → cond b (Some r) (row_of named rows) ≡ Some row → Sound tree row × (word row.0 ≡ word named)
  found_here true r rows row test sound next is = let same : r ≡ row = cc in rw (← same) (sound, (bytes_eq-Decides (word r.0) (word named)).0 test)
  found_here false r rows row test sound next is = next is

  -- the field's row is the field's, and has no fault
  found_row : (rows : List Row) (row : Row) → AllByRecursion (Sound tree) rows → row_of named rows ≡ Some row → Sound tree row × (word row.0 ≡ word named)
  found_row [] row all is = cc
  found_row (r ∷ rows) row all is = found_here (is_of named r) r rows row refl all.0 (found_row rows row all.1) is

  always_needed : (n : Need) → is_always n ≡ true → is_needed tree n ≡ true
  always_needed need.Always test = refl
  always_needed need.Never test = cc
  always_needed need.UnlessLeave test = cc
  always_needed need.WithoutValue test = cc
  always_needed need.WithBits test = cc
  always_needed need.WithoutLimit test = cc

  there_cases : (rows : List Row) (o : Option Row) → row_of named rows ≡ o → AllByRecursion (Sound tree) rows → is_always_there o ≡ true → Value tree named (shape_of o)
  there_cases rows (Some row) is all test =
      let (sound, same) = found_row rows row all is in
      let v = value_of tree row (in_field row.0 tree) refl (always_needed row.2 test) sound in
      record { value = v.value; found = ap (λ w. get_member w tree) (sym same) ∙ v.found; typed = v.typed; within = v.within }
  there_cases rows None is all test = cc

  -- a value of its type and in its range, where each item needs the field
  pub there : (rows : List Row) → field_faults rows tree ≡ [] → is_always_there (row_of named rows) ≡ true → Value tree named (shape_of (row_of named rows))
  there rows sound test = there_cases rows (row_of named rows) refl (all_sound rows tree sound) test

  numbers : (limit : ℕ) (s : Shape) → Value tree named s → is_up_to limit s ≡ true → Number tree named (lowest s) (highest s) × (highest s ≤ limit)
  numbers limit (shape.Number least most) v test = (number_cases tree named least most v.value (natural v.value) v.found refl v.within, grind (arith, nat_tests))
  numbers limit other v test = cc

  -- a number in its range, where each item has one of at most the limit
  pub numbered : (limit : ℕ) (rows : List Row) → field_faults rows tree ≡ [] → is_number limit (row_of named rows) ≡ true
      → Number tree named (least_of (row_of named rows)) (most_of (row_of named rows)) × (most_of (row_of named rows) ≤ limit)
  numbered limit rows sound test =
      let (always, up_to) = and_parts (is_always_there (row_of named rows)) (is_up_to limit (shape_of (row_of named rows))) test in
      numbers limit (shape_of (row_of named rows)) (there rows sound always) up_to

  naturals : (s : Shape) → Value tree named s → is_natural_shape s ≡ true → IsSome (number_in named tree)
  naturals shape.Natural v test = rw v.found v.within
  naturals shape.UpperNatural v test = rw v.found (passes_some (is_upper_natural tree) (natural v.value) v.within)
  naturals shape.MostLength v test = rw v.found (passes_some (is_most tree) (natural v.value) v.within)
  naturals shape.Stepped v test = rw v.found (passes_some (is_step tree) (natural v.value) v.within)
  naturals other v test = cc

  -- a natural number, where each item has one
  pub natural_there : (rows : List Row) → field_faults rows tree ≡ [] → is_natural (row_of named rows) ≡ true → IsSome (number_in named tree)
  natural_there rows sound test =
      let (always, natural) = and_parts (is_always_there (row_of named rows)) (is_natural_shape (shape_of (row_of named rows))) test in
      naturals (shape_of (row_of named rows)) (there rows sound always) natural

  tables_here : (s : Shape) (o : Option Data) → in_field named tree ≡ o → (typed : passes (λ d. not (has_type s d)) o ≡ false) → passes (λ d. not (is_in_range tree s d)) o ≡ false → is_array_shape s ≡ true
      → (list_all is_table (members_in named tree) ≡ true) × (length (members_in named tree) ≤ tables_in s)
  tables_here (shape.Tables most) o found typed within test = tables_of tree named most (record { present = refl; typed = rw found typed; within = rw found within })
  tables_here other o found typed within test = cc

  tables_cases : (rows : List Row) (o : Option Row) → row_of named rows ≡ o → AllByRecursion (Sound tree) rows → is_array o ≡ true
      → (list_all is_table (members_in named tree) ≡ true) × (length (members_in named tree) ≤ most_tables o)
  tables_cases rows (Some row) is all test =
      let (sound, same) = found_row rows row all is in
      tables_here row.1 (in_field row.0 tree) (ap (λ w. get_member w tree) (sym same)) sound.typed sound.within test
  tables_cases rows None is all test = cc

  -- an array of so many tables at most, where an item may have one
  pub tables_there : (rows : List Row) → field_faults rows tree ≡ [] → is_array (row_of named rows) ≡ true
      → (list_all is_table (members_in named tree) ≡ true) × (length (members_in named tree) ≤ most_tables (row_of named rows))
  tables_there rows sound test = tables_cases rows (row_of named rows) refl (all_sound rows tree sound) test
