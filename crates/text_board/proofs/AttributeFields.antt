-- The BIOS attributes of a file, and what an item of an attribute has in its fields.
use Rattle.std.proofs.Common.{◌≡◌, ℕ, ◌+◌, ◌<◌, ◌≤◌, nat_le, nat_lt, length, get_or, map, drop, List, [], ◌∷◌, ◌++◌, Bool, true, false, ◌&&◌, ◌||◌, Option, Some, None, is_some, if◌then◌else◌, refl, sym, ap, ◌∙◌, arith, codes}
use Rattle.std.proofs.lemmas.Bool.{and_parts}
use Rattle.std.proofs.lemmas.Bool.Decides.{nat_tests}
use Rattle.std.proofs.lemmas.Option.{same_Some}
use Rattle.std.proofs.lemmas.Slice.Zip.{AllZip-long}
use Rattle.std.specs.List.{list_all, AllZip}
use Rattle.std.specs.Str.{bytes_eq}
use Rattle.toml.specs.Data.{Data, Members, as_str}
use Rattle.toml.specs.View.{view}
use Rattle.toml.specs.declared.value.Value.{Value as AnyValue}
use Rattle.record_base.specs.AttributeSizes.{most_indexes, most_text}
use Rattle.record_base.specs.AttributeRange.{AllowsIndexes, AllowsText, AllowsNumber}
use Rattle.record_base.specs.AttributeRangeLaws.{true_le, true_allows}
use Rattle.record_base.specs.declared.attribute_range.AttributeRange.TheVariants as range
use Rattle.record_base.specs.declared.attribute_range.IntegerSteps.{IntegerSteps}
use Rattle.record_base.specs.declared.attribute_range.TextLengths.{TextLengths}
use Rattle.record_base.specs.declared.attribute_value.AttributeValue.TheVariants as value
use Rattle.text_fields.specs.declared.field.Field.{Field}
use Rattle.text_fields.specs.declared.field.Field.TheVariants as field
use Rattle.text_board.specs.declared.fault.FileFault.{FileFault}
use Rattle.text_fields.specs.declared.row.Shape.TheVariants as shape
use Rattle.text_fields.specs.declared.row.Row.{Row}
use Rattle.text_board.specs.declared.tables.TheConstants.{ATTRIBUTE, ENUMERATION, STRING, INTEGER}
use Rattle.text_fields.specs.Trees.{natural, IsNaturalIn, members, members_in, number_in, table_of, or_none}
use Rattle.text_fields.specs.Attributes.{text_within, text_of, string_of, is_kind, is_below, are_values, are_indexes, is_as_long, is_stepped}
use Rattle.text_fields.specs.Ranges.{passes, has_text, is_between, is_sized_text, is_step}
use Rattle.text_fields.specs.Faults.{field_faults, first}
use Rattle.text_board.specs.Faults.{attribute_rows, attribute_faults_at, attribute_faults_from}
use Rattle.text_fields.proofs.Rows.{Value}
use Rattle.text_fields.proofs.CheckedRows.{there}
use Rattle.text_fields.proofs.First.{first-append}
use Rattle.text_fields.proofs.Members.{left_over, listed}
use Rattle.text_fields.proofs.TestFacts.{both_true}

-- ---- enumerations

-- at most 16 possible values, each a text
pub values_are : (ds : List Data) → are_values ds ≡ true → (length ds ≤ most_indexes) × (list_all (λ d. is_some (text_of d)) ds ≡ true)
values_are ds are =
    let (some, more) = and_parts (nat_le 1 (length ds)) (nat_le (length ds) most_indexes && list_all (λ d. is_some (text_of d)) ds) are in
    let (few, all) = and_parts (nat_le (length ds) most_indexes) (list_all (λ d. is_some (text_of d)) ds) more in
    (true_le _ most_indexes few, all)

-- so many has the item
pub few_values : (tree : Members) → field_faults ENUMERATION tree ≡ [] → length (members_in field.Values tree) ≤ most_indexes
few_values tree sound =
    let v = there tree field.Values ENUMERATION sound refl in
    rw v.found (values_are (or_none (members v.value)) v.within).0

below_more : (m n : ℕ) (o : Option ℕ) → m ≤ n → is_below m o ≡ true → is_below n o ≡ true
below_more m n (Some k) most is = grind (arith, nat_tests)
below_more m n None most is = cc

all_below_more : (m n : ℕ) (ds : List Data) → m ≤ n → list_all (λ d. is_below m (natural d)) ds ≡ true → list_all (λ d. is_below n (natural d)) ds ≡ true
all_below_more m n [] most all = refl
all_below_more m n (d ∷ ds) most all =
    let (here, more) = and_parts (is_below m (natural d)) (list_all (λ d. is_below m (natural d)) ds) all in
    both_true (is_below n (natural d)) (list_all (λ d. is_below n (natural d)) ds) (below_more m n (natural d) most here) (all_below_more m n ds most more)

-- indexes of at most 16 values are bytes
pub all_bytes : (count : ℕ) (ds : List Data) → count ≤ most_indexes → are_indexes count count ds ≡ true → list_all (λ d. is_below 256 (natural d)) ds ≡ true
all_bytes count ds few are = all_below_more count 256 ds (omega (arith, few)) (listed count count ds are).all

here_known : (count n : ℕ) (o : Option ℕ) → o ≡ Some n → is_below count o ≡ true → nat_lt n count ≡ true
here_known count n (Some m) same is = let told : m ≡ n = cc in rw (← told) is
here_known count n None same is = cc

all_known : (count : ℕ) (ds : List Data) (ns : List ℕ) → list_all (λ d. is_below count (natural d)) ds ≡ true → AllZip IsNaturalIn ds ns → list_all (λ (index : ℕ). nat_lt index count) ns ≡ true
all_known count [] [] all zip = refl
all_known count [] (n ∷ ns) all zip = absurd zip
all_known count (d ∷ ds) [] all zip = absurd zip
all_known count (d ∷ ds) (n ∷ ns) all zip =
    let (here, more) = and_parts (is_below count (natural d)) (list_all (λ d. is_below count (natural d)) ds) all in
    both_true (nat_lt n count) (list_all (λ (index : ℕ). nat_lt index count) ns) (here_known count n (natural d) zip.0 here) (all_known count ds ns more zip.1)

-- an enumeration of so many values can have these indexes
pub indexes_allowed : (count : ℕ) (ds : List Data) (ns : List ℕ) → are_indexes count count ds ≡ true → AllZip IsNaturalIn ds ns → AllowsIndexes count ns
indexes_allowed count ds ns are zip =
    let there = listed count count ds are in
    let long : length ns ≡ length ds = AllZip-long IsNaturalIn ds ns zip in
    record { some = rw long (true_le 1 _ there.some); few = rw long there.few; known = all_known count ds ns there.all zip }

-- ---- strings

most_cases : (least : Option ℕ) (most : ℕ) → passes (λ least. is_between least most_text most) least ≡ true → most ≤ most_text
most_cases (Some least) most within = true_le most most_text (and_parts (nat_le least most) (nat_le most most_text) within).1
most_cases None most within = cc

-- the length that the item has as its most
pub most_told : (tree : Members) (most : ℕ) → Value tree field.Most shape.MostLength → number_in field.Most tree ≡ Some most → most ≤ most_text
most_told tree most v is =
    let found : natural v.value ≡ Some most = rw v.found at is in
    most_cases (number_in field.Least tree) most (rw found at v.within)

-- a text of a length between these
pub record SizedText (d : Data) (lengths : TextLengths) : Type 0 where
  pub text : List ℕ
  pub found : string_of d ≡ Some text
  pub sized : is_as_long lengths.least lengths.most text ≡ true

short : (text : List ℕ) → length text ≤ most_text → text_within most_text text ≡ Some text
short text few = let small : nat_le (length text) most_text ≡ true = grind (arith, nat_tests) in rw small refl

sized_cases : (tree : Members) (d : Data) (o : Option (List ℕ)) (lengths : TextLengths) → number_in field.Least tree ≡ Some lengths.least → number_in field.Most tree ≡ Some lengths.most
    → as_str d ≡ o → passes (is_sized_text tree) o ≡ true → SizedText d lengths
sized_cases tree d (Some text) lengths least most is within =
    let whole : is_sized_text tree text ≡ true = within in
    let sized : is_as_long lengths.least lengths.most text ≡ true = rw (least, most) at whole in
    let (low, high) = and_parts (nat_le lengths.least (length text)) (nat_le (length text) lengths.most) sized in
    let upper : length text ≤ lengths.most = true_le _ lengths.most high in
    let few : lengths.most ≤ most_text = lengths.few in
    record { text = text; found = rw is (short text (omega (arith, few, upper))); sized = sized }
sized_cases tree d None lengths least most is within = cc

pub sized_text : (tree : Members) (d : Data) (lengths : TextLengths) → number_in field.Least tree ≡ Some lengths.least → number_in field.Most tree ≡ Some lengths.most
    → passes (is_sized_text tree) (as_str d) ≡ true → SizedText d lengths
sized_text tree d lengths least most within = sized_cases tree d (as_str d) lengths least most refl within

pub sized_is : (d : Data) (lengths : TextLengths) (text : List ℕ) → SizedText d lengths → string_of d ≡ Some text → AllowsText lengths text
sized_is d lengths text there is =
    let same : there.text ≡ text = same_Some there.text text (sym there.found ∙ is) in
    true_allows (range.Text lengths) (value.Text text) (rw (← same) there.sized)

-- ---- integers

-- an integer with these steps can have the number
pub step_allowed : (tree : Members) (named : Field) (steps : IntegerSteps) (n : ℕ) → number_in field.Lower tree ≡ Some steps.lower → number_in field.Upper tree ≡ Some steps.upper
    → number_in field.Increment tree ≡ Some steps.increment → number_in named tree ≡ Some n → Value tree named shape.Stepped → AllowsNumber steps n
step_allowed tree named steps n lower upper increment is v =
    let found : natural v.value ≡ Some n = rw v.found at is in
    let within : is_step tree n ≡ true = rw found at v.within in
    let stepped : is_stepped steps.lower steps.upper steps.increment n ≡ true = rw (lower, upper, increment) at within in
    true_allows (range.Integer steps) (value.Number n) stepped

-- ---- kinds

third : (a b c : Bool) → (a || (b || c)) ≡ true → a ≡ false → b ≡ false → c ≡ true
third true b c some none also = cc
third false true c some none also = cc
third false false c some none also = some

kind_cases : (o : Option (List ℕ)) → passes is_kind o ≡ true → passes (λ found. bytes_eq found (codes "enumeration")) o ≡ false → passes (λ found. bytes_eq found (codes "string")) o ≡ false
    → passes (λ found. bytes_eq found (codes "integer")) o ≡ true
kind_cases (Some text) is not_first not_second = third (bytes_eq text (codes "enumeration")) (bytes_eq text (codes "string")) (bytes_eq text (codes "integer")) is not_first not_second
kind_cases None is not_first not_second = cc

-- an item of neither of two kinds is of the third
third_kind : (tree : Members) → Value tree field.Kind shape.AttributeKind → has_text field.Kind (codes "enumeration") tree ≡ false
    → has_text field.Kind (codes "string") tree ≡ false → has_text field.Kind (codes "integer") tree ≡ true
third_kind tree v not_first not_second =
    rw v.found (kind_cases (as_str v.value) v.within (rw v.found at not_first) (rw v.found at not_second))

integer_cases : (tree : Members) (b : Bool) → has_text field.Kind (codes "integer") tree ≡ b → has_text field.Kind (codes "enumeration") tree ≡ false → has_text field.Kind (codes "string") tree ≡ false
    → field_faults (if b then INTEGER else ATTRIBUTE) tree ≡ [] → b ≡ true
integer_cases tree true is not_first not_second sound = refl
integer_cases tree false is not_first not_second sound =
    sym is ∙ third_kind tree (there tree field.Kind ATTRIBUTE sound refl) not_first not_second

pub names_integer : (tree : Members) → has_text field.Kind (codes "enumeration") tree ≡ false → has_text field.Kind (codes "string") tree ≡ false → field_faults (attribute_rows tree) tree ≡ []
    → has_text field.Kind (codes "integer") tree ≡ true
names_integer tree not_first not_second sound =
    integer_cases tree (has_text field.Kind (codes "integer") tree) refl not_first not_second (rw (not_first, not_second) at sound)

kind_rows : (P : List Row → Type 0) → P ENUMERATION → P STRING → P INTEGER → P ATTRIBUTE → (a b c : Bool) → P (if a then ENUMERATION else (if b then STRING else (if c then INTEGER else ATTRIBUTE)))
kind_rows P e s i o true b c = e
kind_rows P e s i o false true c = s
kind_rows P e s i o false false true = i
kind_rows P e s i o false false false = o

-- what the rows of each kind have, an attribute's have
pub each_kind : (P : List Row → Type 0) → P ENUMERATION → P STRING → P INTEGER → P ATTRIBUTE → (tree : Members) → P (attribute_rows tree)
each_kind P e s i o tree = kind_rows P e s i o (has_text field.Kind (codes "enumeration") tree) (has_text field.Kind (codes "string") tree) (has_text field.Kind (codes "integer") tree)

-- ---- the faults of those that are left

module _ (vs : List AnyValue) (i : ℕ) (v : AnyValue) (within : i < length vs) (is : v ≡ get_or vs i v) where
  pub attributes_left : attribute_faults_at i (table_of (view v)) ≡ [] → attribute_faults_from i (map view (drop i vs)) ≡ attribute_faults_from (i + 1) (map view (drop (i + 1) vs))
  attributes_left sound = ap (attribute_faults_from i) (left_over vs i v within is) ∙ ap (λ (faults : List FileFault). faults ++ attribute_faults_from (i + 1) (map view (drop (i + 1) vs))) sound

  pub attribute_first : (why : FileFault) → first (attribute_faults_at i (table_of (view v))) ≡ Some why → first (attribute_faults_from i (map view (drop i vs))) ≡ Some why
  attribute_first why counts = ap (λ ds. first (attribute_faults_from i ds)) (left_over vs i v within is) ∙ first-append _ _ why counts
