-- The tables of a group, as they are read.
use Rattle.std.proofs.Common.{◌≡◌, ◌<◌, ◌++◌, ◌||◌, ℕ, zero, suc, Bool, List, [], ◌∷◌, Some, None, map, option_map, option_and_then, if◌then◌else◌, refl, take, length, get_or, ap, sym, ◌∙◌, arith}
use Rattle.std.proofs.lemmas.List.{take-map}
use Rattle.std.proofs.lemmas.List.Elements.{All-push}
use Rattle.std.proofs.lemmas.Option.{slice_get-map}
use Rattle.std.specs.List.{All, list_any, slice_get}
use Rattle.toml.specs.Data.{Data, Members}
use Rattle.toml.specs.View.{view}
use Rattle.toml.specs.declared.value.Value.{Value}
use Rattle.text_fields.specs.declared.field.Field.{Field}
use Rattle.text_fields.specs.Trees.{number_in, table_of}
use Rattle.text_board.specs.Faults.{same_number}
use Rattle.file_faults.specs.declared.group.Group.{Group}
use Rattle.file_faults.specs.declared.faults.TableFault.{TableFault}
use Rattle.file_faults.specs.declared.faults.TableFault.TheVariants as fault
use Rattle.file_faults.specs.declared.faults.Placed.{Placed}
use Rattle.file_faults.specs.Firsts.{fault_of, number_of, tables_of, twice, twice_in, IsFirstIn}

-- what is read at a place is there
get_there : {X : Type 0} (xs : List X) (i : ℕ) (x : X) → i < length xs → x ≡ get_or xs i x → slice_get xs i ≡ Some x
get_there [] i x within is = absurd (omega (arith, within))
get_there (y ∷ xs) zero x within is = ap Some (sym is)
get_there (y ∷ xs) (suc i) x within is = get_there xs i x (omega (arith, within)) is

-- the fault of one more table
pub one_more : (file : Members) (faults : List Placed) (of : Group) (place : ℕ) (vs : List Value) (v : Value) (why : TableFault)
    → place < length vs → v ≡ get_or vs place v → map table_of (map view vs) ≡ tables_of of file → All (IsFirstIn file) faults
    → fault_of of file (map table_of (map view (take place vs))) (table_of (view v)) ≡ Some why
    → All (IsFirstIn file) (faults ++ record { group = of; place = place; fault = why } ∷ [])
one_more file faults of place vs v why within is tables firsts first =
    let there = slice_get-map view vs place ∙ ap (option_map view) (get_there vs place v within is) in
    let found = slice_get-map table_of (map view vs) place ∙ ap (option_map table_of) there in
    let before = take-map table_of place (map view vs) ∙ ap (map table_of) (take-map view place vs) in
    All-push (IsFirstIn file) faults (record { group = of; place = place; fault = why }) firsts
    (record {
      tree = table_of (view v);
      there = ap (λ ts. slice_get ts place) (sym tables) ∙ found;
      first = ap (λ ts. fault_of of file (take place ts) (table_of (view v))) (sym tables) ∙ ap (λ ts. fault_of of file ts (table_of (view v))) before ∙ first;
    })

-- the fault of the only table
pub only_one : (file : Members) (faults : List Placed) (of : Group) (tree : Members) (why : TableFault)
    → tables_of of file ≡ tree ∷ [] → All (IsFirstIn file) faults → fault_of of file [] tree ≡ Some why
    → All (IsFirstIn file) (faults ++ record { group = of; place = 0; fault = why } ∷ [])
only_one file faults of tree why tables firsts first =
    All-push (IsFirstIn file) faults (record { group = of; place = 0; fault = why }) firsts
    (record { tree = tree; there = ap (λ ts. slice_get ts 0) tables; first = first })

-- ---- tables with one number

any_map : {A B : Type 0} (test : B → Bool) (shows : A → B) (xs : List A) → list_any test (map shows xs) ≡ list_any (λ x. test (shows x)) xs
any_map test shows [] = refl
any_map test shows (x ∷ xs) = ap (λ b. test (shows x) || b) (any_map test shows xs)

-- that a table before has the number, by whether one was found
pub is_twice : (of : Group) (before : List Value) (tree : Members) (named : Field) (found there : Bool) → number_of of ≡ Some named
    → found ≡ list_any (λ value. same_number (number_in named (table_of (view value))) (number_in named tree)) before → found ≡ there
    → (if there then Some (fault.Twice named) else None) ≡ twice of (map table_of (map view before)) tree
is_twice of before tree named found there number any is =
    let test = λ (other : Members). same_number (number_in named other) (number_in named tree) in
    let all = any_map test table_of (map view before) ∙ any_map (λ (d : Data). test (table_of d)) view before in
    sym (ap (option_and_then (twice_in (map table_of (map view before)) tree)) number
    ∙ ap (λ (b : Bool). if b then Some (fault.Twice named) else None) (all ∙ sym any ∙ is))
