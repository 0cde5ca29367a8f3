-- What an item `[[lan]]` of a file without a fault has in its fields.
use Rattle.std.proofs.Common.{◌≡◌, ℕ, zero, suc, ◌+◌, ◌<◌, length, get_or, slice_index, map, take, set, List, [], ◌∷◌, ◌++◌, Bool, true, false, ◌||◌, Option, Some, None, IsSome, refl, ap, arith}
use Rattle.std.proofs.lemmas.List.{take_more, take_more_set, map-append}
use Rattle.std.specs.List.{list_any}
use Rattle.std.specs.Option.{option_map_or}
use Rattle.toml.specs.Data.{Data, Members}
use Rattle.text_fields.specs.declared.field.Field.TheVariants as field
use Rattle.text_fields.specs.declared.lan.LanShape.TheVariants as lan_shape
use Rattle.text_fields.specs.declared.row.Shape.TheVariants as shape
use Rattle.text_fields.specs.declared.row.Need.TheVariants as need
use Rattle.text_fields.specs.Trees.{in_field, natural, HasBelow}
use Rattle.text_fields.proofs.Rows.{Sound, value_of}

-- ---- channels

-- what is listed is in the list
within_list : (listed : List Bool) (n : ℕ) → get_or listed n false ≡ true → n < length listed
within_list [] n is = cc
within_list (b ∷ listed) zero is = omega arith
within_list (b ∷ listed) (suc n) is = let within = within_list listed n is in omega (arith, within)

channel_cases : (listed : List Bool) (tree : Members) (d : Data) (o : Option ℕ) → length listed ≡ 16 → in_field field.Channel tree ≡ Some d → natural d ≡ o
    → option_map_or (λ n. get_or listed n false) o false ≡ true → HasBelow 16 field.Channel tree
channel_cases listed tree d (Some n) long found is within =
    let below = within_list listed n within in
    (n, (rw (found, is), omega (arith, below, long)))
channel_cases listed tree d None long found is within = cc

-- a channel that is listed has a number below 16
pub channel_below : (listed : List Bool) (tree : Members) → length listed ≡ 16 → Sound tree (record { 0 = field.Channel; 1 = shape.Lan (lan_shape.Channel listed); 2 = need.Always }) → HasBelow 16 field.Channel tree
channel_below listed tree long sound =
    let v = value_of tree (record { 0 = field.Channel; 1 = shape.Lan (lan_shape.Channel listed); 2 = need.Always }) (in_field field.Channel tree) refl refl sound in
    channel_cases listed tree v.value (natural v.value) long v.found refl v.within

-- ---- addresses

-- bytes that pass are there
pub some_bytes : (o : Option (List ℕ)) → option_map_or (λ bytes. true) o false ≡ true → IsSome o
some_bytes (Some bytes) is = refl
some_bytes None is = cc

-- ---- the channels that are listed

same_at : (numbers : List ℕ) (i a b : ℕ) → i < length numbers → get_or numbers i a ≡ get_or numbers i b
same_at [] i a b within = absurd (omega (arith, within))
same_at (n ∷ numbers) zero a b within = refl
same_at (n ∷ numbers) (suc i) a b within = same_at numbers i a b (omega (arith, within))

-- of one more number it is known whether it is listed
pub listed_more : (test : ℕ → Bool) (numbers : List ℕ) (listed : List Bool) (i : ℕ) → i < length numbers → i < length listed
    → take i listed ≡ map test (take i numbers) → take (i + 1) (set listed i (test (slice_index numbers i))) ≡ map test (take (i + 1) numbers)
listed_more test numbers listed i within inside so_far =
    let n = slice_index numbers i in
    let is : n ≡ get_or numbers i n = same_at numbers i 0 n within in
    rw (take_more numbers i n within, ← is, take_more_set listed i (test n) inside, map-append)
    (ap (λ bs. bs ++ test n ∷ []) so_far)

-- what one of the values passes, one of what they stand for does
pub any_of_map : {A B : Type 0} (p : B → Bool) (f : A → B) (xs : List A) → list_any (λ x. p (f x)) xs ≡ list_any p (map f xs)
any_of_map p f [] = refl
any_of_map p f (x ∷ xs) = ap (λ b. p (f x) || b) (any_of_map p f xs)
