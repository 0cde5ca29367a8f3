-- What a channel of a file without a fault has in its fields.
use Rattle.std.proofs.Common.{◌≡◌, ℕ, zero, suc, ◌<◌, ◌≤◌, ◌==◌, length, get_or, map, filter, subst, List, [], ◌∷◌, ◌++◌, Bool, true, false, Option, Some, None, if◌then◌else◌, refl, sym, arith}
use Rattle.std.proofs.lemmas.Bool.{and_parts, cond_both}
use Rattle.std.proofs.lemmas.Bool.Decides.{nat_tests}
use Rattle.std.specs.List.{list_all, AllByRecursion}
use Rattle.record_base.specs.BoardSizes.{most_users}
use Rattle.toml.specs.Data.{Data, Members}
use Rattle.toml.specs.View.{view}
use Rattle.toml.specs.declared.value.Value.{Value}
use Rattle.text_fields.specs.declared.field.Field.TheVariants as field
use Rattle.text_board.specs.declared.fault.FileFault.{FileFault}
use Rattle.text_board.specs.declared.fault.FileFault.TheVariants as file
use Rattle.text_board.specs.declared.fault.Item.TheVariants as item
use Rattle.text_fields.specs.declared.row.Shape.TheVariants as shape
use Rattle.text_fields.specs.declared.row.Need.TheVariants as need
use Rattle.text_board.specs.declared.tables.TheConstants.{CHANNEL}
use Rattle.text_fields.specs.Trees.{in_field, natural, members, members_in, table_of, or_none, HasBelow}
use Rattle.text_fields.specs.Channels.{is_channel}
use Rattle.text_fields.specs.Ranges.{passes, may_do}
use Rattle.text_fields.specs.Faults.{field_faults}
use Rattle.text_board.specs.Faults.{fault_at, is_taken, item_faults, has_sessions, session_rows, channel_rows, channel_faults}
use Rattle.text_board.specs.Holds.{serves, with_sessions}
use Rattle.text_fields.proofs.Rows.{Sound, all_sound, both_empty, value_of}
use Rattle.text_board.proofs.ChannelLists.{FewUsers, weaken}

-- ---- numbers

channel_small : (n : ℕ) → is_channel n ≡ true → n < 16
channel_small n is = grind (arith, nat_tests)

channel_cases : (tree : Members) (d : Data) (o : Option ℕ) → in_field field.Number tree ≡ Some d → natural d ≡ o → passes is_channel o ≡ true → HasBelow 16 field.Number tree
channel_cases tree d (Some n) found is within = (n, (rw (found, is), channel_small n within))
channel_cases tree d None found is within = cc

pub channel_below : (tree : Members) → Sound tree (record { 0 = field.Number; 1 = shape.ChannelNumber; 2 = need.Always }) → HasBelow 16 field.Number tree
channel_below tree sound =
    let v = value_of tree (record { 0 = field.Number; 1 = shape.ChannelNumber; 2 = need.Always }) (in_field field.Number tree) refl refl sound in
    channel_cases tree v.value (natural v.value) v.found refl v.within

rows_below : (users : ℕ) (tree : Members) (b : Bool) → has_sessions tree ≡ b → field_faults (channel_rows users tree) tree ≡ [] → HasBelow 16 field.Number tree
rows_below users tree true is none = channel_below tree (all_sound (session_rows users) tree (rw is at none)).0
rows_below users tree false is none = channel_below tree (all_sound CHANNEL tree (rw is at none)).0

-- a channel without a fault has a number below 16
pub number_below : (users : ℕ) (tree : Members) → field_faults (channel_rows users tree) tree ≡ [] → HasBelow 16 field.Number tree
number_below users tree none = rows_below users tree (has_sessions tree) refl none

-- ---- sessions

-- the fields of a channel that has sessions
pub with_rows : (users : ℕ) (tree : Members) → has_sessions tree ≡ true → field_faults (channel_rows users tree) tree ≡ [] → field_faults (session_rows users) tree ≡ []
with_rows users tree is none = rw is at none

equal_from : (m n : ℕ) → (m == n) ≡ true → m ≡ n
equal_from m n is = grind (arith, nat_tests)

-- it says what each user may do
pub users_told : (users : ℕ) (tree : Members) → field_faults (session_rows users) tree ≡ []
    → (length (members_in field.Users tree) ≡ users) × (list_all may_do (members_in field.Users tree) ≡ true)
users_told users tree none =
    let sound = (all_sound (session_rows users) tree none).1.1.1.1.0 in
    let v = value_of tree (record { 0 = field.Users; 1 = shape.UserBytes users; 2 = need.Always }) (in_field field.Users tree) refl refl sound in
    let (long, all) = and_parts (length (or_none (members v.value)) == users) (list_all may_do (or_none (members v.value))) v.within in
    rw v.found (equal_from _ _ long, all)

-- ---- arrays

pub map_empty : {A B : Type 0} (f : A → B) (xs : List A) → map f xs ≡ [] → xs ≡ []
map_empty f [] is = refl
map_empty f (x ∷ xs) is = cc

-- no member has a fault
abbrev pub EachSound : ℕ → List Data → Type 0
EachSound users ds = AllByRecursion (λ d. field_faults (channel_rows users (table_of d)) (table_of d) ≡ []) ds

sound_behind : (users : ℕ) (seen ds : List Data) → item_faults item.Channel (channel_rows users) field.Number seen ds ≡ [] → EachSound users ds
sound_behind users seen [] none = tt
sound_behind users seen (d ∷ ds) none =
    let own : List FileFault = map (fault_at (item.Channel (length seen))) (field_faults (channel_rows users (table_of d)) (table_of d)) in
    let twice : List FileFault = if is_taken field.Number seen d then file.Twice (record { item = item.Channel (length seen); field = field.Number }) ∷ [] else [] in
    let rest : List FileFault = item_faults item.Channel (channel_rows users) field.Number (seen ++ d ∷ []) ds in
    let (here, more) = both_empty own (twice ++ rest) none in
    let (fresh, behind) = both_empty twice rest more in
    (map_empty (fault_at (item.Channel (length seen))) (field_faults (channel_rows users (table_of d)) (table_of d)) here, sound_behind users (seen ++ d ∷ []) ds behind)

pub each_sound : (users : ℕ) (ds : List Data) → channel_faults users ds ≡ [] → EachSound users ds
each_sound users ds none = sound_behind users [] ds none

at_each : (P : Data → Type 0) (vs : List Value) (i : ℕ) (v : Value) → AllByRecursion P (map view vs) → i < length vs → v ≡ get_or vs i v → P (view v)
at_each P [] i v all within is = absurd (omega arith)
at_each P (x ∷ vs) zero v all within is = subst (λ (y : Value). P (view y)) (sym is) all.0
at_each P (x ∷ vs) (suc i) v all within is = at_each P vs i v all.1 (omega arith) is

-- nor has the one at this place
pub sound_at : (users : ℕ) (vs : List Value) (i : ℕ) (v : Value) → channel_faults users (map view vs) ≡ [] → i < length vs → v ≡ get_or vs i v
    → field_faults (channel_rows users (table_of (view v))) (table_of (view v)) ≡ []
sound_at users vs i v none within is = at_each (λ d. field_faults (channel_rows users (table_of d)) (table_of d) ≡ []) vs i v (each_sound users (map view vs) none) within is

-- it says what so many users may do
abbrev pub HasUsers : ℕ → Data → Type 0
HasUsers users d = length (members_in field.Users (table_of d)) ≡ users

-- each that has sessions says what each user may do
pub each_told : (users : ℕ) (ds : List Data) → EachSound users ds → AllByRecursion (HasUsers users) (with_sessions ds)
each_told users [] sound = tt
each_told users (d ∷ ds) sound =
    cond_both (serves d) (d ∷ with_sessions ds) (with_sessions ds) (AllByRecursion (HasUsers users))
    (λ is. ((users_told users (table_of d) (with_rows users (table_of d) is sound.0)).0, each_told users ds sound.1))
    (λ is. each_told users ds sound.1)

-- each that has sessions says what at most `most_users` users may do
pub few_users : (users : ℕ) (ds : List Data) → users ≤ most_users → EachSound users ds → AllByRecursion FewUsers (with_sessions ds)
few_users users ds few sound = weaken (HasUsers users) FewUsers (λ d long. omega (arith, long, few)) (with_sessions ds) (each_told users ds sound)

-- ---- the members with sessions, and those without

kept_here : (p : Data → Bool) (d : Data) (b : Bool) → p d ≡ b → filter p (d ∷ []) ≡ (if b then d ∷ [] else [])
kept_here p d b is = rw is refl

pub kept : (p : Data → Bool) (d : Data) → p d ≡ true → filter p (d ∷ []) ≡ d ∷ []
kept p d is = kept_here p d true is

pub left_out : (p : Data → Bool) (d : Data) → p d ≡ false → filter p (d ∷ []) ≡ []
left_out p d is = kept_here p d false is
