-- The channels of a file without a fault have numbers that channels can have, and its LAN parameters are of channels that it lists.
use Rattle.std.proofs.Common.{◌≡◌, ℕ, zero, suc, ◌+◌, ◌==◌, ◌||◌, not, get_or, map, filter, List, [], ◌∷◌, ◌++◌, Bool, true, false, cond, if◌then◌else◌, length, Option, Some, None, refl, ap, subst, arith}
use Rattle.std.proofs.lemmas.Bool.{and_parts}
use Rattle.std.specs.List.{list_all, list_any, AllZip, AllByRecursion}
use Rattle.std.specs.Option.{option_map_or}
use Rattle.toml.specs.Data.{Data, Members}
use Rattle.record_base.specs.MaskLaws.{both}
use Rattle.record_base.specs.InOrder.{AreNumbered}
use Rattle.record_base.specs.declared.channel.Channel.{Channel}
use Rattle.record_base.specs.declared.lan.Lan.{Lan}
use Rattle.record_base.specs.Numbers.{ChannelNumber}
use Rattle.cfg_records.specs.BoardChannels.{channel_numbers, is_channel, are_listed}
use Rattle.text_fields.specs.declared.field.Field.TheVariants as field
use Rattle.text_fields.specs.declared.lan.LanShape.TheVariants as lan_shape
use Rattle.text_fields.specs.declared.row.Shape.TheVariants as shape
use Rattle.text_fields.specs.declared.row.Need.TheVariants as need
use Rattle.text_board.specs.declared.fault.FileFault.{FileFault}
use Rattle.text_board.specs.declared.fault.FileFault.TheVariants as file
use Rattle.text_board.specs.declared.fault.Item.TheVariants as item
use Rattle.text_board.specs.declared.lan_items.TheConstants.{NUMBERS}
use Rattle.text_board.specs.declared.tables.TheConstants.{CHANNEL}
use Rattle.text_fields.specs.Trees.{in_field, natural, number_in, members_in, table_of}
use Rattle.text_fields.specs.Ranges.{passes, or_zero}
use Rattle.text_fields.specs.Faults.{field_faults}
use Rattle.text_board.specs.Faults.{fault_at, is_taken, item_faults, has_sessions, session_rows, channel_rows, channel_faults, lan_faults}
use Rattle.text_board.specs.Holds.{IsChannelIn, IsNumberIn, serves, with_sessions, without_sessions, channel_of}
use Rattle.text_board.specs.LanItems.{has_number, is_number_of, listed_in, lan_rows, lans_in, IsLanIn}
use Rattle.text_fields.proofs.Rows.{Sound, all_sound, both_empty, value_of}
use Rattle.text_board.proofs.ChannelLists.{weaken}
use Rattle.text_board.proofs.ChannelFields.{EachSound, map_empty, each_sound}
use Rattle.text_board.proofs.BoardChannels.{numbers_in}

-- ---- tests of a list

or_more : (c r s : Bool) → (r ≡ true → s ≡ true) → (c || r) ≡ true → (c || s) ≡ true
or_more true r s more is = refl
or_more false r s more is = more is

or_step : (c a b s : Bool) → ((a || b) ≡ true → s ≡ true) → ((c || a) || b) ≡ true → (c || s) ≡ true
or_step true a b s more is = refl
or_step false a b s more is = more is

or_into : (c a b : Bool) → (c || (a || b)) ≡ true → ((c || a) || b) ≡ true
or_into true a b is = refl
or_into false a b is = is

or_over : (c a b : Bool) → (c || (a || b)) ≡ true → (a || (c || b)) ≡ true
or_over true true b is = refl
or_over true false b is = refl
or_over false a b is = is

or_each : (a b c d : Bool) → (a ≡ true → c ≡ true) → (b ≡ true → d ≡ true) → (a || b) ≡ true → (c || d) ≡ true
or_each a b true d first more is = refl
or_each true b false d first more is = absurd (let same : false ≡ true = first refl in cc)
or_each false b false d first more is = more is

module _ (test : ℕ → Bool) where
  all_here : (d : Data) (rest : List Data) (b : Bool) → test (channel_of d) ≡ true → list_all test (map channel_of rest) ≡ true → list_all test (map channel_of (cond b (d ∷ rest) rest)) ≡ true
  all_here d rest true here all = both (test (channel_of d)) (list_all test (map channel_of rest)) here all
  all_here d rest false here all = all

  all_kept : (p : Data → Bool) (ds : List Data) → AllByRecursion (λ d. test (channel_of d) ≡ true) ds → list_all test (map channel_of (filter p ds)) ≡ true
  all_kept p [] all = refl
  all_kept p (d ∷ ds) all = all_here d (filter p ds) (p d) all.0 (all_kept p ds all.1)

  all_joined : (ms ns : List ℕ) → list_all test ms ≡ true → list_all test ns ≡ true → list_all test (ms ++ ns) ≡ true
  all_joined [] ns a b = b
  all_joined (m ∷ ms) ns a b = let (here, more) = and_parts (test m) (list_all test ms) a in both (test m) (list_all test (ms ++ ns)) here (all_joined ms ns more b)

  any_here : (d : Data) (these those : List Data) (b : Bool) → (test (channel_of d) || (list_any test (map channel_of these) || list_any test (map channel_of those))) ≡ true
      → (list_any test (map channel_of (cond b (d ∷ these) these)) || list_any test (map channel_of (cond (not b) (d ∷ those) those))) ≡ true
  any_here d these those true is = or_into (test (channel_of d)) (list_any test (map channel_of these)) (list_any test (map channel_of those)) is
  any_here d these those false is = or_over (test (channel_of d)) (list_any test (map channel_of these)) (list_any test (map channel_of those)) is

  -- what one of all passes, one with sessions or one without does
  any_kept : (p : Data → Bool) (ds : List Data) → list_any (λ d. test (channel_of d)) ds ≡ true
      → (list_any test (map channel_of (filter p ds)) || list_any test (map channel_of (filter (λ d. not (p d)) ds))) ≡ true
  any_kept p [] is = is
  any_kept p (d ∷ ds) is =
      any_here d (filter p ds) (filter (λ e. not (p e)) ds) (p d)
      (or_more (test (channel_of d)) (list_any (λ e. test (channel_of e)) ds) (list_any test (map channel_of (filter p ds)) || list_any test (map channel_of (filter (λ e. not (p e)) ds))) (any_kept p ds) is)

  any_joined : (ms ns : List ℕ) → (list_any test ms || list_any test ns) ≡ true → list_any test (ms ++ ns) ≡ true
  any_joined [] ns is = is
  any_joined (m ∷ ms) ns is = or_step (test m) (list_any test ms) (list_any test ns) (list_any test (ms ++ ns)) (any_joined ms ns) is

any_from : (p q : Data → Bool) → ((d : Data) → p d ≡ true → q d ≡ true) → (ds : List Data) → list_any p ds ≡ true → list_any q ds ≡ true
any_from p q from [] is = is
any_from p q from (d ∷ ds) is = or_each (p d) (list_any p ds) (q d) (list_any q ds) (from d) (any_from p q from ds) is

-- ---- numbers that channels can have

known_zero : (o : Option ℕ) → passes is_channel o ≡ true → is_channel (or_zero o) ≡ true
known_zero (Some n) within = within
known_zero None within = cc

known_row : (tree : Members) → Sound tree (record { 0 = field.Number; 1 = shape.ChannelNumber; 2 = need.Always }) → is_channel (or_zero (number_in field.Number tree)) ≡ true
known_row tree sound =
    let v = value_of tree (record { 0 = field.Number; 1 = shape.ChannelNumber; 2 = need.Always }) (in_field field.Number tree) refl refl sound in
    rw v.found (known_zero (natural v.value) v.within)

known_rows : (users : ℕ) (tree : Members) (b : Bool) → has_sessions tree ≡ b → field_faults (channel_rows users tree) tree ≡ [] → is_channel (or_zero (number_in field.Number tree)) ≡ true
known_rows users tree true is none = known_row tree (all_sound (session_rows users) tree (rw is at none)).0
known_rows users tree false is none = known_row tree (all_sound CHANNEL tree (rw is at none)).0

each_known : (users : ℕ) (ds : List Data) → EachSound users ds → AllByRecursion (λ d. is_channel (channel_of d) ≡ true) ds
each_known users ds sound =
    weaken (λ d. field_faults (channel_rows users (table_of d)) (table_of d) ≡ []) (λ d. is_channel (channel_of d) ≡ true)
    (λ d none. known_rows users (table_of d) (has_sessions (table_of d)) refl none) ds sound

module _ (ds : List Data) (channels : List Channel) (sessionless : List ChannelNumber) (with : AllZip IsChannelIn (with_sessions ds) channels) (without : AllZip IsNumberIn (without_sessions ds) sessionless) where
  -- each channel has a number that a channel can have
  pub numbers_known : (users : ℕ) → channel_faults users ds ≡ [] → list_all is_channel (channel_numbers channels sessionless) ≡ true
  numbers_known users none =
      let known = each_known users ds (each_sound users ds none) in
      subst (λ (ns : List ℕ). list_all is_channel ns ≡ true) (numbers_in ds channels sessionless with without)
      (all_joined is_channel (map channel_of (with_sessions ds)) (map channel_of (without_sessions ds)) (all_kept is_channel serves ds known) (all_kept is_channel (λ d. not (serves d)) ds known))

  same_zero : (n : ℕ) (o : Option ℕ) → passes (λ m. m == n) o ≡ true → (or_zero o == n) ≡ true
  same_zero n (Some m) is = is
  same_zero n None is = cc

  -- a number that one of the members has is the number of a channel
  one_listed : (n : ℕ) → is_number_of ds n ≡ true → list_any (λ number. number == n) (channel_numbers channels sessionless) ≡ true
  one_listed n is =
      let one : list_any (λ d. channel_of d == n) ds ≡ true = any_from (has_number n) (λ d. channel_of d == n) (λ d. same_zero n (number_in field.Number (table_of d))) ds is in
      subst (λ (ns : List ℕ). list_any (λ number. number == n) ns ≡ true) (numbers_in ds channels sessionless with without)
      (any_joined (λ number. number == n) (map channel_of (with_sessions ds)) (map channel_of (without_sessions ds)) (any_kept (λ number. number == n) serves ds one))

-- ---- the channels of LAN parameters

found_in : (test : ℕ → Bool) (start : ℕ) (ns : List ℕ) (k : ℕ) → AreNumbered (λ (n : ℕ). n) start ns → get_or (map test ns) k false ≡ true → test (start + k) ≡ true
found_in test start [] k all is = cc
found_in test start (n ∷ ns) zero all is = let same = all.0 in subst (λ (m : ℕ). test m ≡ true) (omega (arith, same)) is
found_in test start (n ∷ ns) (suc k) all is = subst (λ (m : ℕ). test m ≡ true) (omega arith) (found_in test (start + 1) ns k all.1 is)

zero_first : (k : ℕ) → 0 + k ≡ k
zero_first k = omega arith

-- what the numbers from 0 on pass, the number at a place passes that is the place
found_first : (test : ℕ → Bool) (ns : List ℕ) (k : ℕ) → AreNumbered (λ (n : ℕ). n) 0 ns → get_or (map test ns) k false ≡ true → test k ≡ true
found_first test ns k all is = subst (λ (m : ℕ). test m ≡ true) (zero_first k) (found_in test 0 ns k all is)

are_numbers : AreNumbered (λ (n : ℕ). n) 0 NUMBERS
are_numbers = (refl, (refl, (refl, (refl, (refl, (refl, (refl, (refl, (refl, (refl, (refl, (refl, (refl, (refl, (refl, (refl, tt))))))))))))))))

listed_zero : (listed : List Bool) (o : Option ℕ) → option_map_or (λ n. get_or listed n false) o false ≡ true → get_or listed (or_zero o) false ≡ true
listed_zero listed (Some n) within = within
listed_zero listed None within = cc

listed_row : (listed : List Bool) (tree : Members) → Sound tree (record { 0 = field.Channel; 1 = shape.Lan (lan_shape.Channel listed); 2 = need.Always }) → get_or listed (or_zero (number_in field.Channel tree)) false ≡ true
listed_row listed tree sound =
    let v = value_of tree (record { 0 = field.Channel; 1 = shape.Lan (lan_shape.Channel listed); 2 = need.Always }) (in_field field.Channel tree) refl refl sound in
    rw v.found (listed_zero listed (natural v.value) v.within)

-- no member has a fault
lans_sound : (listed : List Bool) (seen ds : List Data) → item_faults item.Lan (λ _. lan_rows listed) field.Channel seen ds ≡ [] → AllByRecursion (λ d. field_faults (lan_rows listed) (table_of d) ≡ []) ds
lans_sound listed seen [] none = tt
lans_sound listed seen (d ∷ ds) none =
    let own : List FileFault = map (fault_at (item.Lan (length seen))) (field_faults (lan_rows listed) (table_of d)) in
    let twice : List FileFault = if is_taken field.Channel seen d then file.Twice (record { item = item.Lan (length seen); field = field.Channel }) ∷ [] else [] in
    let rest : List FileFault = item_faults item.Lan (λ _. lan_rows listed) field.Channel (seen ++ d ∷ []) ds in
    let (here, more) = both_empty own (twice ++ rest) none in
    let (fresh, behind) = both_empty twice rest more in
    (map_empty (fault_at (item.Lan (length seen))) (field_faults (lan_rows listed) (table_of d)) here, lans_sound listed (seen ++ d ∷ []) ds behind)

-- what a member's number passes, that of what it holds does
held_listed : (test : ℕ → Bool) (ds : List Data) (lans : List Lan) → AllByRecursion (λ d. test (or_zero (number_in field.Channel (table_of d))) ≡ true) ds → AllZip IsLanIn ds lans
    → list_all (λ (lan : Lan). test lan.number.number) lans ≡ true
held_listed test [] [] all zip = refl
held_listed test [] (l ∷ lans) all zip = absurd zip
held_listed test (d ∷ ds) [] all zip = absurd zip
held_listed test (d ∷ ds) (l ∷ lans) all zip =
    both (test l.number.number) (list_all (λ (lan : Lan). test lan.number.number) lans)
    (subst (λ (n : ℕ). test n ≡ true) (ap or_zero zip.0.numbered) all.0)
    (held_listed test ds lans all.1 zip.1)

-- all LAN parameters are of channels that are listed
pub lans_listed : (tree : Members) (channels : List Channel) (sessionless : List ChannelNumber) (lans : List Lan) → lan_faults tree ≡ []
    → AllZip IsChannelIn (with_sessions (members_in field.Channel tree)) channels → AllZip IsNumberIn (without_sessions (members_in field.Channel tree)) sessionless → AllZip IsLanIn (lans_in tree) lans
    → are_listed (channel_numbers channels sessionless) lans ≡ true
lans_listed tree channels sessionless lans none with without held =
    let items = members_in field.Channel tree in
    let is_one : ℕ → Bool = λ n. list_any (λ number. number == n) (channel_numbers channels sessionless) in
    held_listed is_one (lans_in tree) lans
    (weaken (λ d. field_faults (lan_rows (listed_in tree)) (table_of d) ≡ []) (λ d. is_one (or_zero (number_in field.Channel (table_of d))) ≡ true)
    (λ d sound. one_listed items channels sessionless with without (or_zero (number_in field.Channel (table_of d)))
    (found_first (is_number_of items) NUMBERS (or_zero (number_in field.Channel (table_of d))) are_numbers
    (listed_row (listed_in tree) (table_of d) (all_sound (lan_rows (listed_in tree)) (table_of d) sound).0)))
    (lans_in tree) (lans_sound (listed_in tree) [] (lans_in tree) none))
    held
