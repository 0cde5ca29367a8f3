-- Keys that compare alike are one.
use Rattle.std.proofs.Common.{◌≡◌, ℕ, true, refl, ap, nat_cmp, arith}
use Rattle.std.specs.Ordering.{is_eq, ordering_then}
use Rattle.std.proofs.lemmas.Map.Lookups.{exact_unsigned}
use Rattle.std.specs.Cmp.{IsTotalOrder, eq_by_cmp_equiv}
use Rattle.std.specs.declared.cmp.Ordering.{Ordering}
use Rattle.std.specs.declared.cmp.Ordering.TheVariants.{Less, Equal, Greater}
use Rattle.record_base.specs.declared.key.Key.{Key}
use Rattle.record_base.specs.declared.key.Key.TheVariants as key
use Rattle.record_base.specs.declared.boot_param.BootParameter.TheVariants.{ValidBitClearing, InfoAcknowledge, Flags}
use Rattle.record_base.specs.contracts.key.KeyOrd.TheImpl.Laws as key_laws
use Rattle.record_base.specs.Numbers.{ChannelNumber, UserNumber}
use Rattle.record_base.specs.declared.user.UserOnChannel.{UserOnChannel}
use Rattle.record_base.specs.declared.channel.StoredAccess.{StoredAccess}
use Rattle.record_base.specs.declared.channel.AccessStore.{AccessStore}
use Rattle.record_base.specs.declared.channel.AccessStore.TheVariants.{NonVolatile, Volatile, Neither}
use Rattle.record_base.specs.contracts.channel.AccessStoreOrd.TheImpl as store_ord
use Rattle.record_base.specs.declared.bit_field.BitField.{BitField}
use Rattle.record_base.specs.NumberLaws.{same_field}
use Rattle.record_base.specs.LanLaws.{exact_on}
use Rattle.record_base.specs.Keys.{key_cmp, same_key}

-- the order of stores
abbrev store_cmp : AccessStore → AccessStore → Ordering
store_cmp = (store_ord.ghosts).cmp

abbrev stored : ChannelNumber → AccessStore → StoredAccess
stored channel store = record { channel = channel; store = store }

-- the order of keys is total
pub key_total : IsTotalOrder key_cmp
key_total = key_laws.total-law

equal_from_is_eq : (r : Ordering) → is_eq r ≡ true → r ≡ Equal
equal_from_is_eq Less h = cc
equal_from_is_eq Equal h = refl
equal_from_is_eq Greater h = cc

-- two comparisons of which the second decides where the first doesn't
then_equal : (r s : Ordering) → is_eq (ordering_then r s) ≡ true → (is_eq r ≡ true) × (is_eq s ≡ true)
then_equal Equal s h = (refl, h)
then_equal Less s h = cc
then_equal Greater s h = cc

exact_field : {bits : ℕ} (a b : BitField bits) → is_eq (nat_cmp a.number b.number) ≡ true → a ≡ b
exact_field a b h = same_field a b (exact_unsigned a.number b.number (equal_from_is_eq _ h))

-- parts that are one make one whole
users_on : (c d : ChannelNumber) (u v : UserNumber) → c ≡ d → u ≡ v → (let a : UserOnChannel = record { channel = c; user = u } in a) ≡ record { channel = d; user = v }
users_on c d u v p q i = record { channel = p i; user = q i }

exact_user_on : (a b : UserOnChannel) → is_eq (ordering_then (nat_cmp a.channel.number b.channel.number) (nat_cmp a.user.number b.user.number)) ≡ true → a ≡ b
exact_user_on a b h = let parts = then_equal _ _ h in users_on a.channel b.channel a.user b.user (exact_field _ _ parts.0) (exact_field _ _ parts.1)

exact_store : (s t : AccessStore) → is_eq (store_cmp s t) ≡ true → s ≡ t
exact_store NonVolatile NonVolatile h = refl
exact_store Volatile Volatile h = refl
exact_store Neither Neither h = refl
exact_store _ _ h = cc

stores_of : (c d : ChannelNumber) (s t : AccessStore) → c ≡ d → s ≡ t → stored c s ≡ stored d t
stores_of c d s t p q i = stored (p i) (q i)

exact_stored : (a b : StoredAccess) → is_eq (ordering_then (nat_cmp a.channel.number b.channel.number) (store_cmp a.store b.store)) ≡ true → a ≡ b
exact_stored a b h = let parts = then_equal _ _ h in stores_of a.channel b.channel a.store b.store (exact_field _ _ parts.0) (exact_store _ _ parts.1)

-- numbers that compare alike are one
exact_number : (a b : ℕ) → is_eq (nat_cmp a b) ≡ true → a ≡ b
exact_number a b h = exact_unsigned a b (equal_from_is_eq _ h)

-- keys that compare alike are one: a line for each kind whose records have no number, or more than a number, for a name
pub exact_key : (a b : Key) → same_key a b ≡ true → a ≡ b
exact_key (key.BootParam ValidBitClearing) (key.BootParam ValidBitClearing) h = refl
exact_key (key.BootParam InfoAcknowledge) (key.BootParam InfoAcknowledge) h = refl
exact_key (key.BootParam Flags) (key.BootParam Flags) h = refl
exact_key (key.UserName a) (key.UserName b) h = ap key.UserName (exact_field a b h)
exact_key (key.UserAccess a) (key.UserAccess b) h = ap key.UserAccess (exact_user_on a b h)
exact_key (key.ChannelAccess a) (key.ChannelAccess b) h = ap key.ChannelAccess (exact_stored a b h)
exact_key (key.LanParam a) (key.LanParam b) h = ap key.LanParam (exact_on exact_field a b h)
exact_key key.PowerPolicy key.PowerPolicy h = refl
exact_key key.Watchdog key.Watchdog h = refl
exact_key key.GlobalEnables key.GlobalEnables h = refl
exact_key _ _ h = grind (arith, exact_number)

-- a key compares alike with itself
pub same_key_self : (k : Key) → same_key k k ≡ true
same_key_self k = (eq_by_cmp_equiv key_total).refl k
