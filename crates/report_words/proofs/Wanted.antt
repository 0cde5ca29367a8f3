-- The names that are wanted, one record more.
use Rattle.std.proofs.Common.{◌≡◌, ◌∙◌, ℕ, ◌+◌, ◌<◌, Bool, true, false, ◌||◌, ◌==◌, List, [], ◌∷◌, ◌++◌, length, take, get_or, Option, Some, None, refl, sym, ap, subst, if◌then◌else◌, arith}
use Rattle.std.specs.List.{All, find, list_any}
use Rattle.std.proofs.lemmas.Bool.{eqb-true}
use Rattle.std.proofs.lemmas.List.Elements.{All-push}
use Rattle.std.proofs.lemmas.List.Folds.{list_any-append, list_any_more}
use Rattle.record_base.specs.declared.key.Key.{Key}
use Rattle.record_base.specs.declared.key.Key.TheVariants as key
use Rattle.report_words.specs.declared.table_names.AttributeName.{AttributeName}
use Rattle.report_words.specs.declared.table_names.Names.{Names}
use Rattle.report_words.specs.declared.table_names.SensorName.{SensorName}
use Rattle.report_words.specs.TableNames.{AreWanted, KnowsNone, WantsOf, attribute_of, is_at, is_of_handle, is_of_number, name_of_attribute, name_of_sensor, sensor_of, unnamed_attribute, unread_sensor, with_attribute, with_sensor}

-- ---- no name is known where none is wanted

pub none_known : (names : Names) → names.sensors.items ≡ [] → names.attributes.items ≡ [] → KnowsNone names
none_known names sensors attributes (key.Thresholds number) = ap (λ (l : List SensorName). name_of_sensor (find (is_of_number number) l)) sensors
none_known names sensors attributes (key.Hysteresis number) = ap (λ (l : List SensorName). name_of_sensor (find (is_of_number number) l)) sensors
none_known names sensors attributes (key.EventEnable number) = ap (λ (l : List SensorName). name_of_sensor (find (is_of_number number) l)) sensors
none_known names sensors attributes (key.BiosAttribute handle) = ap (λ (l : List AttributeName). name_of_attribute (find (is_of_handle handle) l)) attributes
none_known names sensors attributes _ = refl

-- ---- one more

or-false : (b : Bool) → (b || false) ≡ b
or-false true = refl
or-false false = refl

or-true : (b : Bool) → (b || true) ≡ true
or-true true = refl
or-true false = refl

module _ {X : Type 0} (is_of : ℕ → X → Bool) (fresh : ℕ → X) (is_fresh : (n m : ℕ) → is_of n (fresh m) ≡ (m == n)) where
  -- one is there already, or is put behind the others
  any_one : (number other : ℕ) (xs : List X) (there : Bool) → list_any (is_of other) xs ≡ there
      → list_any (is_of number) (if there then xs else xs ++ fresh other ∷ []) ≡ (list_any (is_of number) xs || (other == number))
  any_one number other xs false is =
      list_any-append (is_of number) xs (fresh other ∷ [])
      ∙ ap (λ (b : Bool). list_any (is_of number) xs || b) (or-false (is_of number (fresh other)) ∙ is_fresh number other)
  any_one number other xs true is = by (other == number) refl where
    by : (same : Bool) → (other == number) ≡ same → list_any (is_of number) xs ≡ (list_any (is_of number) xs || same)
    by false differ = sym (or-false (list_any (is_of number) xs))
    by true same =
        let there : list_any (is_of number) xs ≡ true = subst (λ (n : ℕ). list_any (is_of n) xs ≡ true) (eqb-true other number same) is in
        there ∙ sym (or-true (list_any (is_of number) xs))

any_sensor : (number : ℕ) (sensor : Option ℕ) (sensors : List SensorName) → list_any (is_of_number number) (with_sensor sensor sensors) ≡ (list_any (is_of_number number) sensors || is_at number sensor)
any_sensor number None sensors = sym (or-false (list_any (is_of_number number) sensors))
any_sensor number (Some other) sensors = any_one is_of_number unread_sensor (λ n m. refl) number other sensors (list_any (is_of_number other) sensors) refl

any_attribute : (handle : ℕ) (attribute : Option ℕ) (attributes : List AttributeName)
    → list_any (is_of_handle handle) (with_attribute attribute attributes) ≡ (list_any (is_of_handle handle) attributes || is_at handle attribute)
any_attribute handle None attributes = sym (or-false (list_any (is_of_handle handle) attributes))
any_attribute handle (Some other) attributes = any_one is_of_handle unnamed_attribute (λ n m. refl) handle other attributes (list_any (is_of_handle other) attributes) refl

abbrev IsUnread : SensorName → Type 0
IsUnread sensor = sensor ≡ unread_sensor sensor.number

abbrev IsUnnamed : AttributeName → Type 0
IsUnnamed attribute = attribute ≡ unnamed_attribute attribute.handle

all_unread : (sensor : Option ℕ) (sensors : List SensorName) → All IsUnread sensors → All IsUnread (with_sensor sensor sensors)
all_unread None sensors all = all
all_unread (Some number) sensors all = by (list_any (is_of_number number) sensors) where
  by : (there : Bool) → All IsUnread (if there then sensors else sensors ++ unread_sensor number ∷ [])
  by true = all
  by false = All-push IsUnread sensors (unread_sensor number) all refl

all_unnamed : (attribute : Option ℕ) (attributes : List AttributeName) → All IsUnnamed attributes → All IsUnnamed (with_attribute attribute attributes)
all_unnamed None attributes all = all
all_unnamed (Some handle) attributes all = by (list_any (is_of_handle handle) attributes) where
  by : (there : Bool) → All IsUnnamed (if there then attributes else attributes ++ unnamed_attribute handle ∷ [])
  by true = all
  by false = All-push IsUnnamed attributes (unnamed_attribute handle) all refl

-- one that isn't there already is put behind the others
pub sensor_added : (sensor : Option ℕ) (number : ℕ) (sensors : List SensorName) → sensor ≡ Some number → list_any (is_of_number number) sensors ≡ false
    → with_sensor sensor sensors ≡ sensors ++ unread_sensor number ∷ []
sensor_added sensor number sensors is none =
    ap (λ (s : Option ℕ). with_sensor s sensors) is ∙ ap (λ (there : Bool). if there then sensors else sensors ++ unread_sensor number ∷ []) none

pub attribute_added : (attribute : Option ℕ) (handle : ℕ) (attributes : List AttributeName) → attribute ≡ Some handle → list_any (is_of_handle handle) attributes ≡ false
    → with_attribute attribute attributes ≡ attributes ++ unnamed_attribute handle ∷ []
attribute_added attribute handle attributes is none =
    ap (λ (a : Option ℕ). with_attribute a attributes) is ∙ ap (λ (there : Bool). if there then attributes else attributes ++ unnamed_attribute handle ∷ []) none

-- ---- the names of records, one after another

pub none_wanted : (names : Names) → names.sensors.items ≡ [] → names.attributes.items ≡ [] → AreWanted [] names
none_wanted names sensors attributes = record {
  sensors = λ number. ap (list_any (is_of_number number)) sensors;
  attributes = λ handle. ap (list_any (is_of_handle handle)) attributes;
  unread = subst (All IsUnread) (sym sensors) (λ k d within. absurd (omega (arith, within)));
  unnamed = subst (All IsUnnamed) (sym attributes) (λ k d within. absurd (omega (arith, within)));
}

pub wants_more : (keys : List Key) (place : ℕ) (one : Key) (old new : Names) → place < length keys → one ≡ get_or keys place one → AreWanted (take place keys) old → WantsOf one old new
    → AreWanted (take (place + 1) keys) new
wants_more keys place one old new within at was wants = record {
  sensors = λ number.
      ap (list_any (is_of_number number)) wants.sensors ∙ any_sensor number (sensor_of one) old.sensors.items
      ∙ ap (λ (b : Bool). b || is_at number (sensor_of one)) (was.sensors number)
      ∙ ap (λ (k : Key). list_any (λ (other : Key). is_at number (sensor_of other)) (take place keys) || is_at number (sensor_of k)) at
      ∙ sym (list_any_more (λ (other : Key). is_at number (sensor_of other)) keys place one within);
  attributes = λ handle.
      ap (list_any (is_of_handle handle)) wants.attributes ∙ any_attribute handle (attribute_of one) old.attributes.items
      ∙ ap (λ (b : Bool). b || is_at handle (attribute_of one)) (was.attributes handle)
      ∙ ap (λ (k : Key). list_any (λ (other : Key). is_at handle (attribute_of other)) (take place keys) || is_at handle (attribute_of k)) at
      ∙ sym (list_any_more (λ (other : Key). is_at handle (attribute_of other)) keys place one within);
  unread = subst (All IsUnread) (sym wants.sensors) (all_unread (sensor_of one) old.sensors.items was.unread);
  unnamed = subst (All IsUnnamed) (sym wants.attributes) (all_unnamed (attribute_of one) old.attributes.items was.unnamed);
}
