-- What is known of what is there, and of what isn't.
use Rattle.std.proofs.Common.{◌≡◌, Option, Some, None, Result, Ok, Err, IfSome, IfNone, refl, subst}
use Rattle.std.specs.Option.{ok_or}
use Rattle.app_base.proofs.Readings.{none_there, some_same}

pub if_some : {A : Type 0} (P : A → Type 0) (found : Option A) (x : A) → found ≡ Some x → IfSome found P → P x
if_some P None x is holds = absurd (none_there None x refl is)
if_some P (Some y) x is holds = subst P (some_same (Some y) y x refl is) holds

pub if_none : {A : Type 0} (P : Type 0) (found : Option A) → found ≡ None → IfNone found P → P
if_none P None is holds = holds
if_none P (Some x) is holds = absurd (none_there (Some x) x is refl)

pub none_weaker : {A : Type 0} (P Q : Type 0) (found : Option A) → (P → Q) → IfNone found P → IfNone found Q
none_weaker P Q None weaker holds = weaker holds
none_weaker P Q (Some x) weaker holds = tt

pub failed_apart : {A E : Type 0} (why : E) (x : A) → (let failed : Result A E = Err why in failed) ≡ Ok x → ⊥
failed_apart why x is = cc is

pub ok_same : {A E : Type 0} (x y : A) → (let one : Result A E = Ok x in one) ≡ Ok y → x ≡ y
ok_same x y is = cc is

pub ok_or_none : {A E : Type 0} (found : Option A) (instead why : E) → ok_or found instead ≡ Err why → found ≡ None
ok_or_none None instead why is = refl
ok_or_none (Some x) instead why is = absurd (cc is)
