-- The two buses are two.
use Rattle.std.proofs.Common.{◌≡◌, refl, subst, ◌⊎◌, inl, inr}
use Rattle.two_wire.specs.declared.Bus.{Bus}
use Rattle.two_wire.specs.declared.Bus.TheVariants.{Ipmb, Smbus}

abbrev IsIpmb : Bus → Type 0
IsIpmb Ipmb = Unit {0}
IsIpmb Smbus = ⊥

abbrev IsSmbus : Bus → Type 0
IsSmbus Ipmb = ⊥
IsSmbus Smbus = Unit {0}

pub ipmb≢smbus : Ipmb ≡ Smbus → ⊥
ipmb≢smbus e = subst IsIpmb e tt

pub smbus≢ipmb : Smbus ≡ Ipmb → ⊥
smbus≢ipmb e = subst IsSmbus e tt

pub cases_bus : (a b : Bus) → (a ≡ b) ⊎ (a ≡ b → ⊥)
cases_bus Ipmb Ipmb = inl refl
cases_bus Ipmb Smbus = inr ipmb≢smbus
cases_bus Smbus Ipmb = inr smbus≢ipmb
cases_bus Smbus Smbus = inl refl

-- of one bus and of every other, so of each
pub each_bus : (P : Bus → Type 0) (bus : Bus) → P bus → ((other : Bus) → (other ≡ bus → ⊥) → P other) → (any : Bus) → P any
each_bus P Ipmb here there Ipmb = here
each_bus P Ipmb here there Smbus = there Smbus smbus≢ipmb
each_bus P Smbus here there Ipmb = there Ipmb ipmb≢smbus
each_bus P Smbus here there Smbus = here
