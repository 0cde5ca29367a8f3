-- What an assembler does with a packet that it drops, keeps, or ends a message with.
use Rattle.std.specs.Prelude.{◌↔◌}
use Rattle.std.proofs.Common.{◌≡◌, ℕ, Bool, true, false, cond, List, refl, sym, ◌∙◌, ap, Option, Some, None}
use Rattle.mctp_net.specs.declared.packet.Packet.{Packet}
use Rattle.mctp_net.specs.declared.message.Message.{Message}
use Rattle.mctp_net.specs.declared.place.Place.{Place}
use Rattle.mctp_net.specs.declared.taken.DropCause.{DropCause}
use Rattle.mctp_net.specs.declared.taken.DropCause.TheVariants.{NotOurs, NoStart, TooLong, OutOfSequence, UnitSize, NoSlot}
use Rattle.mctp_net.specs.declared.taken.Taken.TheVariants as taken
use Rattle.mctp_net.specs.Assembly.{Assemblies, drop_cause, ended, kept_with, after_where, after, message_of, MakesWhole, IsPieceTaken}
use Rattle.mctp_net.specs.Places.{assemblies_in}
use Rattle.mctp_net.proofs.Wholes.{not-whole, waits-on}

-- what is kept after a packet doesn't depend on what the last one made
after-made : (o : Option DropCause) (p : Packet) (ps : List Place) (made : Option ℕ) → after_where o p (assemblies_in ps None) ≡ after_where o p (assemblies_in ps made)
after-made (Some NotOurs) p ps made = refl
after-made (Some NoStart) p ps made = refl
after-made (Some TooLong) p ps made = refl
after-made (Some OutOfSequence) p ps made = refl
after-made (Some UnitSize) p ps made = refl
after-made (Some NoSlot) p ps made = refl
after-made None p ps made = refl

-- a packet that is dropped
module _ (own : ℕ) (a : Assemblies) (p : Packet) (cause : DropCause) (is : Some cause ≡ drop_cause own a p) where
  pub drops-whole : (b : Assemblies) (m : Message) → ((taken.Dropped cause ≡ taken.Whole) × (m ≡ message_of b p)) ↔ MakesWhole own a p m
  drops-whole b m = (λ e. absurd (let bad : taken.Dropped cause ≡ taken.Whole = e.0 in cc), λ w. absurd (not-whole own a p m cause is w))

  pub drops-waiting : (taken.Dropped cause ≡ taken.Waiting) ↔ IsPieceTaken own a p
  drops-waiting = (λ e. absurd cc, λ t. absurd (let bad : Some cause ≡ None = is ∙ t.kept_on in cc))

pub drops-after : (own : ℕ) (ps : List Place) (made : Option ℕ) (p : Packet) (cause : DropCause) (b : Assemblies) → Some cause ≡ drop_cause own (assemblies_in ps made) p
    → b ≡ after_where (Some cause) p (assemblies_in ps None) → b ≡ after own (assemblies_in ps made) p
drops-after own ps made p cause b is kept =
    kept ∙ after-made (Some cause) p ps made ∙ ap (λ (o : Option DropCause). after_where o p (assemblies_in ps made)) is

-- a packet that ends a message
pub ends-after : (own : ℕ) (a b : Assemblies) (p : Packet) → drop_cause own a p ≡ None → p.end ≡ true → b ≡ ended p a → b ≡ after own a p
ends-after own a b p none end is =
    is ∙ sym (ap (λ (o : Option DropCause). after_where o p a) none ∙ ap (λ (e : Bool). cond e (ended p a) (kept_with p a)) end)

pub ends-waiting : (own : ℕ) (a : Assemblies) (p : Packet) → p.end ≡ true → (taken.Whole ≡ taken.Waiting) ↔ IsPieceTaken own a p
ends-waiting own a p end = (λ e. absurd cc, λ t. absurd (let bad : true ≡ false = sym end ∙ t.more in cc))

-- a packet that is kept
pub keeps-after : (own : ℕ) (a b : Assemblies) (p : Packet) → drop_cause own a p ≡ None → p.end ≡ false → b ≡ kept_with p a → b ≡ after own a p
keeps-after own a b p none more is =
    is ∙ sym (ap (λ (o : Option DropCause). after_where o p a) none ∙ ap (λ (e : Bool). cond e (ended p a) (kept_with p a)) more)

pub keeps-waiting : (own : ℕ) (a : Assemblies) (p : Packet) → drop_cause own a p ≡ None → p.end ≡ false → (taken.Waiting ≡ taken.Waiting) ↔ IsPieceTaken own a p
keeps-waiting own a p none more = (λ _. record { kept_on = none; more = more }, λ _. refl)

pub keeps-whole : (own : ℕ) (a b : Assemblies) (p : Packet) (m : Message) → p.end ≡ false → ((taken.Waiting ≡ taken.Whole) × (m ≡ message_of b p)) ↔ MakesWhole own a p m
keeps-whole own a b p m more = (λ e. absurd (let bad : taken.Waiting ≡ taken.Whole = e.0 in cc), λ w. absurd (waits-on own a p m more w))
