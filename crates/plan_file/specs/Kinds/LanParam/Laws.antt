-- A table holds one step that sets a LAN parameter, at most.
use Rattle.std.proofs.Common.{◌≡◌, ◌∙◌, ℕ, List, length, Option, Some, None, option_and_then, refl, sym, ap}
use Rattle.std.proofs.lemmas.Option.{same_Some}
use Rattle.toml.specs.Data.{Data, Members}
use Rattle.record_base.specs.NumberLaws.{same_field}
use Rattle.record_base.specs.Lan.{lan_selector, lan_parameter_at, changed_parameter, lan_data, address_bytes}
use Rattle.record_base.specs.declared.op.Op.TheVariants as op
use Rattle.record_base.specs.declared.lan_parameter.LanAddress.TheVariants.{Ip, SubnetMask, DefaultGateway}
use Rattle.record_base.specs.declared.lan_parameter.LanParameter.{LanParameter}
use Rattle.record_base.specs.declared.lan_parameter.LanParameter.TheVariants as parameter
use Rattle.record_base.specs.declared.lan_parameter.Ipv4Address.{Ipv4Address}
use Rattle.record_base.specs.declared.lan_parameter.LanChange.{LanChange}
use Rattle.record_base.specs.declared.lan_parameter.LanChange.TheVariants as change
use Rattle.record_base.specs.declared.lan_parameter.SetLanParam.{SetLanParam}
use Rattle.text_fields.specs.declared.field.Field.TheVariants as field
use Rattle.text_fields.specs.Trees.{in_field, bytes_in}
use Rattle.plan_file.specs.Kinds.LanParam.{HoldsLanChange, HoldsLanParam, HoldsOp}
use Rattle.text_fields.proofs.Unique.{one_number, one_bytes}
use Rattle.plan_file.specs.StepKind.{IsOne}

one_given : (found : Option Data) (ms ns : List ℕ) → option_and_then (bytes_in (length ms)) found ≡ Some ms → option_and_then (bytes_in (length ns)) found ≡ Some ns → ms ≡ ns
one_given None ms ns p q = cc p
one_given (Some d) ms ns p q = one_bytes d ms ns p q

selected : (named : LanParameter) → lan_parameter_at (lan_selector named) ≡ Some named
selected (parameter.Address Ip) = refl
selected (parameter.Address SubnetMask) = refl
selected (parameter.Address DefaultGateway) = refl
selected parameter.AddressSource = refl
selected parameter.Vlan = refl

one_selected : (a b : LanParameter) → lan_selector a ≡ lan_selector b → a ≡ b
one_selected a b e = same_Some a b (sym (selected a) ∙ ap lan_parameter_at e ∙ selected b)

one_address : (a b : Ipv4Address) → address_bytes a ≡ address_bytes b → a ≡ b
one_address a b q =
    let first : a.first ≡ b.first = cc q in
    let second : a.second ≡ b.second = cc q in
    let third : a.third ≡ b.third = cc q in
    let fourth : a.fourth ≡ b.fourth = cc q in
    λ i. record { first = first i; second = second i; third = third i; fourth = fourth i }

one_data : (a b : LanChange) → changed_parameter a ≡ changed_parameter b → lan_data a ≡ lan_data b → a ≡ b
one_data (change.Address which a) (change.Address other b) p q =
    let same : which ≡ other = cc p in
    let address = one_address a b q in
    λ i. change.Address (same i) (address i)
one_data (change.AddressSource a) (change.AddressSource b) p q = let same : a ≡ b = cc q in ap change.AddressSource same
one_data (change.Vlan a) (change.Vlan b) p q =
    let low : a.low ≡ b.low = cc q in
    let high : a.high ≡ b.high = cc q in
    λ i. change.Vlan (record { low = low i; high = high i })
one_data _ _ p q = cc

one_lan_change : (tree : Members) (a b : LanChange) → HoldsLanChange tree a → HoldsLanChange tree b → a ≡ b
one_lan_change tree a b p q =
    let named = one_number field.Param tree (lan_selector (changed_parameter a)) (lan_selector (changed_parameter b)) p.named q.named in
    one_data a b (one_selected (changed_parameter a) (changed_parameter b) named) (one_given (in_field field.BootData tree) (lan_data a) (lan_data b) p.given q.given)

one : (tree : Members) (a b : SetLanParam) → HoldsLanParam tree a → HoldsLanParam tree b → a ≡ b
one tree a b p q =
    let channel = same_field a.channel b.channel (one_number field.Channel tree a.channel.number b.channel.number p.channel q.channel) in
    let change = one_lan_change tree a.change b.change p.change q.change in
    λ i. record { channel = channel i; change = change i }

-- the operation that such a step holds is one
pub only : IsOne HoldsOp
only tree = elim [ op.LanParam a ↦ elim [ op.LanParam b ↦ λ p q. ap op.LanParam (one tree a b p q) | _ ↦ λ p q. absurd q ] | _ ↦ λ b p. absurd p ]
