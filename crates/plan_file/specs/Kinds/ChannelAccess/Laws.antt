-- A table holds one step that sets the access to a channel, at most.
use Rattle.std.proofs.Common.{◌≡◌, ◌∙◌, ℕ, Some, None, option_and_then, sym, ap}
use Rattle.toml.specs.Data.{Members}
use Rattle.record_base.specs.NumberLaws.{same_field}
use Rattle.record_base.specs.declared.op.Op.TheVariants as op
use Rattle.record_base.specs.Numbers.{SixBits}
use Rattle.record_base.specs.declared.channel.ChannelChange.{ChannelChange}
use Rattle.record_base.specs.declared.channel.ChannelChange.TheVariants as channel
use Rattle.record_base.specs.declared.channel.SetChannelAccess.{SetChannelAccess}
use Rattle.text_fields.specs.declared.field.Field.{Field}
use Rattle.text_fields.specs.declared.field.Field.TheVariants as field
use Rattle.text_fields.specs.Trees.{in_field, natural, number_in}
use Rattle.text_fields.specs.Channels.{store_of}
use Rattle.plan_file.specs.Kinds.ChannelAccess.{HoldsChannelChange, HoldsChannelAccess, HoldsOp}
use Rattle.text_fields.proofs.Unique.{one_found, one_number}
use Rattle.plan_file.specs.StepKind.{IsOne}

lacked : (named : Field) (tree : Members) (n : ℕ) → in_field named tree ≡ None → number_in named tree ≡ Some n → ⊥
lacked named tree n lacks is = let none : number_in named tree ≡ None = ap (option_and_then natural) lacks in let both : None ≡ Some n = sym none ∙ is in cc both

one_six : (named : Field) (tree : Members) (a b : SixBits) → number_in named tree ≡ Some a.number → number_in named tree ≡ Some b.number → a ≡ b
one_six named tree a b p q = same_field a b (one_number named tree a.number b.number p q)

one_channel_change : (tree : Members) (a b : ChannelChange) → HoldsChannelChange tree a → HoldsChannelChange tree b → a ≡ b
one_channel_change tree (channel.Access a) (channel.Access b) p q = ap channel.Access (one_six field.Access tree a b p.0 q.0)
one_channel_change tree (channel.Access a) (channel.Limit b) p q = absurd (lacked field.Access tree a.number q.0 p.0)
one_channel_change tree (channel.Access a) (channel.Both b c) p q = absurd (lacked field.Limit tree c.number p.1 q.1)
one_channel_change tree (channel.Limit a) (channel.Access b) p q = absurd (lacked field.Access tree b.number p.0 q.0)
one_channel_change tree (channel.Limit a) (channel.Limit b) p q = ap channel.Limit (one_six field.Limit tree a b p.1 q.1)
one_channel_change tree (channel.Limit a) (channel.Both b c) p q = absurd (lacked field.Access tree b.number p.0 q.0)
one_channel_change tree (channel.Both a b) (channel.Access c) p q = absurd (lacked field.Limit tree b.number q.1 p.1)
one_channel_change tree (channel.Both a b) (channel.Limit c) p q = absurd (lacked field.Access tree a.number q.0 p.0)
one_channel_change tree (channel.Both a b) (channel.Both c d) p q =
    let access = one_six field.Access tree a c p.0 q.0 in
    let limit = one_six field.Limit tree b d p.1 q.1 in
    λ i. channel.Both (access i) (limit i)

one : (tree : Members) (a b : SetChannelAccess) → HoldsChannelAccess tree a → HoldsChannelAccess tree b → a ≡ b
one tree a b p q =
    let channel = same_field a.channel b.channel (one_number field.Channel tree a.channel.number b.channel.number p.channel q.channel) in
    let store = one_found (option_and_then store_of (in_field field.Store tree)) a.store b.store p.store q.store in
    let change = one_channel_change tree a.change b.change p.change q.change in
    λ i. record { channel = channel i; store = store i; change = change i }

-- the operation that such a step holds is one
pub only : IsOne HoldsOp
only tree = elim [ op.ChannelAccess a ↦ elim [ op.ChannelAccess b ↦ λ p q. ap op.ChannelAccess (one tree a b p q) | _ ↦ λ p q. absurd q ] | _ ↦ λ b p. absurd p ]
