use Rattle.std.proofs.Common.{◌≡◌, ◌≤◌, ◌==◌, ◌&&◌, ℕ, List, [], ◌∷◌, length, get_or, Bool, true, false, if◌then◌else◌, Some, None, refl, sym, ap, ◌∙◌, arith}
use Rattle.std.proofs.lemmas.Bool.{false≢true}
use Rattle.record_base.specs.declared.bios_attribute.SetBiosAttribute.{SetBiosAttribute}
use Rattle.record_base.specs.AttributeValue.{number_of}
use Rattle.record_base.specs.BiosAttribute.{setting}
use Rattle.bios_attr.specs.BiosAttribute.{is_attribute_reply, undo_attribute}
use Rattle.bios_attr.proofs.Pieces.{rest_is}
use Rattle.bios_attr.proofs.bios_attribute.AttributeLimitsRecordKind.inverse.Goals as goal

and_false : (b : Bool) → (b && false) ≡ false
and_false true = refl
and_false false = refl

-- a Get reply has eight bytes and more
is_long : (reply : List ℕ) → is_attribute_reply reply ≡ true → 8 ≤ length reply
is_long (a ∷ b ∷ c ∷ d ∷ flag ∷ low ∷ high ∷ code ∷ rest) is = omega arith
is_long (a ∷ b ∷ c ∷ d ∷ flag ∷ low ∷ high ∷ []) is = absurd (false≢true (sym (and_false (flag == 5)) ∙ is))
is_long (a ∷ b ∷ c ∷ d ∷ flag ∷ low ∷ []) is = absurd (false≢true (sym (and_false (flag == 5)) ∙ is))
is_long (a ∷ b ∷ c ∷ d ∷ flag ∷ []) is = absurd (false≢true (sym (and_false (flag == 5)) ∙ is))
is_long (a ∷ b ∷ c ∷ d ∷ []) is = absurd (false≢true is)
is_long (a ∷ b ∷ c ∷ []) is = absurd (false≢true is)
is_long (a ∷ b ∷ []) is = absurd (false≢true is)
is_long (a ∷ []) is = absurd (false≢true is)
is_long [] is = absurd (false≢true is)

pub returns : goal.returns
returns c =
    let reply : List ℕ = c.args.get_data.now in
    let attribute : c.from_le_bytes-attribute.result ≡ number_of (get_or reply 5 0) (get_or reply 6 0) = omega (arith, c.from_le_bytes-attribute.ensures) in
    ap (λ (op : SetBiosAttribute). Some op) (c.of.ensures ∙ (λ i. setting (attribute i) (get_or reply 7 0) (rest_is 8 reply i)))
    ∙ sym (ap (λ (whole : Bool). if whole then Some (undo_attribute reply) else None) (sym c.is_attribute_reply.ensures ∙ c.if-not-is_attribute_reply.false))

pub bounds-get_data-5 : goal.bounds-get_data-5
bounds-get_data-5 c = let long = is_long c.args.get_data.now (sym c.is_attribute_reply.ensures ∙ c.if-not-is_attribute_reply.false) in omega (arith, long)

pub bounds-get_data-6 : goal.bounds-get_data-6
bounds-get_data-6 c = let long = is_long c.args.get_data.now (sym c.is_attribute_reply.ensures ∙ c.if-not-is_attribute_reply.false) in omega (arith, long)

pub bounds-get_data-7 : goal.bounds-get_data-7
bounds-get_data-7 c = let long = is_long c.args.get_data.now (sym c.is_attribute_reply.ensures ∙ c.if-not-is_attribute_reply.false) in omega (arith, long)
