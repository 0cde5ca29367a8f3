-- A request that carries an operation out is read back as that operation.
use Rattle.std.proofs.Common.{◌≡◌, ◌≢◌, ℕ, List, Option, Some, refl, sym, ap, ◌∙◌}
use Rattle.record_base.specs.declared.message.Asked.{Asked}
use Rattle.record_base.specs.declared.message.Asked.TheVariants.{Ipmi, Pldm}
use Rattle.record_base.specs.declared.bios_attribute.SetBiosAttribute.{SetBiosAttribute}
use Rattle.record_base.specs.declared.op.Op.{Op}
use Rattle.record_base.specs.declared.op.Op.TheVariants as op
use Rattle.bios_attr.specs.EntryParts.{with_body}
use Rattle.record_kinds.specs.Limits.{key_of, set_asked, words as kinds}
use Rattle.record_kinds.specs.Series.{set_whole}
use Rattle.text_journal.specs.JournalSteps.{head_in, head_of, step_named}
use Rattle.text_journal.proofs.NamedSteps.{steps_are_named}
use Rattle.record_words.specs.declared.parts.Way.{Way}
use Rattle.record_words.specs.OpWords.{op_words, olds, fields_over}
use Rattle.record_words.specs.PartWords.{parts_of, line_words}
use Rattle.record_words.specs.RequestWords.{body_of, candidate}

-- a request with other data has them, and the same head
same_head : (asked : Asked) (body : List ℕ) → head_in (with_body asked body) ≡ head_in asked
same_head (Ipmi from net_fn lun command old) body = refl
same_head (Pldm from kind command old) body = refl

has_body : (asked : Asked) (body : List ℕ) → body_of (with_body asked body) ≡ body
has_body (Ipmi from net_fn lun command old) body = refl
has_body (Pldm from kind command old) body = refl

-- an operation's request has the operation's head
pub whole_head : (any : Op) → head_in (set_whole any) ≡ head_of any
whole_head any = same_head (set_asked any) (kinds.set_data any)

read_back : (any : Op) → candidate (set_whole any) ≡ Some any
read_back any =
    (λ i. step_named (whole_head any i) (has_body (set_asked any) (kinds.set_data any) i)) ∙ steps_are_named any

same_some : {a b : Op} → (let x : Option Op = Some a in x) ≡ Some b → a ≡ b
same_some e = cc e

-- two operations whose requests are the same are the same
pub one_op : (any other : Op) → set_whole any ≡ set_whole other → any ≡ other
one_op any other e = same_some (sym (read_back any) ∙ ap candidate e ∙ read_back other)

-- where the operation that a request may carry out isn't carried out by it, none is
pub no_other : (asked : Asked) (made : Op) → candidate asked ≡ Some made → ¬ (set_whole made ≡ asked) → (any : Op) → set_whole any ≢ asked
no_other asked made is refused any e =
    let same : any ≡ made = same_some (sym (read_back any) ∙ ap candidate e ∙ is) in
    refused (ap set_whole (sym same) ∙ e)

-- the words of an operation that isn't on an attribute are its fields'
pub by_fields : (way : Way) (any : Op) (before : Option Op) → ((set : SetBiosAttribute) → any ≢ op.BiosAttribute set)
    → line_words (key_of any) (parts_of way (olds before) (fields_over any before)) ≡ op_words way any before
by_fields way (op.Thresholds set) before other = refl
by_fields way (op.Hysteresis set) before other = refl
by_fields way (op.EventEnable set) before other = refl
by_fields way (op.PowerPolicy set) before other = refl
by_fields way (op.Watchdog set) before other = refl
by_fields way (op.GlobalEnables set) before other = refl
by_fields way (op.BootParam set) before other = refl
by_fields way (op.NumericEffecter set) before other = refl
by_fields way (op.StateEffecter set) before other = refl
by_fields way (op.UserName set) before other = refl
by_fields way (op.UserAccess set) before other = refl
by_fields way (op.ChannelAccess set) before other = refl
by_fields way (op.BiosAttribute set) before other = absurd (other set refl)
by_fields way (op.LanParam set) before other = refl
