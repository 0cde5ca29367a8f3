-- Operations that the same request carries out.
use Rattle.std.proofs.Common.{◌≡◌, ℕ, List, [], refl, sym, ◌∙◌, ap}
use Rattle.record_base.specs.declared.key.Key.{Key}
use Rattle.record_base.specs.declared.key.Key.TheVariants as key
use Rattle.record_base.specs.declared.op.Op.{Op}
use Rattle.record_base.specs.declared.op.Op.TheVariants as op
use Rattle.record_base.specs.declared.message.Asked.{Asked}
use Rattle.record_base.specs.declared.message.Asked.TheVariants.{Ipmi, Pldm}
use Rattle.bios_attr.specs.EntryParts.{with_body}
use Rattle.record_kinds.specs.Limits.{key_of, set_asked, words}
use Rattle.record_kinds.specs.Series.{set_whole}
use Rattle.shown_records.specs.KeptText.{IsAlike}

-- the request that sets a record, but for its data
empty_set : Key → Asked
empty_set (key.Thresholds sensor) = Ipmi 0 0x04 0 0x26 []
empty_set (key.Hysteresis sensor) = Ipmi 0 0x04 0 0x24 []
empty_set (key.EventEnable sensor) = Ipmi 0 0x04 0 0x28 []
empty_set key.PowerPolicy = Ipmi 0 0x00 0 0x06 []
empty_set key.Watchdog = Ipmi 0 0x06 0 0x24 []
empty_set key.GlobalEnables = Ipmi 0 0x06 0 0x2E []
empty_set (key.BootParam parameter) = Ipmi 0 0x00 0 0x08 []
empty_set (key.NumericEffecter id) = Pldm 0 2 0x31 []
empty_set (key.StateEffecter id) = Pldm 0 2 0x39 []
empty_set (key.UserName user) = Ipmi 0 0x06 0 0x45 []
empty_set (key.UserAccess on) = Ipmi 0 0x06 0 0x43 []
empty_set (key.ChannelAccess at) = Ipmi 0 0x06 0 0x40 []
empty_set (key.BiosAttribute handle) = Pldm 0 3 0x07 []
empty_set (key.LanParam on) = Ipmi 0 0x0C 0 0x01 []

-- it is that with the operation's data
set_is : (any : Op) → set_whole any ≡ with_body (empty_set (key_of any)) (words.set_data any)
unfolding empty_set
set_is (op.Thresholds own) = refl
set_is (op.Hysteresis own) = refl
set_is (op.EventEnable own) = refl
set_is (op.PowerPolicy own) = refl
set_is (op.Watchdog own) = refl
set_is (op.GlobalEnables own) = refl
set_is (op.BootParam own) = refl
set_is (op.NumericEffecter own) = refl
set_is (op.StateEffecter own) = refl
set_is (op.UserName own) = refl
set_is (op.UserAccess own) = refl
set_is (op.ChannelAccess own) = refl
set_is (op.BiosAttribute own) = refl
set_is (op.LanParam own) = refl

-- of the same record, with the same data, it is the same
pub same_request : (first second : Op) → key_of first ≡ key_of second → words.set_data first ≡ words.set_data second → IsAlike first second
same_request first second same body = record {
  same_record = same;
  same_request = set_is first ∙ (λ i. with_body (empty_set (same i)) (body i)) ∙ sym (set_is second);
}

-- the data of a request
body_in : Asked → List ℕ
body_in (Ipmi from net_fn lun command body) = body
body_in (Pldm from kind command body) = body

body_is : (asked : Asked) (body : List ℕ) → body_in (with_body asked body) ≡ body
unfolding body_in
body_is (Ipmi from net_fn lun command other) body = refl
body_is (Pldm from kind command other) body = refl

-- the same request has the same data
pub same_data : (first second : Op) → IsAlike first second → words.set_data first ≡ words.set_data second
same_data first second alike =
    sym (body_is (set_asked first) (words.set_data first)) ∙ ap body_in alike.same_request ∙ body_is (set_asked second) (words.set_data second)
