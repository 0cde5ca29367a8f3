-- The limits of a key's record are those of a record with the key.
use Rattle.std.proofs.Common.{◌≡◌, Option, Some, None, refl, subst}
use Rattle.std.specs.Option.{option_map}
use Rattle.record_base.specs.Attribute.{range_of}
use Rattle.record_base.specs.declared.key.Key.{Key}
use Rattle.record_base.specs.declared.key.Key.TheVariants as key
use Rattle.cfg_records.specs.declared.board_file.BoardFile.{BoardFile}
use Rattle.watch_boot.specs.BootParamLaws.{same_self}
use Rattle.user_chan.specs.LanParamLaws as lan
use Rattle.record_kinds.specs.Boards.{attribute_at}
use Rattle.record_kinds.specs.declared.limits.Limits.{Limits}
use Rattle.record_kinds.specs.declared.limits.Limits.TheVariants as kinds
use Rattle.record_kinds.specs.Limits.{is_of, limits_at}

of_item : {X : Type 0} (item : Option X) (to : X → Limits) (limits : Limits) (key : Key) → option_map to item ≡ Some limits → ((x : X) → is_of (to x) key) → is_of limits key
of_item (Some x) to limits key e of = let same : to x ≡ limits = cc in subst (λ (l : Limits). is_of l key) same (of x)
of_item None to limits key e of = cc

of_alone : (own limits : Limits) (key : Key) → (let s : Option Limits = Some own in s) ≡ Some limits → is_of own key → is_of limits key
of_alone own limits key e of = let same : own ≡ limits = cc in subst (λ (l : Limits). is_of l key) same of

-- so of each kind, of which most have limits that say nothing of the key
pub limits_are_of : (file : BoardFile) (key : Key) (limits : Limits) → limits_at file key ≡ Some limits → is_of limits key
limits_are_of file key.PowerPolicy limits e = of_alone (kinds.PowerPolicy (record {})) limits key.PowerPolicy e tt
limits_are_of file key.Watchdog limits e = of_alone (kinds.Watchdog (record {})) limits key.Watchdog e tt
limits_are_of file key.GlobalEnables limits e = of_alone (kinds.GlobalEnables (record {})) limits key.GlobalEnables e tt
limits_are_of file (key.BootParam parameter) limits e = of_alone (kinds.BootParam (record { parameter = parameter })) limits (key.BootParam parameter) e (same_self parameter)
limits_are_of file (key.BiosAttribute handle) limits e =
    of_item (attribute_at file.attributes.items handle) (λ x. kinds.BiosAttribute (record { handle = handle; read_only = x.read_only; range = range_of x.kind })) limits (key.BiosAttribute handle) e (λ x. refl)
limits_are_of file (key.LanParam on) limits e = of_item _ _ limits (key.LanParam on) e (λ x. lan.same_self on.parameter)
limits_are_of file other limits e = of_item _ _ limits other e (λ x. tt)
