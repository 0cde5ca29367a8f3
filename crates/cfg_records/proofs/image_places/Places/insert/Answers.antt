use Rattle.std.proofs.Common.{◌∙◌, Option, ℕ, ap}
use Rattle.std.specs.Option.{option_or}
use Rattle.record_base.specs.declared.key.Key.{Key}
use Rattle.cfg_records.specs.Index.{place_of}
use Rattle.cfg_records.specs.SortedKeys.{offset_in}
use Rattle.cfg_records.proofs.Offsets.{neither, more_last}
use Rattle.cfg_records.proofs.image_places.Places.insert.Goals as goal

pub returns-in_ok-insert-in-None : goal.returns-in_ok-insert-in-None
returns-in_ok-insert-in-None c = λ k.
    let places = c.args.self.now in
    let first : Key → Option ℕ = place_of places.sensors in
    let absent = neither (first c.args.key) (offset_in places.others.entries.items c.args.key) c.requires in
    ap (option_or (first k)) (c.in_ok-insert-in-None.ensures k) ∙ more_last first (offset_in places.others.entries.items k) c.args.key k c.args.offset absent.0
