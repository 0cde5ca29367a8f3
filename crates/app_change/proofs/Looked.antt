-- As much is found as there are steps.
use Rattle.std.proofs.Common.{◌≡◌, ◌∙◌, suc, List, [], ◌∷◌, length, map, refl, ap}
use Rattle.std.proofs.lemmas.List.{length-map}
use Rattle.record_base.specs.declared.key.Key.{Key}
use Rattle.record_base.specs.declared.op.Op.{Op}
use Rattle.record_kinds.specs.Limits.{key_of}
use Rattle.app_look.specs.declared.records.Found.{Found}
use Rattle.app_look.specs.declared.session.Session.{Session}
use Rattle.app_look.specs.declared.session.Way.{Way}
use Rattle.app_look.specs.Findings.{FindsEach}
use Rattle.app_look.specs.Reading.{FindsAndNames}
use Rattle.app_change.specs.KeepLook.{records_of}

finds_long : (keys : List Key) (found : List Found) (old new : Session) → FindsEach keys found old new → length found ≡ length keys
finds_long [] [] old new finds = refl
finds_long [] (of ∷ found) old new finds = absurd finds
finds_long (key ∷ keys) [] old new finds = absurd finds
finds_long (key ∷ keys) (of ∷ found) old new finds = ap suc (finds_long keys found finds.0 new finds.2)

pub found_long : (way : Way) (steps : List Op) (found : List Found) → FindsAndNames way (records_of steps) found → length found ≡ length steps
found_long way steps found (names, (left, over, last)) = finds_long (map key_of steps) found over.session left over.finds ∙ length-map steps key_of
