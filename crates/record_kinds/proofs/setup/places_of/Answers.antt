use Rattle.std.proofs.Common.{◌≡◌, List, length, take, ap, ◌∙◌, refl, arith}
use Rattle.std.proofs.lemmas.List.{length-set}
use Rattle.std.proofs.Math.Seq.{take-length}
use Rattle.record_base.specs.declared.sensor.Sensor.{Sensor}
use Rattle.record_kinds.specs.Boards.{sensor_at}
use Rattle.record_kinds.proofs.Numbered.{none_placed, more_placed}
use Rattle.record_kinds.proofs.setup.places_of.Goals as goal

pub loop-place-init : goal.loop-place-init
loop-place-init c = record { all = refl; found = λ number lt. none_placed c.args.sensors.now number c.requires.few lt }

pub loop-place-preserved : goal.loop-place-preserved
loop-place-preserved c =
    let sensor : Sensor = c.index-sensors-place.result in
    let fits : length c.loop-place.places ≡ 256 = c.loop-place.invariant.all in
    record {
      all = length-set c.loop-place.places sensor.number c.loop-place.place ∙ fits;
      found = λ number lt.
          more_placed c.args.sensors.now c.loop-place.places c.loop-place.place sensor number c.requires.differ c.loop-place-test.true c.index-sensors-place.is (omega (arith, sensor.numbered)) (c.loop-place.invariant.found number lt);
    }

pub returns : goal.returns
returns c =
    let whole : take c.loop-place.place c.args.sensors.now ≡ c.args.sensors.now = ap (λ n. take n c.args.sensors.now) (omega arith) ∙ take-length c.args.sensors.now in
    record {
      all = c.loop-place.invariant.all;
      found = λ number lt. c.loop-place.invariant.found number lt ∙ ap (λ (xs : List Sensor). sensor_at xs number) whole;
    }
