use Rattle.std.specs.Prelude.{is_some}
use Rattle.std.proofs.Common.{inl, inr, refl}
use Rattle.app_show.specs.declared.reading.ReadFault.TheVariants as fault
use Rattle.app_show.proofs.Shown.{reads_all, stops_all}
use Rattle.app_show.proofs.showing.show_over.Goals as goal

pub returns-in-Ok : goal.returns-in-Ok
returns-in-Ok g c =
    let words = c.args.words.now in
    let first = c.new-reader.result in
    let last = c.read_all.new.self in
    let left = c.read_all.new.session in
    let reads = reads_all c.is_some-smbus.result (is_some words.reach.smbus_port) c.as_slice.result.now words.effecters.items c.is_some-smbus.ensures c.as_slice.ensures.value c.args.session left
    first last c.in-Ok.ensures.read in
    (first, last, record { none = c.new-reader.ensures.none; quiet = c.new-reader.ensures.quiet }, left, inl (reads, c.end_told.ensures))

pub returns-in-Err-Memory : goal.returns-in-Err-Memory
returns-in-Err-Memory g c =
    let words = c.args.words.now in
    let first = c.new-reader.result in
    let last = c.read_all.new.self in
    let left = c.read_all.new.session in
    let stops = stops_all c.in-Err-Memory.field-0 fault.Memory c.is_some-smbus.result (is_some words.reach.smbus_port) c.as_slice.result.now words.effecters.items c.in-Err-Memory.field-0-is
    c.is_some-smbus.ensures c.as_slice.ensures.value c.args.session left first last c.in-Err-Memory.ensures.stopped in
    (first, last, record { none = c.new-reader.ensures.none; quiet = c.new-reader.ensures.quiet }, left, inr (fault.Memory, stops, refl {a = c.args.files.now}, c.end_run.ensures))

pub returns : goal.returns
returns g c =
    let words = c.args.words.now in
    let first = c.new-reader.result in
    let last = c.read_all.new.self in
    let left = c.read_all.new.session in
    let stops = stops_all c.in-Err-Silent.field-0 fault.Silent c.is_some-smbus.result (is_some words.reach.smbus_port) c.as_slice.result.now words.effecters.items c.in-Err-Silent.field-0-is
    c.is_some-smbus.ensures c.as_slice.ensures.value c.args.session left first last c.in-Err-Silent.ensures.stopped in
    (first, last, record { none = c.new-reader.ensures.none; quiet = c.new-reader.ensures.quiet }, left, inr (fault.Silent, stops, refl {a = c.args.files.now}, c.say.ensures))
