use Rattle.app_show.proofs.Told.{goes_one, stops_behind, stops_one}
use Rattle.app_show.proofs.reading.Reader.read.Goals as goal

pub returns-in_default-clause-stopped : goal.returns-in_default-clause-stopped
returns-in_default-clause-stopped c = stops_behind c.args.key.now c.look.result c.args.session.now c.look.new.self c.args.self.now c.take_look.new.self c.look.ensures

pub returns-then-self-ge-MOST_SILENT-clause-stopped : goal.returns-then-self-ge-MOST_SILENT-clause-stopped
returns-then-self-ge-MOST_SILENT-clause-stopped c =
    stops_one c.args.key.now c.look.result c.args.session.now c.look.new.self c.in-Ok.answer c.args.self.now c.take_look.new.self c.requires c.look.ensures c.in-Ok.ensures
    c.if-self-ge-MOST_SILENT.true

pub returns-clause-read : goal.returns-clause-read
returns-clause-read c =
    goes_one c.args.key.now c.look.result c.args.session.now c.look.new.self c.in-Ok.answer c.args.self.now c.take_look.new.self c.requires c.look.ensures c.in-Ok.ensures
    c.if-self-ge-MOST_SILENT.false
