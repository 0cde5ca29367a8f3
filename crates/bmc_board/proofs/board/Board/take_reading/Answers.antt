use Rattle.std.proofs.Common.{◌≡◌, ℕ, List, true, false, sym, ◌∙◌, ap}
use Rattle.record_base.specs.Sensor.EventEnable.{is_scanning}
use Rattle.record_base.specs.Requests.{byte_at}
use Rattle.record_base.specs.declared.key.Key.TheVariants as key
use Rattle.sensor_recs.specs.declared.comparator.LastReading.{LastReading}
use Rattle.sensor_recs.specs.Taken.{with_reading}
use Rattle.bmc_board.specs.Sensing.{value_at, logs}
use Rattle.bmc_board.proofs.SensingFacts.{logged, not_logged, takes}
use Rattle.bmc_board.proofs.board.Board.take_reading.Goals as goal

pub returns-then-logs_events-clause-left : goal.returns-then-logs_events-clause-left
returns-then-logs_events-clause-left g c =
    let records = g.S.Store.records c.args.self.now.records.store in
    let sensor = c.args.sensor.now in
    let before = c.args.self.now.activity in
    let s = c.compared-compared.result in
    let last = c.last-last.result in
    let scans : is_scanning (byte_at (value_at records (key.EventEnable sensor.number)) 0) ≡ true =
    ap (λ (v : List ℕ). is_scanning (byte_at v 0)) (sym c.value_at-events.ensures) ∙ ap is_scanning (sym c.byte_at.ensures) ∙ sym c.has.ensures ∙ c.if-not-has.false in
    let on : logs records ≡ true = sym c.logs_events.ensures ∙ c.if-logs_events.true in
    takes records sensor s last c.args.reading before c.put.new.self c.log_events.new.log scans c.compared-compared.ensures c.last-last.ensures
    (c.put.ensures ∙ ap (λ (t : LastReading). with_reading before.readings sensor.number t) c.take-events.ensures.taken)
    (logged records sensor s last c.args.reading before.log c.log_events.new.log c.take-events.result.1.items on c.log_events.ensures c.take-events.ensures.events)

pub returns-else-logs_events-clause-left : goal.returns-else-logs_events-clause-left
returns-else-logs_events-clause-left g c =
    let records = g.S.Store.records c.args.self.now.records.store in
    let sensor = c.args.sensor.now in
    let before = c.args.self.now.activity in
    let s = c.compared-compared.result in
    let last = c.last-last.result in
    let scans : is_scanning (byte_at (value_at records (key.EventEnable sensor.number)) 0) ≡ true =
    ap (λ (v : List ℕ). is_scanning (byte_at v 0)) (sym c.value_at-events.ensures) ∙ ap is_scanning (sym c.byte_at.ensures) ∙ sym c.has.ensures ∙ c.if-not-has.false in
    let off : logs records ≡ false = sym c.logs_events.ensures ∙ c.if-logs_events.false in
    takes records sensor s last c.args.reading before c.put.new.self before.log scans c.compared-compared.ensures c.last-last.ensures
    (c.put.ensures ∙ ap (λ (t : LastReading). with_reading before.readings sensor.number t) c.take-events.ensures.taken)
    (not_logged records sensor s last c.args.reading before.log off)
