use Rattle.std.proofs.Common.{◌≡◌, ◌∙◌, ℕ, List, ap, inl, inr, sym, subst}
use Rattle.record_base.specs.Requests.{byte_at}
use Rattle.report_words.specs.SensorNames.{sensor_head}
use Rattle.app_look.specs.Asking.{AsksTables, name_count, word_at}
use Rattle.app_look.specs.SensorRecords.{EndsPart, EndsRecord, ReadsIdString, cursor_at, record_in}
use Rattle.app_look.proofs.Asks.{asks_both}
use Rattle.app_look.proofs.SensorRecords.{is_no_sensor, is_unwanted, is_wanted, of_error, reads_name, reads_no_name}
use Rattle.app_look.proofs.sensors.visit.Goals.{in-Some+then-wants_sensor+in_ok-found, in-Some+else-wants_sensor, in_default}
use Rattle.app_look.proofs.sensors.visit.Goals as goal

pub returns-in_err-found-clause-tables : goal.returns-in_err-found-clause-tables
returns-in_err-found-clause-tables c =
    asks_both c.args.session.now c.part_of_record.new.session c.name_of.new.session c.part_of_record.ensures.tables c.name_of.ensures.tables

pub returns-in_err-found-clause-ended : goal.returns-in_err-found-clause-ended
returns-in_err-found-clause-ended c =
    let old = cursor_at c.args.session.now c.args.walk.now in
    let mid = cursor_at c.part_of_record.new.session c.part_of_record.new.walk in
    let reply : List ℕ = c.in_ok-reply.reply in
    let head : sensor_head (record_in reply) ≡ c.sensor_head.result = ap sensor_head (sym c.record_in-record.ensures) ∙ sym c.sensor_head.ensures in
    of_error c.from_residual-in_err-found.result (EndsRecord old c.args.names.now c.name_of.new.session)
    (
    inr record {
      reply = reply;
      mid = mid;
      begins = c.in_ok-reply.ensures.shown;
      head = c.in-Some.head;
      wanted = is_wanted c.args.names.now reply c.in-Some.head (head ∙ c.in-Some.is) (sym c.wants_sensor.ensures ∙ c.if-wants_sensor.true);
      ends = subst (λ (size : ℕ). EndsPart c.in-Some.head.id_place (name_count size c.in-Some.head.id_place) mid c.name_of.new.session)
          (c.byte_at.ensures ∙ ap (λ (bytes : List ℕ). byte_at bytes 4) c.record_in-record.ensures) c.in_err-found.ensures.ended;
    }
    )

pub returns-in_err-reply-clause-ended : goal.returns-in_err-reply-clause-ended
returns-in_err-reply-clause-ended c =
    of_error c.from_residual.result (EndsRecord (cursor_at c.args.session.now c.args.walk.now) c.args.names.now c.part_of_record.new.session) (inl c.in_err-reply.ensures.ended)

pub returns-clause-tables : goal.returns-clause-tables
returns-clause-tables c =
    elim c.match-sensor_head.branch [
      | in-Some+then-wants_sensor+in_ok-found w ↦
          subst (AsksTables c.args.session.now) (sym w.session-is)
          (asks_both c.args.session.now c.part_of_record.new.session w.name_of.new.session c.part_of_record.ensures.tables w.name_of.ensures.tables)
      | in-Some+else-wants_sensor w ↦ subst (AsksTables c.args.session.now) (sym w.session-is) c.part_of_record.ensures.tables
      | in_default w ↦ subst (AsksTables c.args.session.now) (sym w.session-is) c.part_of_record.ensures.tables
    ]

pub returns-clause-read : goal.returns-clause-read
returns-clause-read c =
    let old = cursor_at c.args.session.now c.args.walk.now in
    let mid = cursor_at c.part_of_record.new.session c.part_of_record.new.walk in
    let reply : List ℕ = c.in_ok-reply.reply in
    let begins = c.in_ok-reply.ensures.shown in
    let head : sensor_head (record_in reply) ≡ c.sensor_head.result = ap sensor_head (sym c.record_in-record.ensures) ∙ sym c.sensor_head.ensures in
    let next : c.word_at.result ≡ word_at reply 0 = c.word_at.ensures ∙ ap (λ (bytes : List ℕ). word_at bytes 0) c.as_slice.ensures.value in
    elim c.match-sensor_head.branch [
      | in-Some+then-wants_sensor+in_ok-found w ↦
          reads_name old mid c.args.names.now reply begins c.word_at.result next w.in-Some.head w.in_ok-found.found (cursor_at w.name_of.new.session w.name_of.new.walk)
          c.match-sensor_head.session c.match-sensor_head.walk w.name_sensor.new.self c.match-sensor_head.names
          (is_wanted c.args.names.now reply w.in-Some.head (head ∙ w.in-Some.is) (sym w.wants_sensor.ensures ∙ w.if-wants_sensor.true))
          (subst (λ (size : ℕ). ReadsIdString w.in-Some.head size mid w.in_ok-found.found (cursor_at w.name_of.new.session w.name_of.new.walk))
          (w.byte_at.ensures ∙ ap (λ (bytes : List ℕ). byte_at bytes 4) c.record_in-record.ensures) w.in_ok-found.ensures.named) (w.name_sensor.ensures.sensors, w.name_sensor.ensures.attributes) w.session-is w.walk-is w.names-is
      | in-Some+else-wants_sensor w ↦
          reads_no_name old mid c.args.names.now reply begins c.word_at.result next c.match-sensor_head.session c.match-sensor_head.walk c.match-sensor_head.names
          (is_unwanted c.args.names.now reply w.in-Some.head (head ∙ w.in-Some.is) (sym w.wants_sensor.ensures ∙ w.if-wants_sensor.false)) w.session-is w.walk-is w.names-is
      | in_default w ↦
          reads_no_name old mid c.args.names.now reply begins c.word_at.result next c.match-sensor_head.session c.match-sensor_head.walk c.match-sensor_head.names
          (is_no_sensor c.args.names.now reply (head ∙ w.in_default.is)) w.session-is w.walk-is w.names-is
    ]
