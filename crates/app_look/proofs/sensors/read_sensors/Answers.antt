use Rattle.std.proofs.Common.{◌∙◌, arith, inl, inr, refl, sym}
use Rattle.app_look.specs.SensorRecords.{GoesToNext, EndsWithRecord, cursor_at}
use Rattle.app_look.proofs.Asks.{asks_both}
use Rattle.app_look.proofs.SensorRecords.{goes_to_next, reads_sensors}
use Rattle.app_look.proofs.sensors.read_sensors.Goals as goal

pub returns-in_default-visit-clause-tables : goal.returns-in_default-visit-clause-tables
returns-in_default-visit-clause-tables c =
    asks_both c.args.session.now c.loop.session c.visit.new.session c.loop.invariant.tables c.visit.ensures.tables

pub returns-in_default-visit-clause-names : goal.returns-in_default-visit-clause-names
returns-in_default-visit-clause-names c =
    let done : EndsWithRecord (cursor_at c.loop.session c.loop.walk) c.loop.names c.visit.new.session c.visit.new.names = record {
      next = c.in-Ok-visit.next;
      after = cursor_at c.visit.new.session c.visit.new.walk;
      reads = c.in-Ok-visit.ensures.read;
      done = inr (sym c.wants_sensors-then-next.ensures ∙ c.if-wants_sensors.false);
      same_session = refl;
    } in
    reads_sensors c.args.session.now c.args.names.now c.loop.counter (cursor_at c.loop.session c.loop.walk) c.loop.names c.visit.new.session c.visit.new.names
    c.loop.invariant.wants c.loop.invariant.goes (inr (c.loop-test.true, inl done))

pub returns-in_default-visit-2-clause-tables : goal.returns-in_default-visit-2-clause-tables
returns-in_default-visit-2-clause-tables c =
    asks_both c.args.session.now c.loop.session c.visit.new.session c.loop.invariant.tables c.visit.ensures.tables

pub returns-in_default-visit-2-clause-names : goal.returns-in_default-visit-2-clause-names
returns-in_default-visit-2-clause-names c =
    let done : EndsWithRecord (cursor_at c.loop.session c.loop.walk) c.loop.names c.visit.new.session c.visit.new.names = record {
      next = c.in-Ok-visit.next;
      after = cursor_at c.visit.new.session c.visit.new.walk;
      reads = c.in-Ok-visit.ensures.read;
      done = inl c.if-next.false;
      same_session = refl;
    } in
    reads_sensors c.args.session.now c.args.names.now c.loop.counter (cursor_at c.loop.session c.loop.walk) c.loop.names c.visit.new.session c.visit.new.names
    c.loop.invariant.wants c.loop.invariant.goes (inr (c.loop-test.true, inl done))

pub returns-in_default-visit-3-clause-tables : goal.returns-in_default-visit-3-clause-tables
returns-in_default-visit-3-clause-tables c =
    asks_both c.args.session.now c.loop.session c.visit.new.session c.loop.invariant.tables c.visit.ensures.tables

pub returns-in_default-visit-3-clause-names : goal.returns-in_default-visit-3-clause-names
returns-in_default-visit-3-clause-names c =
    reads_sensors c.args.session.now c.args.names.now c.loop.counter (cursor_at c.loop.session c.loop.walk) c.loop.names c.visit.new.session c.visit.new.names
    c.loop.invariant.wants c.loop.invariant.goes (inr (c.loop-test.true, inr (c.in_default-visit.ensures.ended, c.in_default-visit.ensures.same_names)))

pub loop-preserved : goal.loop-preserved
loop-preserved c =
    let new = cursor_at c.visit.new.session (record { reservation = c.visit.new.walk.reservation; id = c.in-Ok-visit.next }) in
    let goes : GoesToNext (cursor_at c.loop.session c.loop.walk) c.loop.names new c.visit.new.names = record {
      after = cursor_at c.visit.new.session c.visit.new.walk;
      reads = c.in-Ok-visit.ensures.read;
      some = c.if-next.true;
      wants = sym c.wants_sensors-then-next.ensures ∙ c.if-wants_sensors.true;
      same_session = refl;
      same_reservation = refl;
    } in
    record {
      tables = asks_both c.args.session.now c.loop.session c.visit.new.session c.loop.invariant.tables c.visit.ensures.tables;
      wants = c.loop.invariant.wants;
      goes = goes_to_next c.args.session.now c.args.names.now c.loop.counter (cursor_at c.loop.session c.loop.walk) c.loop.names new c.visit.new.names c.loop.invariant.goes goes;
    }

pub returns-clause-names : goal.returns-clause-names
returns-clause-names c =
    reads_sensors c.args.session.now c.args.names.now c.loop.counter (cursor_at c.loop.session c.loop.walk) c.loop.names c.loop.session c.loop.names c.loop.invariant.wants
    c.loop.invariant.goes (inl (omega (arith, c.loop-test.false, c.loop.auto.counter-end), refl, refl))
