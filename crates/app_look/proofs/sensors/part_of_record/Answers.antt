use Rattle.std.proofs.Common.{◌∙◌, ℕ, add-one, ap, arith, inl, refl, sym, subst}
use Rattle.app_look.specs.declared.asking.Told.{Told}
use Rattle.app_look.specs.declared.asking.Told.TheVariants as told
use Rattle.app_look.specs.Asking.{PartTells}
use Rattle.app_look.specs.SensorRecords.{AreReservedAnew, EndsPart, IsLast, cursor_at, part_at}
use Rattle.app_look.proofs.Asks.{asks_both}
use Rattle.app_look.proofs.SensorRecords.{ends_last, ends_unreserved, of_error}
use Rattle.app_look.proofs.sensors.part_of_record.Goals as goal

pub returns-in-Shown-clause-tables : goal.returns-in-Shown-clause-tables
returns-in-Shown-clause-tables c =
    asks_both c.args.session.now c.loop.session c.ask_once.new.session c.loop.invariant.tables c.ask_once.ensures.tables

pub returns-in-Shown-clause-shown : goal.returns-in-Shown-clause-shown
returns-in-Shown-clause-shown c = record {
  times = c.loop.counter;
  few = c.loop-test.true;
  mid = cursor_at c.loop.session c.loop.walk;
  reserved = c.loop.invariant.reserved;
  shown = subst (λ (told : Told). PartTells (part_at c.loop.walk c.args.offset c.args.count) c.loop.session told c.ask_once.new.session) c.in-Shown.is c.ask_once.ensures.told;
  same_walk = refl;
}

pub returns-in_err-walk-in-Refused-clause-tables : goal.returns-in_err-walk-in-Refused-clause-tables
returns-in_err-walk-in-Refused-clause-tables c =
    asks_both c.args.session.now c.loop.session c.reserve.new.session c.loop.invariant.tables
    (asks_both c.loop.session c.ask_once.new.session c.reserve.new.session c.ask_once.ensures.tables c.reserve.ensures.tables)

pub returns-in_err-walk-in-Refused-clause-ended : goal.returns-in_err-walk-in-Refused-clause-ended
returns-in_err-walk-in-Refused-clause-ended c =
    of_error c.from_residual.result (EndsPart c.args.offset c.args.count (cursor_at c.args.session.now c.args.walk.now) c.reserve.new.session)
    (
    ends_unreserved c.args.offset c.args.count c.loop.counter (cursor_at c.args.session.now c.args.walk.now) (cursor_at c.loop.session c.loop.walk) c.loop.invariant.reserved
    c.loop-test.true c.ask_once.new.session c.reserve.new.session
    (subst (λ (told : Told). PartTells (part_at c.loop.walk c.args.offset c.args.count) c.loop.session told c.ask_once.new.session)
    (c.in-Refused.is ∙ ap told.Refused (c.if-why-value.true ∙ c.value.ensures.value)) c.ask_once.ensures.told) c.in_err-walk-in-Refused.ensures.ended
    )

pub returns-in-Refused-2-clause-tables : goal.returns-in-Refused-2-clause-tables
returns-in-Refused-2-clause-tables c =
    asks_both c.args.session.now c.loop.session c.ask_once.new.session c.loop.invariant.tables c.ask_once.ensures.tables

pub returns-in-Refused-2-clause-ended : goal.returns-in-Refused-2-clause-ended
returns-in-Refused-2-clause-ended c =
    ends_last c.args.offset c.args.count c.loop.counter (cursor_at c.args.session.now c.args.walk.now) (cursor_at c.loop.session c.loop.walk) c.loop.invariant.reserved
    c.loop-test.true c.ask_once.result c.ask_once.new.session c.ask_once.ensures.told
    (subst IsLast (sym c.in-Refused.is) (λ same. c.if-why-value.false (same ∙ sym c.value.ensures.value)))

pub returns-in-Silent-clause-tables : goal.returns-in-Silent-clause-tables
returns-in-Silent-clause-tables c =
    asks_both c.args.session.now c.loop.session c.ask_once.new.session c.loop.invariant.tables c.ask_once.ensures.tables

pub returns-in-Silent-clause-ended : goal.returns-in-Silent-clause-ended
returns-in-Silent-clause-ended c =
    ends_last c.args.offset c.args.count c.loop.counter (cursor_at c.args.session.now c.args.walk.now) (cursor_at c.loop.session c.loop.walk) c.loop.invariant.reserved
    c.loop-test.true c.ask_once.result c.ask_once.new.session c.ask_once.ensures.told (subst IsLast (sym c.in-Silent.is) tt)

pub loop-preserved : goal.loop-preserved
loop-preserved c = record {
  tables = asks_both c.args.session.now c.loop.session c.reserve.new.session c.loop.invariant.tables
      (asks_both c.loop.session c.ask_once.new.session c.reserve.new.session c.ask_once.ensures.tables c.reserve.ensures.tables);
  reserved = subst (λ (n : ℕ). AreReservedAnew n c.args.offset c.args.count (cursor_at c.args.session.now c.args.walk.now) (cursor_at c.reserve.new.session (record { reservation = c.in_ok-walk-in-Refused.field-0; id = c.loop.walk.id })))
      (sym (add-one c.loop.counter)) (
        cursor_at c.loop.session c.loop.walk,
        c.loop.invariant.reserved,
        record {
          between = c.ask_once.new.session;
          canceled = subst (λ (told : Told). PartTells (part_at c.loop.walk c.args.offset c.args.count) c.loop.session told c.ask_once.new.session)
              (c.in-Refused.is ∙ ap told.Refused (c.if-why-value.true ∙ c.value.ensures.value)) c.ask_once.ensures.told;
          reserves = c.in_ok-walk-in-Refused.ensures.reserved;
          same_record = refl;
        },
      );
}

pub returns-clause-ended : goal.returns-clause-ended
returns-clause-ended c = (c.loop.counter, cursor_at c.loop.session c.loop.walk, c.loop.invariant.reserved, inl (omega (arith, c.loop-test.false, c.loop.auto.counter-end), refl))
