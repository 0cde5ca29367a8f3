use Rattle.std.proofs.Common.{◌≡◌, ℕ, add-one, arith, inl, inr, subst, sym}
use Rattle.undo_look.specs.declared.target.TablePart.TheVariants.{Bios}
use Rattle.app_look.specs.declared.attributes.Behind.{Behind}
use Rattle.app_look.specs.AttributeTables.{AddsPart, ReadsParts, most_parts}
use Rattle.app_look.proofs.Asks.{asks_both}
use Rattle.app_look.proofs.attributes.read_table.Goals as goal

pub returns-in_err-next-clause-tables : goal.returns-in_err-next-clause-tables
returns-in_err-next-clause-tables c =
    asks_both c.args.session.now c.loop.session c.add_part.new.session c.loop.invariant.tables c.add_part.ensures.tables

pub returns-in-Whole-clause-tables : goal.returns-in-Whole-clause-tables
returns-in-Whole-clause-tables c =
    asks_both c.args.session.now c.loop.session c.add_part.new.session c.loop.invariant.tables c.add_part.ensures.tables

pub returns-in-Whole-clause-read : goal.returns-in-Whole-clause-read
returns-in-Whole-clause-read c = record {
  count = c.loop.counter;
  few = c.loop-test.true;
  mid = c.loop.session;
  before = c.loop.bytes.items;
  transfer = c.loop.transfer;
  parts = c.loop.invariant.parts;
  last = subst (λ (behind : Behind). AddsPart (Bios c.args.table c.loop.transfer) c.loop.session c.loop.bytes.items behind c.add_part.new.session c.add_part.new.bytes.items)
      c.in-Whole.is c.in_ok-next.ensures.added;
}

pub returns-in-Unknown-clause-tables : goal.returns-in-Unknown-clause-tables
returns-in-Unknown-clause-tables c =
    asks_both c.args.session.now c.loop.session c.add_part.new.session c.loop.invariant.tables c.add_part.ensures.tables

pub returns-in-Unknown-clause-read : goal.returns-in-Unknown-clause-read
returns-in-Unknown-clause-read c = inl (
  c.add_part.new.bytes.items,
  record {
    count = c.loop.counter;
    few = c.loop-test.true;
    mid = c.loop.session;
    before = c.loop.bytes.items;
    transfer = c.loop.transfer;
    parts = c.loop.invariant.parts;
    last = subst (λ (behind : Behind). AddsPart (Bios c.args.table c.loop.transfer) c.loop.session c.loop.bytes.items behind c.add_part.new.session c.add_part.new.bytes.items)
        c.in-Unknown.is c.in_ok-next.ensures.added;
  },
)

pub loop-preserved : goal.loop-preserved
loop-preserved c = record {
  tables = asks_both c.args.session.now c.loop.session c.add_part.new.session c.loop.invariant.tables c.add_part.ensures.tables;
  parts = subst (λ (n : ℕ). ReadsParts n c.args.table c.args.session.now c.add_part.new.session c.add_part.new.bytes.items c.in-Part.next) (sym (add-one c.loop.counter)) (
    c.loop.session,
    c.loop.bytes.items,
    c.loop.transfer,
    c.loop.invariant.parts,
    subst (λ (behind : Behind). AddsPart (Bios c.args.table c.loop.transfer) c.loop.session c.loop.bytes.items behind c.add_part.new.session c.add_part.new.bytes.items)
        c.in-Part.is c.in_ok-next.ensures.added,
  );
}

pub returns-clause-read : goal.returns-clause-read
returns-clause-read c =
    let all : c.loop.counter ≡ most_parts = omega (arith, c.loop-test.false, c.loop.auto.counter-end) in
    inr (
      c.loop.bytes.items,
      c.loop.transfer,
      subst (λ (n : ℕ). ReadsParts n c.args.table c.args.session.now c.loop.session c.loop.bytes.items c.loop.transfer) all c.loop.invariant.parts,
    )
