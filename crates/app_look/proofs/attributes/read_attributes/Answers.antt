use Rattle.std.specs.Option.{option_map}
use Rattle.std.proofs.Common.{◌≡◌, ◌∙◌, ℕ, List, Option, Some, None, Vec, Global, true, inr, refl, subst, sym}
use Rattle.std.proofs.lemmas.Result.{IfOk-weaker}
use Rattle.bios_attr.specs.declared.bios_table.BiosTable.TheVariants as table
use Rattle.report_words.specs.TableNames.{AreNamed}
use Rattle.app_look.specs.AttributeTables.{ReadsTable, wants_attributes}
use Rattle.app_look.proofs.Asks.{asks_both}
use Rattle.app_look.proofs.attributes.read_attributes.Goals as goal

pub returns-in_default-clause-names : goal.returns-in_default-clause-names
returns-in_default-clause-names c =
    let wants : wants_attributes c.args.names.now ≡ true = sym c.wants_attributes.ensures ∙ c.if-not-wants_attributes.false in
    let none = subst (λ (read : Option (Vec ℕ Global)). ReadsTable table.Attributes c.args.session.now (option_map (λ bytes. bytes.items) read) c.read_table.new.session)
    c.in_default.is c.in_ok-attributes.ensures.read in
    inr (wants, (c.read_table.new.session, None, none, (refl, refl)))

pub returns-in_err-strings-clause-tables : goal.returns-in_err-strings-clause-tables
returns-in_err-strings-clause-tables c =
    asks_both c.args.session.now c.read_table.new.session c.read_table-2.new.session c.read_table.ensures.tables c.read_table-2.ensures.tables

pub returns-in_default-2-clause-tables : goal.returns-in_default-2-clause-tables
returns-in_default-2-clause-tables c =
    asks_both c.args.session.now c.read_table.new.session c.read_table-2.new.session c.read_table.ensures.tables c.read_table-2.ensures.tables

pub returns-in_default-2-clause-names : goal.returns-in_default-2-clause-names
returns-in_default-2-clause-names c =
    let wants : wants_attributes c.args.names.now ≡ true = sym c.wants_attributes.ensures ∙ c.if-not-wants_attributes.false in
    let attributes = subst (λ (read : Option (Vec ℕ Global)). ReadsTable table.Attributes c.args.session.now (option_map (λ bytes. bytes.items) read) c.read_table.new.session)
    c.in-Some.is c.in_ok-attributes.ensures.read in
    let none = subst (λ (read : Option (Vec ℕ Global)). ReadsTable table.Strings c.read_table.new.session (option_map (λ bytes. bytes.items) read) c.read_table-2.new.session)
    c.in_default-2.is c.in_ok-strings.ensures.read in
    inr (wants, (c.read_table.new.session, Some c.in-Some.attributes.items, attributes, (None, none, refl)))

pub returns-clause-tables : goal.returns-clause-tables
returns-clause-tables c =
    asks_both c.args.session.now c.read_table.new.session c.read_table-2.new.session c.read_table.ensures.tables c.read_table-2.ensures.tables

pub returns-clause-names : goal.returns-clause-names
returns-clause-names c =
    let wants : wants_attributes c.args.names.now ≡ true = sym c.wants_attributes.ensures ∙ c.if-not-wants_attributes.false in
    let attributes = subst (λ (read : Option (Vec ℕ Global)). ReadsTable table.Attributes c.args.session.now (option_map (λ bytes. bytes.items) read) c.read_table.new.session)
    c.in-Some.is c.in_ok-attributes.ensures.read in
    let strings = subst (λ (read : Option (Vec ℕ Global)). ReadsTable table.Strings c.read_table.new.session (option_map (λ bytes. bytes.items) read) c.read_table-2.new.session)
    c.in-Some-2.is c.in_ok-strings.ensures.read in
    IfOk-weaker c.name_attributes.result _ _
    (
    λ done named.
    let by_strings = subst (λ (bytes : List ℕ). AreNamed c.as_slice.result.now bytes c.args.names.now.attributes.items c.name_attributes.new.self.attributes.items)
    c.as_slice-2.ensures.value named in
    let by_both = subst (λ (bytes : List ℕ). AreNamed bytes c.in-Some-2.strings.items c.args.names.now.attributes.items c.name_attributes.new.self.attributes.items)
    c.as_slice.ensures.value by_strings in
    inr (wants, (c.read_table.new.session, Some c.in-Some.attributes.items, attributes, (Some c.in-Some-2.strings.items, strings, (by_both, c.name_attributes.ensures.sensors))))
    )
    c.name_attributes.ensures.attributes
