use Rattle.std.proofs.Common.{map, ◌≤◌, ℕ, List, length, ◌∙◌, ap, sym, subst}
use Rattle.record_base.specs.declared.attribute.Attribute.{Attribute}
use Rattle.bios_attr.specs.declared.bios_table.BiosTable.TheVariants as table_name
use Rattle.bios_attr.specs.Attributes.{strings_of, string_entries, attribute_entries}
use Rattle.bios_attr.specs.Tables.{IsTable}
use Rattle.bios_attr.specs.Values.{head_of}
use Rattle.bios_attr.specs.AttributeLaws.{strings_few}
use Rattle.bios_attr.specs.StringTableLaws.{are_strings}
use Rattle.bios_attr.specs.TableEntry.{IsTableOf}
use Rattle.bios_attr.specs.TableContents.{attribute_contents}
use Rattle.bios_attr.proofs.BodyFacts.{string_table}
use Rattle.bios_attr.proofs.tables.Tables.open.Goals as goal

pub string_table-requires : goal.string_table-requires
string_table-requires c =
    let few : length (strings_of c.args.attributes.now.items) ≤ 65535 = strings_few c.args.attributes.now.items c.args.attributes.now.few in
    subst (λ (xs : List (List ℕ)). length xs ≤ 65535) (sym (c.as_slice.ensures.value ∙ c.in_ok-strings.ensures ∙ ap strings_of c.as_slice-attributes.ensures)) few

pub attribute_table-requires : goal.attribute_table-requires
attribute_table-requires c =
    let few : length (strings_of c.args.attributes.now.items) ≤ 65535 = strings_few c.args.attributes.now.items c.args.attributes.now.few in
    subst (λ (xs : List (List ℕ)). length xs ≤ 65535) (sym (c.as_slice-2.ensures.value ∙ c.in_ok-strings.ensures ∙ ap strings_of c.as_slice-attributes.ensures)) few

pub returns-clause-tables : goal.returns-clause-tables
returns-clause-tables c =
    let attributes = c.args.attributes.now.items in
    let same_attributes = c.as_slice-attributes.ensures in
    let same_strings = c.in_ok-strings.ensures ∙ ap strings_of same_attributes in
    record {
      strings = subst (λ (xs : List (List ℕ)). IsTable (string_entries 0 xs) c.in_ok-string_table.field-0.items) (c.as_slice.ensures.value ∙ same_strings) c.in_ok-string_table.ensures;
      described =
          subst (λ (xs : List (List ℕ)). IsTable (attribute_entries xs attributes) c.in_ok-attribute_table.field-0.items) (c.as_slice-2.ensures.value ∙ same_strings)
          (subst (λ (xs : List Attribute). IsTable (attribute_entries c.as_slice-2.result.now xs) c.in_ok-attribute_table.field-0.items) same_attributes c.in_ok-attribute_table.ensures.table);
      heads = c.in_ok-heads.ensures ∙ ap (map head_of) same_attributes;
      texts = are_strings attributes;
    }

pub returns-clause-contents : goal.returns-clause-contents
returns-clause-contents c =
    let attributes = c.args.attributes.now.items in
    let same_attributes = c.as_slice-attributes.ensures in
    let same_strings = c.in_ok-strings.ensures ∙ ap strings_of same_attributes in
    record {
      strings = string_table (strings_of attributes) c.in_ok-string_table.field-0.items
          (subst (λ (xs : List (List ℕ)). IsTable (string_entries 0 xs) c.in_ok-string_table.field-0.items) (c.as_slice.ensures.value ∙ same_strings) c.in_ok-string_table.ensures);
      described =
          subst (λ (xs : List (List ℕ)). IsTableOf table_name.Attributes (attribute_contents xs attributes) c.in_ok-attribute_table.field-0.items) (c.as_slice-2.ensures.value ∙ same_strings)
          (subst (λ (xs : List Attribute). IsTableOf table_name.Attributes (attribute_contents c.as_slice-2.result.now xs) c.in_ok-attribute_table.field-0.items) same_attributes c.in_ok-attribute_table.ensures.contents);
    }
