use Rattle.std.proofs.Common.{◌∙◌, sym}
use Rattle.report_words.proofs.Wanted.{attribute_added}
use Rattle.report_words.proofs.table_names.Names.want_attribute.Goals as goal

pub returns-clause-attributes : goal.returns-clause-attributes
returns-clause-attributes c =
    c.in_ok-push.ensures.items
    ∙ sym (attribute_added c.args.attribute c.in-Some.handle c.args.self.now.attributes.items c.in-Some.is (sym c.has_attribute.ensures ∙ c.if-has_attribute.false))
