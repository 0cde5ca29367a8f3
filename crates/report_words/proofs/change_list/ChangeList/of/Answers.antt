use Rattle.std.proofs.Common.{refl}
use Rattle.report_words.proofs.Listing.{list_of}
use Rattle.report_words.proofs.change_list.ChangeList.of.Goals as goal

pub returns : goal.returns
returns c = list_of c.args.asked c.args.file.now c.in_ok-of.field-0 _ c.if-not-asked.false c.in_ok-of.ensures refl
