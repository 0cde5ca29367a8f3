use Rattle.std.proofs.lemmas.List.{length-map}
use Rattle.cfg_records.specs.Boards.{pairs_of}
use Rattle.report_words.specs.BoardNames.{names_of}
use Rattle.report_words.specs.Changes.{change_line, changed_pairs, types_of}
use Rattle.report_words.proofs.laws.each_change_is_listed.Goals as goal

pub returns : goal.returns
returns c file records = length-map (changed_pairs records (pairs_of file)) (change_line (types_of file) (names_of file) records)
