use Rattle.std.proofs.Common.{◌≤◌, ℕ, Option, sym, subst, length, get_or}
use Rattle.std.specs.Option.{SomeIff}
use Rattle.std.specs.Str.Parse.{IsNumeral, digits_value}
use Rattle.text_lines.proofs.Numerals.{short, differ}
use Rattle.text_lines.proofs.decimals.number.Goals as goal

pub returns : goal.returns
returns c =
    let first = differ (get_or c.args.word.now 0 0) 43 c.begins_with.result c.if-begins_with.false c.begins_with.ensures in
    let read = short c.args.word.now c.args.most c.parse.result c.parse.ensures.value.0 first c.if-word-most.false c.requires in
    subst (λ (o : Option ℕ). SomeIff o (IsNumeral 10 c.args.word.now × (length c.args.word.now ≤ c.args.most)) (digits_value 10 c.args.word.now)) (sym c.ok.ensures.value) read
