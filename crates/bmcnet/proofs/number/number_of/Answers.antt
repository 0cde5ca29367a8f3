use Rattle.std.proofs.Common.{◌<◌, ◌^◌, ℕ, Option, sym, subst}
use Rattle.std.specs.Option.{SomeIff}
use Rattle.std.specs.Str.Parse.{IsNumeral, digits_value}
use Rattle.app_base.proofs.Numbers.{parsed}
use Rattle.bmcnet.proofs.number.number_of.Goals as goal

pub returns : goal.returns
returns c =
    subst (λ (o : Option ℕ). SomeIff o (IsNumeral 10 c.args.word.now × (digits_value 10 c.args.word.now < 2 ^ 32)) (digits_value 10 c.args.word.now)) (sym c.ok.ensures.value)
    (parsed 32 c.args.word.now c.parse.result c.has_plus.result c.if-has_plus.false c.has_plus.ensures c.parse.ensures.value.0)
