use Rattle.std.proofs.Common.{sym, ap, ◌∙◌, arith}
use Rattle.toml_parser.specs.Strings.{key}
use Rattle.file_faults.proofs.expression.key_at.Goals as goal

pub returns-in-Ok : goal.returns-in-Ok
returns-in-Ok c =
    (omega (arith, c.in-Some.ensures.back_len), (c.in-Ok.rest.now, ap key (sym c.in-Some.ensures.back) ∙ c.in-Ok.ensures.value))
