use Rattle.std.proofs.Common.{◌∙◌, List, ℕ, map, string_bytes, sym}
use Rattle.std.specs.Option.{option_copied}
use Rattle.record_base.specs.declared.message.Asked.{Asked}
use Rattle.app_base.specs.declared.status.Status.TheVariants.{RefusedWords}
use Rattle.bmc_lab.specs.Request.{IsRequestOf, SpellBytes}
use Rattle.bmc_lab.proofs.Found.{if_none, if_some, ok_or_none, ok_same}
use Rattle.bmc_lab.proofs.Spelling.{not_asked}
use Rattle.bmc_lab.proofs.request.asked_request.Goals as goal

pub returns-in-Ok-Some-clause-refused : goal.returns-in-Ok-Some-clause-refused
returns-in-Ok-Some-clause-refused c refused =
    let none = ok_or_none c.request_of.result RefusedWords RefusedWords (sym c.ok_or.ensures.value ∙ refused) in
    let spells = if_some (λ bytes. SpellBytes (map string_bytes c.args.words.now) bytes.items) c.in-Ok-Some.field-0 c.in-Ok-Some.bytes c.in-Ok-Some.field-0-is c.in-Ok-Some.ensures.some in
    not_asked (option_copied c.args.word) (map string_bytes c.args.words.now) c.in_ok-bus.bus c.in-Ok-Some.bytes.items c.as_slice.result.now
    (λ other means. ok_same c.in_ok-bus.bus other ((c.in_ok-bus.ensures.bus other).1 means)) spells c.as_slice.ensures.value
    (if_none ((asked : Asked) → ¬ IsRequestOf c.in_ok-bus.bus c.as_slice.result.now asked) c.request_of.result none c.request_of.ensures.none)

pub returns-in-Ok-None-clause-refused : goal.returns-in-Ok-None-clause-refused
returns-in-Ok-None-clause-refused c refused asked asks =
    if_none ((bytes : List ℕ) → ¬ SpellBytes (map string_bytes c.args.words.now) bytes) c.in-Ok-None.field-0 c.in-Ok-None.field-0-is c.in-Ok-None.ensures.none asks.bytes asks.spelt
