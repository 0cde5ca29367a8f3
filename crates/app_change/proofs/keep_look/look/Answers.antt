use Rattle.std.specs.Prelude.{IfOk}
use Rattle.std.proofs.Common.{◌∙◌, List, subst}
use Rattle.record_base.specs.declared.key.Key.{Key}
use Rattle.app_look.specs.declared.reading.NamedRecords.{NamedRecords}
use Rattle.app_look.specs.Reading.{FindsWithNames}
use Rattle.app_change.proofs.keep_look.look.Goals as goal

pub returns-in-Ok-clause-found : goal.returns-in-Ok-clause-found
returns-in-Ok-clause-found g c =
    subst (λ (keys : List Key). IfOk c.look_and_name.result (λ (named : NamedRecords). FindsWithNames c.args.way.now keys named.found.items named.names))
    (c.as_slice.ensures.value ∙ c.in-Ok.ensures) c.look_and_name.ensures.found
