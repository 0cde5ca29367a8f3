use Rattle.std.proofs.Common.{◌∙◌, List, ap, inl, length, subst}
use Rattle.record_base.specs.declared.key.Key.{Key}
use Rattle.app_look.specs.declared.records.Found.{Found}
use Rattle.app_look.specs.declared.session.Way.{Way}
use Rattle.app_look.specs.Reading.{FindsAndNames}
use Rattle.app_change.specs.Preview.{TellsOf, keys_of, way_of}
use Rattle.app_change.proofs.LookedAt.{one_for_each}
use Rattle.app_change.proofs.previewing.preview_over.Goals as goal

pub tell_of-requires : goal.tell_of-requires
tell_of-requires g c =
    ap length c.as_slice-in-Ok-look_and_name.ensures.value
    ∙ one_for_each c.way_of-way.result c.args.plan.now.steps c.as_slice.result.now c.in-Ok-look_and_name.named.found.items (c.as_slice.ensures.value ∙ c.in-Ok.ensures)
    (c.in-Ok-look_and_name.named.names, c.in-Ok-look_and_name.ensures.found)

pub returns-in-Ok-look_and_name : goal.returns-in-Ok-look_and_name
returns-in-Ok-look_and_name g c =
    let found = c.in-Ok-look_and_name.named.found.items in
    inl (
      found,
      subst (λ (way : Way). FindsAndNames way (keys_of c.args.plan.now.steps) found) {y = way_of c.args.words.now.reach c.args.plan.now.retries} c.way_of-way.ensures
          (subst (λ (keys : List Key). FindsAndNames c.way_of-way.result keys found) (c.as_slice.ensures.value ∙ c.in-Ok.ensures) (c.in-Ok-look_and_name.named.names, c.in-Ok-look_and_name.ensures.found)),
      subst (λ (told : List Found). TellsOf g.W.Write.contents g.E.Write.contents c.args.plan.now.steps told c.args.console.now c.tell_of.new.console c.tell_of.result)
          c.as_slice-in-Ok-look_and_name.ensures.value c.tell_of.ensures,
    )
