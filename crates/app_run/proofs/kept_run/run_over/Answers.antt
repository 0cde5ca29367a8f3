use Rattle.std.specs.Prelude.{IfOk}
use Rattle.std.proofs.Common.{◌≡◌, ◌⊎◌, ℕ, List, Ok, Err, ap, inl, inr, length, refl, rules, string_bytes, subst}
use Rattle.plan_file.specs.declared.kind.Kind.{Kind}
use Rattle.bmc_ports.specs.Conversation.{links}
use Rattle.app_journal.proofs.LookedAt.{stays_same}
use Rattle.app_run.specs.Outcome.{RunsBeside}
use Rattle.app_run.specs.Told.{TellsSettling, TellsWay}
use Rattle.app_run.specs.Ways.{SettlesUnkept}
use Rattle.app_run.proofs.Going.{looked_on, ran_to, ran_unkept}
use Rattle.app_run.proofs.Ways.{carried}
use Rattle.app_run.proofs.kept_run.run_over.Goals as goal

pub returns-in-Ok-clause-runs : goal.returns-in-Ok-clause-runs
returns-in-Ok-clause-runs g c =
    let run = c.in-Ok.ensures.seen in
    let takes = g.F.WritesFiles.takes in
    let renames = g.F.WritesFiles.renames in
    let same = stays_same _ (λ watch. watch.keeper.files.ghost_name) (λ old m allowed new saw. saw.4) run.looks _ c.try_plan.new.watch run.seen in
    carried (λ new. RunsBeside takes renames c.args.beside.now c.args.ready.manager c.args.words.now (Ok (record { manager = c.try_plan.new.manager; phase = c.in-Ok.phase; kept = Ok tt })) (string_bytes c.args.ready.texts.last) c.args.files.now new)
    c.try_plan.new.watch.keeper.files.now _
    (λ before shows. (
      links c.try_plan.new.ipmb c.try_plan.new.smbus,
      string_bytes c.try_plan.new.watch.keeper.texts.now.last,
      ran_to takes renames before c.args.words.now c.args.ready.manager c.try_plan.new.manager (Ok c.in-Ok.phase) c.args.ends.ipmb c.args.ends.smbus c.try_plan.new.ipmb c.try_plan.new.smbus _
          (λ watch. watch.keeper.beside.now) (λ watch. string_bytes watch.keeper.texts.now.last) (λ watch. watch.keeper.files.now)
          (λ old m allowed new saw. record { keeps = saw.0; same = ap (λ beside. beside.now) saw.1 }) _ c.try_plan.new.watch c.requires.ipmb c.requires.smbus shows (c.in-Ok.ensures.goes before shows) run,
    ))
    (search (rules, same))

pub returns-in-Ok-clause-told : goal.returns-in-Ok-clause-told
returns-in-Ok-clause-told g c before shows =
    let run = c.in-Ok.ensures.seen in
    let out = g.P.Write.contents in
    let old = c.args.progress.now in
    let mid = c.try_plan.new.watch.teller.progress.now in
    let new = c.end.new.self.teller.progress.now in
    let kinds = c.args.ready.kinds.items in
    let same = stays_same _ (λ watch. watch.teller.progress.ghost_name) (λ old m allowed new saw. saw.5) run.looks _ c.try_plan.new.watch run.seen in
    let way = looked_on g.F.WritesFiles.takes g.F.WritesFiles.renames before c.args.words.now c.args.ready.manager c.try_plan.new.manager (Ok c.in-Ok.phase) c.args.ends.ipmb c.args.ends.smbus c.try_plan.new.ipmb c.try_plan.new.smbus out _
    (λ watch. watch.teller.course) (λ watch. watch.teller.progress.now) (λ old m allowed new saw. (saw.2, saw.3)) _ c.try_plan.new.watch c.requires.ipmb c.requires.smbus shows run in
    carried (λ new. (new ≡ old) ⊎ TellsWay out kinds (length kinds) before old new) new _
    (inr (subst (λ (n : ℕ). TellsWay out kinds n before old new) (search rules)
    (subst (λ (all : List Kind). TellsWay out all c.len.result before old new) c.as_slice.ensures.value (mid, (c.try_plan.new.manager, mid, way, inl refl), c.end.ensures.ends))))
    (search (rules, same))

pub returns-clause-runs : goal.returns-clause-runs
returns-clause-runs g c =
    let run = c.in-Err.ensures.seen in
    let takes = g.F.WritesFiles.takes in
    let renames = g.F.WritesFiles.renames in
    let words = c.args.words.now in
    let mid = c.try_plan.new.watch.keeper in
    let new = c.settle-ran.new.watch.keeper in
    let left = links c.try_plan.new.ipmb c.try_plan.new.smbus in
    let same = stays_same _ (λ watch. watch.keeper.files.ghost_name) (λ old m allowed new saw. saw.4) run.looks _ c.try_plan.new.watch run.seen in
    carried (λ new. RunsBeside takes renames c.args.beside.now c.args.ready.manager words c.settle-ran.result (string_bytes c.args.ready.texts.last) c.args.files.now new) new.files.now _
    (ran_unkept takes renames c.args.beside.now words c.try_plan.new.manager c.in-Err.field-0 left (string_bytes c.args.ready.texts.last) (string_bytes mid.texts.now.last) c.args.files.now mid.files.now
    new.files.now c.args.ready.manager c.settle-ran.result
    (λ before shows.
    ran_to takes renames before words c.args.ready.manager c.try_plan.new.manager (Err c.in-Err.field-0) c.args.ends.ipmb c.args.ends.smbus c.try_plan.new.ipmb c.try_plan.new.smbus _
    (λ watch. watch.keeper.beside.now) (λ watch. string_bytes watch.keeper.texts.now.last) (λ watch. watch.keeper.files.now)
    (λ old m allowed new saw. record { keeps = saw.0; same = ap (λ beside. beside.now) saw.1 }) _ c.try_plan.new.watch c.requires.ipmb c.requires.smbus shows (c.in-Err.ensures.goes before shows) run)
    (subst (λ beside. IfOk c.settle-ran.result (λ ran. SettlesUnkept takes renames beside.now words.turns ran.manager ran.phase ran.kept left (string_bytes mid.texts.now.last) mid.files.now new.files.now))
    (stays_same _ (λ watch. watch.keeper.beside) (λ old m allowed new saw. saw.1) run.looks _ c.try_plan.new.watch run.seen) c.settle-ran.ensures.settles)
    c.settle-ran.ensures.fault c.settle-ran.ensures.same)
    (search (rules, same))

pub returns-clause-told : goal.returns-clause-told
returns-clause-told g c before shows =
    let run = c.in-Err.ensures.seen in
    let out = g.P.Write.contents in
    let old = c.args.progress.now in
    let mid = c.try_plan.new.watch.teller.progress.now in
    let settled = c.settle-ran.new.watch.teller.progress.now in
    let new = c.end-in-Err.new.self.teller.progress.now in
    let kinds = c.args.ready.kinds.items in
    let same = stays_same _ (λ watch. watch.teller.progress.ghost_name) (λ old m allowed new saw. saw.5) run.looks _ c.try_plan.new.watch run.seen in
    let way = looked_on g.F.WritesFiles.takes g.F.WritesFiles.renames before c.args.words.now c.args.ready.manager c.try_plan.new.manager (Err c.in-Err.field-0) c.args.ends.ipmb c.args.ends.smbus c.try_plan.new.ipmb c.try_plan.new.smbus out _
    (λ watch. watch.teller.course) (λ watch. watch.teller.progress.now) (λ old m allowed new saw. (saw.2, saw.3)) _ c.try_plan.new.watch c.requires.ipmb c.requires.smbus shows run in
    let settling = subst (λ course. TellsSettling out course.kinds.now course.steps mid settled)
    (stays_same _ (λ watch. watch.teller.course) (λ old m allowed new saw. saw.3) run.looks _ c.try_plan.new.watch run.seen) c.settle-ran.ensures.told in
    carried (λ new. (new ≡ old) ⊎ TellsWay out kinds (length kinds) before old new) new _
    (inr (subst (λ (n : ℕ). TellsWay out kinds n before old new) (search rules)
    (subst (λ (all : List Kind). TellsWay out all c.len.result before old new) c.as_slice.ensures.value (settled, (c.try_plan.new.manager, mid, way, settling), c.end-in-Err.ensures.ends))))
    (search (rules, same))
