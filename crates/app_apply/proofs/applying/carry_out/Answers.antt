use Rattle.std.specs.Prelude.{Ok, None, Result}
use Rattle.std.specs.declared.alloc.AllocError.{AllocError}
use Rattle.std.proofs.Common.{◌∙◌, ℕ, true, List, ap, inl, refl, string_bytes, subst, sym}
use Rattle.app_run.specs.declared.greeting.Greetings.{Greetings}
use Rattle.app_run.specs.Greeted.{greetings_before_run}
use Rattle.app_apply.specs.declared.applying.Applied.{Applied}
use Rattle.app_apply.specs.declared.guarding.Guard.{Guard}
use Rattle.app_apply.specs.declared.outcome.Outcome.TheVariants as outcome
use Rattle.app_apply.specs.Apply.{BeginsIn, GoesGuarded}
use Rattle.app_apply.specs.Guard.{Guards}
use Rattle.app_apply.proofs.Begun.{applied_is, is_refused}
use Rattle.app_apply.proofs.applying.carry_out.Goals as goal

pub returns-in_err-guarded-clause-comes : goal.returns-in_err-guarded-clause-comes
returns-in_err-guarded-clause-comes g c =
    let before = c.in_ok-ready.ready.manager in
    let text = string_bytes c.in_ok-ready.ready.texts.last in
    let words = c.args.words.now in
    let mid = c.take_file.new.files in
    inl (record {
      before = before;
      opened = c.in_ok-ready.ensures.manager;
      text = text;
      is = c.in_ok-ready.ensures.text;
      taken = c.take_file.result;
      mid = mid;
      guards = subst (λ (word : List ℕ). Guards g.F.TextFiles g.F.WritesFiles word words.replace c.take_file.result c.args.files.now mid) c.as_str.ensures.value c.take_file.ensures;
      goes = subst (λ (taken : Result Guard AllocError). GoesGuarded g.F.TextFiles g.F.WritesFiles (greetings_before_run true c.args.plan) words.reach.again before text taken c.from_residual-in_err-guarded.result mid mid)
          (sym (c.in_err-guarded.was))
          ((is_refused c.from_residual-in_err-guarded.result c.from_residual-in_err-guarded.ensures.0).1, refl);
    })

pub returns-in-Taken-clause-comes : goal.returns-in-Taken-clause-comes
returns-in-Taken-clause-comes g c =
    let before = c.in_ok-ready.ready.manager in
    let text = string_bytes c.in_ok-ready.ready.texts.last in
    let words = c.args.words.now in
    let mid = c.take_file.new.files in
    inl (record {
      before = before;
      opened = c.in_ok-ready.ensures.manager;
      text = text;
      is = c.in_ok-ready.ensures.text;
      taken = c.take_file.result;
      mid = mid;
      guards = subst (λ (word : List ℕ). Guards g.F.TextFiles g.F.WritesFiles word words.replace c.take_file.result c.args.files.now mid) c.as_str.ensures.value c.take_file.ensures;
      goes = subst (λ (taken : Result Guard AllocError). GoesGuarded g.F.TextFiles g.F.WritesFiles (greetings_before_run true c.args.plan) words.reach.again before text taken c.begin_ready.result mid c.begin_ready.new.files)
          (sym (c.in_ok-guarded.was ∙ ap (λ (guard : Guard). Ok guard) c.in-Taken.is))
          (subst (λ (greetings : Greetings). BeginsIn g.F.WritesFiles greetings words.reach.again before text c.in-Taken.guarded c.begin_ready.result mid c.begin_ready.new.files)
          c.in_ok-ready.ensures.greetings c.begin_ready.ensures.begins);
    })

pub returns-in-Held-clause-comes : goal.returns-in-Held-clause-comes
returns-in-Held-clause-comes g c =
    let before = c.in_ok-ready.ready.manager in
    let text = string_bytes c.in_ok-ready.ready.texts.last in
    let words = c.args.words.now in
    let mid = c.take_file.new.files in
    inl (record {
      before = before;
      opened = c.in_ok-ready.ensures.manager;
      text = text;
      is = c.in_ok-ready.ensures.text;
      taken = c.take_file.result;
      mid = mid;
      guards = subst (λ (word : List ℕ). Guards g.F.TextFiles g.F.WritesFiles word words.replace c.take_file.result c.args.files.now mid) c.as_str.ensures.value c.take_file.ensures;
      goes = subst (λ (taken : Result Guard AllocError). GoesGuarded g.F.TextFiles g.F.WritesFiles (greetings_before_run true c.args.plan) words.reach.again before text taken (Ok c.applied_as.result) mid mid)
          (sym (c.in_ok-guarded.was ∙ ap (λ (guard : Guard). Ok guard) c.in-Held.is))
          (ap (λ (applied : Applied). Ok applied) (applied_is c.applied_as.result before outcome.Held None c.applied_as.ensures.manager c.applied_as.ensures.outcome c.applied_as.ensures.aside), refl);
    })

pub returns-in-Occupied-clause-comes : goal.returns-in-Occupied-clause-comes
returns-in-Occupied-clause-comes g c =
    let before = c.in_ok-ready.ready.manager in
    let text = string_bytes c.in_ok-ready.ready.texts.last in
    let words = c.args.words.now in
    let mid = c.take_file.new.files in
    inl (record {
      before = before;
      opened = c.in_ok-ready.ensures.manager;
      text = text;
      is = c.in_ok-ready.ensures.text;
      taken = c.take_file.result;
      mid = mid;
      guards = subst (λ (word : List ℕ). Guards g.F.TextFiles g.F.WritesFiles word words.replace c.take_file.result c.args.files.now mid) c.as_str.ensures.value c.take_file.ensures;
      goes = subst (λ (taken : Result Guard AllocError). GoesGuarded g.F.TextFiles g.F.WritesFiles (greetings_before_run true c.args.plan) words.reach.again before text taken (Ok c.applied_as-in-Occupied.result) mid mid)
          (sym (c.in_ok-guarded.was ∙ ap (λ (guard : Guard). Ok guard) c.in-Occupied.is))
          (ap (λ (applied : Applied). Ok applied) (applied_is c.applied_as-in-Occupied.result before (outcome.Occupied c.in-Occupied.standing) None c.applied_as-in-Occupied.ensures.manager c.applied_as-in-Occupied.ensures.outcome c.applied_as-in-Occupied.ensures.aside), refl);
    })
