-- The plan of the steps that a look keeps.
use Rattle.std.specs.Prelude.{Result}
use Rattle.std.specs.declared.alloc.AllocError.{AllocError}
use Rattle.std.proofs.Common.{◌≡◌, List, sym, subst}
use Rattle.record_base.specs.declared.op.Op.{Op}
use Rattle.undo_plans.specs.declared.plan.Plan.{Plan}
use Rattle.report_words.specs.declared.table_names.Names.{Names}
use Rattle.app_look.specs.declared.session.Way.{Way}
use Rattle.app_change.specs.PreviewRuns.{Carries}
use Rattle.app_change.specs.KeepLook.{KeptByLook}
use Rattle.app_change.proofs.KeptSteps.{kept_lead_alike}
use Rattle.app_change.specs.Looks.{KeepsChanges}

-- they lead each record to where the steps of the plan lead it
pub keeps_changes : (way : Way) (plan kept : Plan) (names : Result Names AllocError) → KeptByLook way plan.steps kept.steps names → kept.retries ≡ plan.retries → KeepsChanges way plan kept
keeps_changes way plan kept names (found, finds, is) alike = record {
  found = found;
  finds = (names, finds);
  steps = is;
  alike = λ limits key old new live is_valid at carried. subst (λ (steps : List Op). Carries limits key live steps old new) (sym is)
      (kept_lead_alike limits key plan.steps found old new live is_valid at carried);
  retries = alike;
}
