-- What comes of the reply to a task's request, by the kind of the task.
use Rattle.std.proofs.Common.{◌≡◌, ◌==◌, ℕ, Bool, false, if◌then◌else◌, List, length, Some, refl, sym, ap, subst}
use Rattle.std.specs.Prelude.{slice_get}
use Rattle.two_wire.specs.Codes.{success}
use Rattle.record_base.specs.declared.op.Op.{Op}
use Rattle.record_kinds.specs.Series.{Series, set_whole}
use Rattle.undo_plans.specs.declared.names.Names.{Names}
use Rattle.undo_plans.specs.Requests.{RequestList}
use Rattle.model_undo.specs.Machine as machine
use Rattle.undo_core.specs.declared.entering.Reply.{Reply}
use Rattle.undo_core.specs.declared.stage.Task.TheVariants as task
use Rattle.undo_core.specs.declared.stage.Stage.{Stage}
use Rattle.undo_core.specs.declared.stage.Stage.TheVariants as stage
use Rattle.model_undo.specs.declared.phase.Why.TheVariants.{Refused, GetRefused}
use Rattle.undo_core.specs.Joining.{AreJoined}
use Rattle.undo_core.specs.Shown.{words_of, backs, answered_in, IsTask, IsGot, IsStage}
use Rattle.undo_core.specs.Entered.{AfterTask}
use Rattle.undo_core.proofs.Going.{refused_stage}

module _ (plan : List Op) (stopped : Bool) (step parts : ℕ) (reply : Reply) (old new : RequestList) (r : Stage) where
  -- of a Get, which leaves the requests that undo
  pub got : (before after : List ℕ) → new.members ≡ old.members
      → ((names : Names) (op : Op) (part : machine.Part (words_of names)) → slice_get plan step ≡ Some op → length part.before ≡ parts → AreJoined before part.before
      → IsStage names plan new after r (machine.stage_after (words_of names) stopped plan (answered_in reply) (machine.Gets step op) part))
      → AfterTask plan stopped (task.Gets step) parts reply old new before after r
  got before after same goes = record { stage = at; undo = undo } where
    at : (names : Names) (of : machine.Task (words_of names)) (part : machine.Part (words_of names)) → IsTask names plan old (task.Gets step) of → length part.before ≡ parts
        → IsGot (task.Gets step) before part.before → IsStage names plan new after r (machine.stage_after (words_of names) stopped plan (answered_in reply) of part)
    at names (machine.Gets place op) part is many shown =
        subst (λ (k : ℕ). IsStage names plan new after r (machine.stage_after (words_of names) stopped plan (answered_in reply) (machine.Gets k op) part)) (sym is.0) (goes names op part is.1 many shown)
    at names (machine.Sets place op back) part is many shown = absurd is
    at names (machine.Undoes first rest) part is many shown = absurd is

    undo : (names : Names) (of : machine.Task (words_of names)) (part : machine.Part (words_of names)) → IsTask names plan old (task.Gets step) of → length part.before ≡ parts
        → machine.undo_after (words_of names) (answered_in reply) of part (backs old.members) ≡ backs new.members
    undo names (machine.Gets place op) part is many = ap backs (sym same)
    undo names (machine.Sets place op back) part is many = absurd is
    undo names (machine.Undoes first rest) part is many = absurd is

  -- of a Set
  pub set : ((names : Names) (op back : Op) (part : machine.Part (words_of names)) (replies : List ℕ) → slice_get plan step ≡ Some op → old.waiting ≡ Some (set_whole back) → length part.before ≡ parts
      → IsStage names plan new replies r (machine.stage_after (words_of names) stopped plan (answered_in reply) (machine.Sets step op back) part))
      → ((names : Names) (op back : Op) (part : machine.Part (words_of names)) → slice_get plan step ≡ Some op → old.waiting ≡ Some (set_whole back) → length part.before ≡ parts
      → machine.undo_after (words_of names) (answered_in reply) (machine.Sets step op back) part (backs old.members) ≡ backs new.members)
      → (any : List ℕ) → AfterTask plan stopped (task.Sets step) parts reply old new any any r
  set goes leaves any = record { stage = at; undo = undo } where
    at : (names : Names) (of : machine.Task (words_of names)) (part : machine.Part (words_of names)) → IsTask names plan old (task.Sets step) of → length part.before ≡ parts
        → IsGot (task.Sets step) any part.before → IsStage names plan new any r (machine.stage_after (words_of names) stopped plan (answered_in reply) of part)
    at names (machine.Gets place op) part is many shown = absurd is
    at names (machine.Sets place op back) part is many shown =
        subst (λ (k : ℕ). IsStage names plan new any r (machine.stage_after (words_of names) stopped plan (answered_in reply) (machine.Sets k op back) part)) (sym is.0)
        (goes names op back part any is.1 is.2 many)
    at names (machine.Undoes first rest) part is many shown = absurd is

    undo : (names : Names) (of : machine.Task (words_of names)) (part : machine.Part (words_of names)) → IsTask names plan old (task.Sets step) of → length part.before ≡ parts
        → machine.undo_after (words_of names) (answered_in reply) of part (backs old.members) ≡ backs new.members
    undo names (machine.Gets place op) part is many = absurd is
    undo names (machine.Sets place op back) part is many =
        subst (λ (k : ℕ). machine.undo_after (words_of names) (answered_in reply) (machine.Sets k op back) part (backs old.members) ≡ backs new.members) (sym is.0)
        (leaves names op back part is.1 is.2 many)
    undo names (machine.Undoes first rest) part is many = absurd is

  -- of a request that undoes
  pub undid : ((names : Names) (first : Series) (rest : List Series) (part : machine.Part (words_of names)) (replies : List ℕ)
      → IsTask names plan old (task.Undoes step) (machine.Undoes first rest) → length part.before ≡ parts
      → IsStage names plan old replies r (machine.stage_after (words_of names) stopped plan (answered_in reply) (machine.Undoes first rest) part))
      → (any : List ℕ) → AfterTask plan stopped (task.Undoes step) parts reply old old any any r
  undid goes any = record { stage = at; undo = undo } where
    at : (names : Names) (of : machine.Task (words_of names)) (part : machine.Part (words_of names)) → IsTask names plan old (task.Undoes step) of → length part.before ≡ parts
        → IsGot (task.Undoes step) any part.before → IsStage names plan old any r (machine.stage_after (words_of names) stopped plan (answered_in reply) of part)
    at names (machine.Gets place op) part is many shown = absurd is
    at names (machine.Sets place op back) part is many shown = absurd is
    at names (machine.Undoes first rest) part is many shown = goes names first rest part any is many

    undo : (names : Names) (of : machine.Task (words_of names)) (part : machine.Part (words_of names)) → IsTask names plan old (task.Undoes step) of → length part.before ≡ parts
        → machine.undo_after (words_of names) (answered_in reply) of part (backs old.members) ≡ backs old.members
    undo names (machine.Gets place op) part is many = absurd is
    undo names (machine.Sets place op back) part is many = absurd is
    undo names (machine.Undoes first rest) part is many = refl

module _ (plan : List Op) (stopped : Bool) (step parts : ℕ) (reply : Reply) (old : RequestList) (code : ℕ) (any : List ℕ) where
  -- of a Get that was refused
  pub get_refused : reply.code ≡ code → (reply.code == success) ≡ false → AfterTask plan stopped (task.Gets step) parts reply old old any any (stage.AtHalt step (GetRefused code))
  get_refused same fails = got plan stopped step parts reply old old (stage.AtHalt step (GetRefused code)) any any refl (λ names op part there many shown.
      subst (IsStage names plan old any (stage.AtHalt step (GetRefused code))) (sym (refused_stage names stopped plan (answered_in reply) (machine.Gets step op) part fails))
      (refl, ap GetRefused same))

  -- of a Set that was refused
  pub set_refused : reply.code ≡ code → (reply.code == success) ≡ false → AfterTask plan stopped (task.Sets step) parts reply old old any any (stage.AtHalt step (Refused code))
  set_refused same fails = set plan stopped step parts reply old old (stage.AtHalt step (Refused code)) (λ names op back part replies there waits many.
      subst (IsStage names plan old replies (stage.AtHalt step (Refused code))) (sym (refused_stage names stopped plan (answered_in reply) (machine.Sets step op back) part fails))
      (refl, ap Refused same))
      (λ names op back part there waits many.
      ap (λ (b : Bool). if b then machine.undo_with (words_of names) back (machine.next_asked (words_of names) (answered_in reply) (machine.Sets step op back) part) (backs old.members)
      else backs old.members) fails)
      any
