-- What comes of greetings before a manager is called.
use Rattle.std.specs.Prelude.{◌&&◌, is_none, Err, Result}
use Rattle.std.proofs.Common.{◌≡◌, ◌∙◌, ℕ, List, true, false, Option, None, Some, inl, inr, refl, sym, subst, ap}
use Rattle.two_wire.specs.declared.Bus.{Bus}
use Rattle.wire_links.specs.declared.link.Link.{Ghosts}
use Rattle.undo_plans.specs.declared.names.Names.{Names}
use Rattle.model_lab.specs.Meaning.{lab_names}
use Rattle.undo_plans.specs.declared.greeting.Greeting.{Greeting}
use Rattle.undo_plans.specs.declared.greeting.GreetingStage.TheVariants.{AtStart}
use Rattle.undo_core.specs.declared.manager.Manager.{Manager}
use Rattle.undo_core.specs.Shown.{Represents}
use Rattle.bmc_ports.specs.declared.greeter.GreetEnd.{GreetEnd}
use Rattle.bmc_ports.specs.Greeted as driven
use Rattle.app_base.specs.declared.ending.ReportFault.{ReportFault}
use Rattle.app_run.specs.declared.greeting.GreetFault.{GreetFault}
use Rattle.app_run.specs.declared.greeting.GreetFault.TheVariants as fault
use Rattle.app_run.specs.declared.greeting.Greetings.{Greetings}
use Rattle.app_run.specs.declared.greeting.Unanswered.{Unanswered}
use Rattle.app_run.specs.declared.running.Outcome.{Outcome}
use Rattle.app_run.specs.declared.running.RunWords.{RunWords}
use Rattle.app_journal.specs.declared.undo_files.UndoFiles.{UndoFiles}
use Rattle.app_journal.specs.declared.files.WritesFiles.{Ghosts as FileGhosts}
use Rattle.app_run.specs.Driven.{DrivenState}
use Rattle.app_run.specs.Greeted.{GreetedFirst, GreetsBus, unanswered_by}
use Rattle.app_run.specs.Outcome.{GoesFrom, StaysGreeted}

-- ---- a bus

-- none of both is to be greeted
pub no_number : (ipmb smbus : Option ℕ) → (is_none ipmb && is_none smbus) ≡ true → (ipmb ≡ None) × (smbus ≡ None)
no_number None None is = (refl, refl)
no_number None (Some next) is = let both : false ≡ true = is in cc both
no_number (Some next) smbus is = let both : false ≡ true = is in cc both

module _ {L : Type 0} (of : Ghosts L) (bus : Bus) (retries turns : ℕ) (link : L) where
  -- it isn't to be greeted
  pub not_greeted : (given : Option ℕ) → given ≡ None → GreetsBus of bus given retries turns link None link
  not_greeted given is = subst (λ (next : Option ℕ). GreetsBus of bus next retries turns link None link) (sym is) (refl, refl)

  abbrev new_of : Names → ℕ → Greeting
  new_of names next = record { names = names; bus = bus; next = next; retries = retries; stage = AtStart; resent = 0 }

  -- it was greeted
  pub greeted : (given : Option ℕ) (next : ℕ) (names : Names) (start after : Greeting) (end : GreetEnd) (unanswered : Option Unanswered) (left : L) → given ≡ Some next → names ≡ lab_names
      → start ≡ new_of names next → driven.GreetsOver of turns start link after end left → unanswered ≡ unanswered_by bus end
      → GreetsBus of bus given retries turns link unanswered left
  greeted given next names start after end unanswered left is named new over ends =
      subst (λ (next : Option ℕ). GreetsBus of bus next retries turns link unanswered left) (sym is) (
        after,
        end,
        subst (λ (g : Greeting). driven.GreetsOver of turns g link after end left) (new ∙ ap (λ (n : Names). new_of n next) named) over,
        ends,
      )

-- ---- a manager that did nothing

module _ {Files : Type 0} (written : FileGhosts Files) where
  -- one that was to run a plan
  pub left_run : (greetings : Greetings) (beside : UndoFiles) (before : DrivenState) (words : RunWords) (had : List ℕ) (manager : Manager) (why : GreetFault) (outcome : Result Outcome ReportFault) (files : Files)
      → Represents lab_names manager before → GreetedFirst greetings words.turns (Err why) → StaysGreeted manager why outcome
      → GoesFrom written greetings beside before words had outcome files files
  left_run greetings beside before words had manager fault.NoLink outcome files shows greeted is = inr (inr (is, refl))
  left_run greetings beside before words had manager (fault.Unanswered why) outcome files shows greeted (phase, is, named) =
      inr (inl (record { phase = phase; why = why; is = is; unanswered = greeted; phase_is = named before shows; same = refl }))
