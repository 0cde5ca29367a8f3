use Rattle.std.proofs.Common.{ℕ, List, Ok, inl, inr, refl, sym, subst}
use Rattle.app_base.specs.Ending.{RunEnds}
use Rattle.app_base.specs.EndingLaws.{run_ends_as}
use Rattle.app_apply.specs.Ends.{SaysUnreadOn, TellsUnread}
use Rattle.app_revert.proofs.reverting.revert_held.Goals as goal

pub returns-in-Ok-clause-ends : goal.returns-in-Ok-clause-ends
returns-in-Ok-clause-ends g c =
    inl (
      c.as_str-in-Ok.result.now,
      subst (λ (word : List ℕ). g.F.TextFiles.gives c.args.files.now word (Ok c.as_str-in-Ok.result.now)) c.as_str.ensures.value
          (subst (λ (text : List ℕ). g.F.TextFiles.gives c.args.files.now c.as_str.result.now (Ok text)) (sym c.as_str-in-Ok.ensures.value) c.in-Ok.ensures.text),
      c.revert_on.ensures.ends,
    )

pub returns-in-Err-clause-ends : goal.returns-in-Err-clause-ends
returns-in-Err-clause-ends g c =
    inr (
      refl,
      subst (λ (word : List ℕ). RunEnds g.W.Write.contents g.E.Write.contents (SaysUnreadOn c.args.words.now.json (g.F.TextFiles.gives c.args.files.now) word) c.args.console.now
          c.say_unread.new.console c.say_unread.result) c.as_str.ensures.value
          (run_ends_as g.W.Write.contents g.E.Write.contents (TellsUnread c.args.words.now.json c.in-Err.unread.why c.in-Err.unread.word.now)
          (SaysUnreadOn c.args.words.now.json (g.F.TextFiles.gives c.args.files.now) c.as_str.result.now) c.args.console.now c.say_unread.new.console c.say_unread.result
          (λ stream said status told. (
            c.in-Err.unread.why,
            c.in-Err.ensures.unread,
            subst (λ (word : List ℕ). TellsUnread c.args.words.now.json c.in-Err.unread.why word stream said status) c.in-Err.ensures.word told,
          ))
          c.say_unread.ensures),
    )
