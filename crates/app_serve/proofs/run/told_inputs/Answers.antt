use Rattle.std.proofs.Common.{inl, inr, option_map, string_bytes}
use Rattle.app_base.specs.EndingLaws.{run_reports}
use Rattle.app_serve.specs.Run.{SaysUnserved}
use Rattle.app_serve.proofs.run.told_inputs.Goals as goal

pub returns-in-Ok-servable_inputs-clause-hold : goal.returns-in-Ok-servable_inputs-clause-hold
returns-in-Ok-servable_inputs-clause-hold g c = (
  string_bytes c.in-Ok.texts.board,
  option_map (λ s. string_bytes s) c.in-Ok.texts.readings,
  c.in-Ok.ensures.texts,
  c.in-Ok-servable_inputs.ensures.served,
)

pub returns-clause-ends : goal.returns-clause-ends
returns-clause-ends g c =
    let board = string_bytes c.in-Ok.texts.board in
    let given = option_map (λ s. string_bytes s) c.in-Ok.texts.readings in
    inl (
      board,
      given,
      c.in-Ok.ensures.texts,
      inl (run_reports g.W.Write.contents g.E.Write.contents (SaysUnserved c.args.words.now board given) c.in-Err-servable_inputs.report c.args.console.now c.finish.new.console
          c.finish.result c.in-Err-servable_inputs.ensures.refused c.finish.ensures),
    )

pub returns-in-Err-clause-ends : goal.returns-in-Err-clause-ends
returns-in-Err-clause-ends g c = inr (c.in-Err.unread.word.now, c.in-Err.unread.why, c.in-Err.ensures.unread, c.refuse.ensures)
