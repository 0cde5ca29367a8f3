use Rattle.std.proofs.Common.{◌∙◌, sym, string_bytes}
use Rattle.app_base.proofs.Readings.{refuses_none, refuses_on}
use Rattle.app_bmclab.proofs.Readings.{shown_alike, shown_refuses}
use Rattle.app_bmclab.proofs.words.play_words.Goals as goal

pub returns-in_default-clause-refused : goal.returns-in_default-clause-refused
returns-in_default-clause-refused c =
    let frames = c.has_flag-frames.ensures in
    let premises = c.has_flag-premises.ensures in
    let chart = c.has_flag-chart.ensures in
    let list = c.has_flag-list.ensures in
    let flags = shown_alike _ _ _ _ _ _ _ _ frames premises list chart in
    refuses_none _ c.shown_refusal.result (λ asked asks. shown_refuses c.has_flag-frames.result c.has_flag-premises.result c.has_flag-list.result c.has_flag-chart.result (sym c.shown.ensures ∙ c.in_default.is) asked.shown (flags ∙ asks.shown))

pub returns-in_err-restarts-clause-refused : goal.returns-in_err-restarts-clause-refused
returns-in_err-restarts-clause-refused c =
    refuses_on _ _ _ _ c.from_residual.ensures.1 (λ asked asks. (asked.restarts.items, asks.restarts)) c.in_err-restarts.ensures.refused

pub returns-in_err-named-clause-refused : goal.returns-in_err-named-clause-refused
returns-in_err-named-clause-refused c =
    refuses_on _ _ _ _ c.from_residual-in_err-named.ensures.1 (λ asked asks. (string_bytes asked.board, asks.board)) c.in_err-named.ensures.refused

pub returns-in_err-named-2-clause-refused : goal.returns-in_err-named-2-clause-refused
returns-in_err-named-2-clause-refused c =
    refuses_on _ _ _ _ c.from_residual-in_err-named-2.ensures.1 (λ asked asks. (string_bytes asked.plan, asks.plan)) c.in_err-named-2.ensures.refused

pub returns-in_err-named-3-clause-refused : goal.returns-in_err-named-3-clause-refused
returns-in_err-named-3-clause-refused c =
    refuses_on _ _ _ _ c.from_residual-in_err-named-3.ensures.1 (λ asked asks. (string_bytes asked.schedule, asks.schedule)) c.in_err-named-3.ensures.refused

pub returns-clause-asked : goal.returns-clause-asked
returns-clause-asked c =
    let frames = c.has_flag-frames.ensures in
    let premises = c.has_flag-premises.ensures in
    let chart = c.has_flag-chart.ensures in
    let list = c.has_flag-list.ensures in
    let flags = shown_alike _ _ _ _ _ _ _ _ frames premises list chart in
    record {
      shown = sym flags ∙ (sym c.shown.ensures ∙ c.in-Some.is);
      explain = c.has_flag-explain.ensures;
      strict = sym c.has_flag.ensures;
      list = sym list;
      restarts = c.in_ok-restarts.ensures.named;
      board = c.in_ok-named.ensures.word;
      plan = c.in_ok-named-2.ensures.word;
      schedule = c.in_ok-named-3.ensures.word;
    }
