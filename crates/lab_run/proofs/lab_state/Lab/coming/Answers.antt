use Rattle.std.proofs.Common.{ℕ, ◌-◌, nat_lt, Option, Some, sym, ◌∙◌, ap, option_map}
use Rattle.two_wire.specs.declared.Bus.{Bus}
use Rattle.model_lab.specs.Faults.{begun_on}
use Rattle.model_lab.specs.Meaning.{lab_names}
use Rattle.model_lab.specs.Played.{plans}
use Rattle.lab_run.specs.declared.note.Delivery.{Delivery}
use Rattle.lab_run.specs.Shown.{IsSentFrame}
use Rattle.lab_run.specs.Coming.{comes}
use Rattle.lab_run.proofs.Sent.{beside, none_beside}
use Rattle.lab_run.proofs.lab_state.Lab.coming.Goals as goal

pub returns-in_default : goal.returns-in_default
returns-in_default c file x shows = ap (option_map (comes x)) (sym (none_beside IsSentFrame c.args.self.now.frames x.frames c.args.number shows.frames c.in_default.ensures.none))

pub returns : goal.returns
returns c file x shows =
    let s = c.in-Some.frame.now in
    let at = beside IsSentFrame c.args.self.now.frames x.frames c.args.number s shows.frames c.in-Some.ensures.some in
    let mark = at.2.is.mark in
    let late : ℕ → Option Delivery = λ n. Some (record { on = s.mark.on; late = nat_lt 1 n }) in
    let came : Bus → ℕ → ℕ → Option Delivery = λ on begun request. Some (record { on = on; late = nat_lt 1 (begun - request) }) in
    ap (λ (n : ℕ). late n) c.saturating_sub.ensures
    ∙ ap (λ (n : ℕ). came s.mark.on n s.mark.request) (c.begun-begun.ensures lab_names x.manager shows.manager)
    ∙ ap (λ (t : Bus × ℕ). came t.0 (begun_on plans.words t.0 x.manager.machine) t.1) (λ i. (sym mark.on i, sym mark.request i))
    ∙ ap (option_map (comes x)) (sym at.1)
