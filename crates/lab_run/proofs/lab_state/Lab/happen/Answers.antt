use Rattle.std.proofs.Common.{ℕ, List, sym, ◌∙◌, ap, subst}
use Rattle.std.specs.Prelude.{OnOk}
use Rattle.bmc_board.specs.declared.bench.Bench.{Bench}
use Rattle.bmc_board.specs.State.{State, on_bench}
use Rattle.bmc_board.specs.Sensing.{bench_of}
use Rattle.bmc_board.proofs.SensingFacts.{benched_so}
use Rattle.model_lab.specs.Lab.{step}
use Rattle.model_lab.specs.Meaning.{on_board}
use Rattle.text_lines.specs.declared.event.Event.{Event}
use Rattle.model_lab.specs.Faults.{is_frame}
use Rattle.model_lab.specs.Played.{fault_at, happens}
use Rattle.lab_run.specs.declared.lab_state.Lab.{Lab}
use Rattle.lab_run.specs.Shown.{Represents, BecomesLab}
use Rattle.lab_run.specs.Makes.{benches}
use Rattle.lab_run.specs.Hearing.{IgnoresFrame, EventResult}
use Rattle.lab_run.proofs.Sent.{on_ok, on_any}
use Rattle.lab_run.proofs.Silence.{is_no_frame}
use Rattle.lab_run.proofs.lab_state.Lab.happen.Goals as goal

-- the lab becomes what it is after an event
abbrev After : Lab → Lab → Event → Type 0
After old new e = BecomesLab old new (λ file. happens file e)

-- the lab becomes what it is once this happened on the board
abbrev Benched : Lab → Lab → Bench → Type 0
Benched old new happened = BecomesLab old new (benches happened)

-- what happens on the bench leaves what is staged
benched : (old new : Lab) (happened : Bench) → Benched old new happened
    → BecomesLab old new (λ file x. record x { board = on_bench x.board (bench_of file x.board happened).1.activity })
benched old new happened becomes file x shows =
    subst (λ (board : State). Represents file new (record x { board = board })) (sym (benched_so file x.board happened)) (becomes file x shows)

pub returns-in-Calls-clause-becomes : goal.returns-in-Calls-clause-becomes
unfolding step
returns-in-Calls-clause-becomes c = subst (λ (e : Event). OnOk c.call.result (After c.args.self.now c.call.new.self e)) (sym c.in-Calls.is) c.call.ensures.becomes

pub returns-in-ToBmc-clause-becomes : goal.returns-in-ToBmc-clause-becomes
unfolding step
returns-in-ToBmc-clause-becomes c = subst (λ (e : Event). OnOk c.to_port.result (After c.args.self.now c.to_port.new.self e)) (sym c.in-ToBmc.is) c.to_port.ensures.becomes

pub returns-in-ToMgr-clause-becomes : goal.returns-in-ToMgr-clause-becomes
unfolding step
returns-in-ToMgr-clause-becomes c =
    subst (λ (e : Event). OnOk c.to_manager.result (After c.args.self.now c.to_manager.new.self e)) (sym c.in-ToMgr.is) c.to_manager.ensures.becomes

pub returns-in-OtherIpmb-clause-becomes : goal.returns-in-OtherIpmb-clause-becomes
unfolding step
returns-in-OtherIpmb-clause-becomes c =
    subst (λ (e : Event). OnOk c.other_request.result (After c.args.self.now c.other_request.new.self e)) (sym c.in-OtherIpmb.is) c.other_request.ensures.becomes

pub returns-in-OtherSmbus-clause-becomes : goal.returns-in-OtherSmbus-clause-becomes
unfolding step
returns-in-OtherSmbus-clause-becomes c =
    subst (λ (e : Event). OnOk c.other_message.result (After c.args.self.now c.other_message.new.self e)) (sym c.in-OtherSmbus.is) c.other_message.ensures.becomes

pub returns-in-Noise-clause-becomes : goal.returns-in-Noise-clause-becomes
unfolding step
returns-in-Noise-clause-becomes c =
    let is = c.as_slice.ensures.value in
    subst (λ (e : Event). OnOk c.noise.result (After c.args.self.now c.noise.new.self e)) (sym c.in-Noise.is)
    (on_ok c.noise.result c.noise.ensures.stays (λ stays file x shows. stays file x shows
    (ap (is_frame c.in-Noise.on) is ∙ is_no_frame c.in-Noise.on c.in-Noise.bytes x (ap (fault_at file x) (sym c.in-Noise.is) ∙ c.requires.taken file x shows))))

pub returns-in-Idle-clause-becomes : goal.returns-in-Idle-clause-becomes
unfolding step
returns-in-Idle-clause-becomes c = subst (After c.args.self.now c.idle.new.self) (sym c.in-Idle.is) c.idle.ensures.becomes

pub returns-in-OnBench-clause-becomes : goal.returns-in-OnBench-clause-becomes
unfolding step
returns-in-OnBench-clause-becomes c =
    subst (After c.args.self.now c.bench.new.self) (sym c.in-OnBench.is)
    (benched c.args.self.now c.bench.new.self (on_board c.in-OnBench.happened)
    (subst (Benched c.args.self.now c.bench.new.self) c.on_board.ensures c.bench.ensures.becomes))

-- ---- what the controller did

pub returns-in-ToBmc-clause-done : goal.returns-in-ToBmc-clause-done
returns-in-ToBmc-clause-done c = subst (λ (e : Event). OnOk c.to_port.result (EventResult e c.args.self.now c.to_port.new.self)) (sym c.in-ToBmc.is) c.to_port.ensures.done

pub returns-in-Calls-clause-done : goal.returns-in-Calls-clause-done
returns-in-Calls-clause-done c = subst (λ (e : Event). OnOk c.call.result (EventResult e c.args.self.now c.call.new.self)) (sym c.in-Calls.is) (on_any c.call.result tt)

pub returns-in-ToMgr-clause-done : goal.returns-in-ToMgr-clause-done
returns-in-ToMgr-clause-done c = subst (λ (e : Event). OnOk c.to_manager.result (EventResult e c.args.self.now c.to_manager.new.self)) (sym c.in-ToMgr.is) (on_any c.to_manager.result tt)

pub returns-in-OtherIpmb-clause-done : goal.returns-in-OtherIpmb-clause-done
returns-in-OtherIpmb-clause-done c = subst (λ (e : Event). OnOk c.other_request.result (EventResult e c.args.self.now c.other_request.new.self)) (sym c.in-OtherIpmb.is) (on_any c.other_request.result tt)

pub returns-in-OtherSmbus-clause-done : goal.returns-in-OtherSmbus-clause-done
returns-in-OtherSmbus-clause-done c = subst (λ (e : Event). OnOk c.other_message.result (EventResult e c.args.self.now c.other_message.new.self)) (sym c.in-OtherSmbus.is) (on_any c.other_message.result tt)

pub returns-in-Noise-clause-done : goal.returns-in-Noise-clause-done
returns-in-Noise-clause-done c =
    let is = c.as_slice.ensures.value in
    subst (λ (e : Event). OnOk c.noise.result (EventResult e c.args.self.now c.noise.new.self)) (sym c.in-Noise.is)
    (on_ok c.noise.result c.noise.ensures.ignored (λ ignored file x shows. subst (λ (bytes : List ℕ). IgnoresFrame c.in-Noise.on bytes c.noise.new.self.out.done) is (ignored file x shows
    (ap (is_frame c.in-Noise.on) is ∙ is_no_frame c.in-Noise.on c.in-Noise.bytes x (ap (fault_at file x) (sym c.in-Noise.is) ∙ c.requires.taken file x shows)))))

pub returns-in-Idle-clause-done : goal.returns-in-Idle-clause-done
returns-in-Idle-clause-done c = subst (λ (e : Event). EventResult e c.args.self.now c.idle.new.self) (sym c.in-Idle.is) tt

pub returns-in-OnBench-clause-done : goal.returns-in-OnBench-clause-done
returns-in-OnBench-clause-done c = subst (λ (e : Event). EventResult e c.args.self.now c.bench.new.self) (sym c.in-OnBench.is) tt
