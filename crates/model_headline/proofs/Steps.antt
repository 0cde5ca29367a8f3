-- Each event of a lab is followed.
use Rattle.std.proofs.Common.{◌≡◌, ℕ, List, refl, subst}
use Rattle.std.specs.Prelude.{slice_get}
use Rattle.record_base.specs.declared.op.Op.{Op}
use Rattle.cfg_records.specs.declared.board_file.BoardFile.{BoardFile}
use Rattle.cfg_records.specs.Records.{Records}
use Rattle.undo_plans.specs.declared.names.Names.{Names}
use Rattle.model_undo.specs.declared.call.Call.{Call}
use Rattle.model_lab.specs.ManagerSteps.{called}
use Rattle.two_wire.specs.declared.Bus.{Bus}
use Rattle.two_wire.specs.declared.Bus.TheVariants.{Ipmb, Smbus}
use Rattle.ipmb_frame.specs.declared.message.Request.{Request}
use Rattle.mctp_net.specs.declared.message.Message.{Message}
use Rattle.bmc_board.specs.declared.activity.Activity.{Activity}
use Rattle.bmc_board.specs.State.{on_bench}
use Rattle.bmc_core.specs.Values.{Asks}
use Rattle.bmc_core.specs.PortSteps.{hears, hears_all, idles}
use Rattle.model_lab.specs.declared.way.Way.TheVariants.{ToOthers}
use Rattle.model_lab.specs.Lab.{Calls, ToBmc, ToMgr, OtherIpmb, OtherSmbus, Noise, Idles, OnBench, Lab, step, call_does, port_does, with_port, port_on, delivered, returned}
use Rattle.model_headline.specs.Tied.{own_plans, WorldFollows}
use Rattle.model_headline.specs.Follows.{CallsAreFollowed, RepliesAreFollowed, RequestsAreFollowed, OthersAreFollowed}
use Rattle.model_headline.proofs.Calls.{call_goes}
use Rattle.model_headline.proofs.Returns.{returned_goes}
use Rattle.model_headline.proofs.Asked.{other_goes}
use Rattle.model_headline.proofs.Delivered.{delivered_goes}
use Rattle.model_headline.proofs.OtherParts.{message_goes}
use Rattle.model_headline.proofs.Others.{idle_goes, noise_goes, bench_goes}

module _ (setup : BoardFile) (names : Names) where
  call_step : (x : Lab (own_plans setup names)) (call : Call) → call_does (own_plans setup names) (called (own_plans setup names) call x.manager) x ≡ step (own_plans setup names) setup x (Calls call)
  unfolding step
  call_step x call = refl

  return_step : (x : Lab (own_plans setup names)) (number : ℕ) → returned (own_plans setup names) setup (slice_get x.frames number) x ≡ step (own_plans setup names) setup x (ToMgr number)
  unfolding step
  return_step x number = refl

  deliver_step : (x : Lab (own_plans setup names)) (number : ℕ) → delivered (own_plans setup names) setup (slice_get x.frames number) x ≡ step (own_plans setup names) setup x (ToBmc number)
  unfolding step
  deliver_step x number = refl

  other_step : (x : Lab (own_plans setup names)) (r : Request) → port_does (own_plans setup names) Ipmb ToOthers 0 (hears setup x.ipmb x.board (Asks r)) x ≡ step (own_plans setup names) setup x (OtherIpmb r)
  unfolding step
  other_step x r = refl

  message_step : (x : Lab (own_plans setup names)) (m : Message) → port_does (own_plans setup names) Smbus ToOthers 0 (hears_all setup x.smbus x.board m) x ≡ step (own_plans setup names) setup x (OtherSmbus m)
  unfolding step
  message_step x m = refl

  noise_step : (x : Lab (own_plans setup names)) (bus : Bus) (bytes : List ℕ) → x ≡ step (own_plans setup names) setup x (Noise bus bytes)
  unfolding step
  noise_step x bus bytes = refl

  idle_step : (x : Lab (own_plans setup names)) (bus : Bus) (requester : ℕ) → with_port (own_plans setup names) bus (idles requester (port_on (own_plans setup names) bus x)) x ≡ step (own_plans setup names) setup x (Idles bus requester)
  unfolding step
  idle_step x bus requester = refl

  bench_step : (x : Lab (own_plans setup names)) (activity : Activity) → record x { board = on_bench x.board activity } ≡ step (own_plans setup names) setup x (OnBench activity)
  unfolding step
  bench_step x activity = refl

pub calls_followed : (setup : BoardFile) (names : Names) (plan : List Op) (start : Records) → CallsAreFollowed setup names plan start
calls_followed setup names plan start x call on tied h = subst (WorldFollows setup names x on) (call_step setup names x call) (call_goes setup names plan start x on tied h call)

pub replies_followed : (setup : BoardFile) (names : Names) (plan : List Op) (start : Records) → RepliesAreFollowed setup names plan start
replies_followed setup names plan start x number d on tied h = subst (WorldFollows setup names x on) (return_step setup names x number) (returned_goes setup names plan start x on tied h number d)

pub requests_followed : (setup : BoardFile) (names : Names) (plan : List Op) (start : Records) → RequestsAreFollowed setup names plan start
requests_followed setup names plan start x number d own on tied h = subst (WorldFollows setup names x on) (deliver_step setup names x number) (delivered_goes setup names plan start x on tied h number d own)

pub others_followed : (setup : BoardFile) (names : Names) (plan : List Op) (start : Records) → OthersAreFollowed setup names plan start
others_followed setup names plan start = record {
  requests = λ x r honest on tied h. subst (WorldFollows setup names x on) (other_step setup names x r) (other_goes setup names plan start x on tied h r honest.0 honest.1);
  messages = λ x m honest on tied h. subst (WorldFollows setup names x on) (message_step setup names x m) (message_goes setup names x on tied m honest.0 honest.1);
  noise = λ x bus bytes on tied h. subst (WorldFollows setup names x on) (noise_step setup names x bus bytes) (noise_goes setup names plan start x on tied h);
  idles = λ x bus requester honest on tied h. subst (WorldFollows setup names x on) (idle_step setup names x bus requester) (idle_goes setup names plan start x on tied h bus requester honest);
  bench = λ x activity on tied h. subst (WorldFollows setup names x on) (bench_step setup names x activity) (bench_goes setup names plan start x on tied h activity);
}
