-- What a frame of the manager that comes to the port does in a lab, it does in the model's world.
use Rattle.std.proofs.Common.{◌≡◌, ℕ, List, Option, Some, refl, sym, subst}
use Rattle.std.specs.Prelude.{slice_get, IfSome}
use Rattle.two_wire.specs.declared.Bus.{Bus}
use Rattle.two_wire.specs.declared.Bus.TheVariants.{Ipmb, Smbus}
use Rattle.record_base.specs.declared.op.Op.{Op}
use Rattle.cfg_records.specs.declared.board_file.BoardFile.{BoardFile}
use Rattle.cfg_records.specs.Records.{Records}
use Rattle.model_undo.specs.World.{States}
use Rattle.undo_plans.specs.declared.names.Names.{Names}
use Rattle.bmc_core.specs.PortSteps.{hears}
use Rattle.model_lab.specs.Own.{JoinsOwn}
use Rattle.model_lab.specs.Honest.{IsLive, IsDelivered}
use Rattle.model_lab.specs.declared.way.Way.TheVariants.{ToPort, ToManager}
use Rattle.model_lab.specs.Lab.{LabFrame, Lab, port_does, port_on, opens, delivered}
use Rattle.model_headline.specs.Tied.{own_plans, own_lines, IsHeld, IsHeldBy, IsTied, world_of, WorldFollows}
use Rattle.model_headline.specs.Follows.{HoldsInWorld}
use Rattle.model_headline.proofs.Each.{each_at}
use Rattle.model_headline.proofs.Live.{live_there}
use Rattle.model_headline.proofs.Asked.{asked_goes}
use Rattle.model_headline.proofs.Whole.{part_goes}

module _ (setup : BoardFile) (names : Names) (plan : List Op) (start : Records) where
  module _ (x : Lab (own_plans setup names)) (on : States (own_lines setup names)) (tied : IsTied setup names x on) (h : HoldsInWorld setup names plan start (world_of setup names x on)) where
    by_bus : (f : LabFrame) (bus : Bus) → f.on ≡ bus → IsLive (own_plans setup names) x f → JoinsOwn (own_plans setup names) x f.request f.value → IsHeldBy setup names ToPort bus on f → WorldFollows setup names x on (delivered (own_plans setup names) setup (Some f) x)
    by_bus f Ipmb at live mine hold =
        subst (λ bus. WorldFollows setup names x on (port_does (own_plans setup names) bus ToManager f.request (hears setup (port_on (own_plans setup names) bus x) x.board f.value) (opens (own_plans setup names) f.value f.request x))) (sym at)
        (subst (λ v. WorldFollows setup names x on (port_does (own_plans setup names) Ipmb ToManager f.request (hears setup x.ipmb x.board v) (opens (own_plans setup names) v f.request x))) (sym hold.value)
        (asked_goes setup names plan start x on tied h hold.request f hold (live_there setup names plan start x on tied h f hold.frame Ipmb at live hold.is_of.request hold.is_of.idles) refl))
    by_bus f Smbus at live mine hold =
        subst (λ bus. WorldFollows setup names x on (port_does (own_plans setup names) bus ToManager f.request (hears setup (port_on (own_plans setup names) bus x) x.board f.value) (opens (own_plans setup names) f.value f.request x))) (sym at)
        (subst (λ v. WorldFollows setup names x on (port_does (own_plans setup names) Smbus ToManager f.request (hears setup x.smbus x.board v) (opens (own_plans setup names) v f.request x))) (sym hold.value)
        (part_goes setup names plan start x on tied h f hold (live_there setup names plan start x on tied h f hold.part.frame Smbus at live hold.same_request hold.same_idles) (subst (JoinsOwn (own_plans setup names) x f.request) hold.value mine)))

    -- a live frame of the manager comes to the port, and joins no other request's assembly
    pub delivered_goes : (number : ℕ) → IsDelivered (own_plans setup names) ToPort x number → IfSome (slice_get x.frames number) (λ f. JoinsOwn (own_plans setup names) x f.request f.value)
        → WorldFollows setup names x on (delivered (own_plans setup names) setup (slice_get x.frames number) x)
    delivered_goes number d own =
        let held = each_at (IsHeld setup names on) x.frames number d.frame tied.frames d.sent in
        let here = subst (λ way. IsHeldBy setup names way d.frame.on on d.frame) d.meant held in
        let mine = subst (λ (o : Option LabFrame). IfSome o (λ f. JoinsOwn (own_plans setup names) x f.request f.value)) d.sent own in
        subst (λ o. WorldFollows setup names x on (delivered (own_plans setup names) setup o x)) (sym d.sent) (by_bus d.frame d.frame.on refl d.live mine here)
