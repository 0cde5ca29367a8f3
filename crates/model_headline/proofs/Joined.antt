-- A packet that joins one of a recent request joins one of its own request, and the other way round.
use Rattle.std.proofs.Common.{◌≡◌, ℕ, ◌+◌, ◌%◌, ◌<◌, ◌≤◌, true, false, List, [], ◌∷◌, length, Option, Some, None, refl, sym, ◌∙◌, ap, subst, arith, inl}
use Rattle.std.specs.Prelude.{◌==◌, slice_get, IfSome}
use Rattle.std.proofs.lemmas.Bool.{false≢true}
use Rattle.std.proofs.lemmas.List.{length-map}
use Rattle.std.proofs.lemmas.Option.{slice_get_within}
use Rattle.two_wire.specs.declared.Bus.{Bus}
use Rattle.two_wire.specs.declared.Bus.TheVariants.{Ipmb, Smbus}
use Rattle.mctp_net.specs.declared.packet.Packet.{Packet}
use Rattle.mctp_net.specs.Cut.{Piece}
use Rattle.mctp_net.specs.Assembly.{name_of, taken_under, drop_cause}
use Rattle.mctp_net.proofs.Causes.{passes, joined-more}
use Rattle.record_base.specs.declared.op.Op.{Op}
use Rattle.cfg_records.specs.declared.board_file.BoardFile.{BoardFile}
use Rattle.cfg_records.specs.Records.{Records}
use Rattle.model_bus.specs.Repeat.{In}
use Rattle.model_bus.specs.Assembly.{Name, SentPacket}
use Rattle.model_bus.specs.BusState.{Content}
use Rattle.model_bus.specs.Circle.{span_of}
use Rattle.model_bus.specs.Schedule.{IsLive as IsLiveThere}
use Rattle.model_bus.specs.PacketBus.{request_name}
use Rattle.model_bus.proofs.Sound.{Fits}
use Rattle.model_bus.proofs.Assemblies.{one_tag}
use Rattle.model_undo.specs.World.{States}
use Rattle.undo_plans.specs.declared.names.Names.{Names}
use Rattle.bmc_core.specs.Seen.{seen, AreSeen}
use Rattle.bmc_core.specs.Values.{Value, Asks, Tells, Part}
use Rattle.model_lab.specs.Faults.{begun_on}
use Rattle.model_lab.specs.Honest.{IsLive, IsDelivered}
use Rattle.model_lab.specs.Own.{JoinsOwn, IsOwn}
use Rattle.model_lab.specs.Joins.{JoinsLive, IsJoinLive}
use Rattle.model_lab.specs.declared.way.Way.TheVariants.{ToPort}
use Rattle.model_lab.specs.Lab.{ToBmc, LabFrame, Lab}
use Rattle.model_headline.specs.Tied.{own_plans, own_lines, smbus_bus, rules_on, HoldsAskedPart, IsHeld, IsHeldBy, IsTied, world_of}
use Rattle.model_headline.specs.Follows.{HoldsInWorld}
use Rattle.model_headline.proofs.Each.{each_at}
use Rattle.model_headline.proofs.Sending.{from_zero}
use Rattle.model_headline.proofs.Live.{smbus_holds, live_there, most_begun}

module _ (setup : BoardFile) (names : Names) (plan : List Op) (start : Records) where
  module _ (x : Lab (own_plans setup names)) (on : States (own_lines setup names)) (tied : IsTied setup names x on) (h : HoldsInWorld setup names plan start (world_of setup names x on)) where
    module _ (f : LabFrame) (hold : HoldsAskedPart setup names (on Smbus) f) where
      abbrev p : Packet
      p = hold.packet

      -- what waits of the manager's under the packet's tag
      abbrev waits : List SentPacket
      waits = (on Smbus).port (request_name (smbus_bus setup names) hold.part.frame.request)

      -- what waits is what the port has
      alike : AreSeen waits (taken_under p x.smbus.kept)
      alike = subst (λ (n : Name). AreSeen ((on Smbus).port n) (taken_under p x.smbus.kept)) hold.part.named (tied.smbus_port.waits (name_of p.envelope))

      tag_is : p.envelope.tag ≡ hold.part.frame.request % 8
      tag_is = ap (λ (n : Name). n.tag) hold.part.named ∙ ap (λ (n : ℕ). n % 8) (sym (from_zero hold.part.frame.request))

      some_waits : p.start ≡ false → drop_cause x.smbus.eid x.smbus.kept p ≡ None → (length waits == 0) ≡ false
      some_waits more none =
          let long : length waits ≡ length (taken_under p x.smbus.kept) =
          sym (length-map waits (λ (s : SentPacket). s.packet)) ∙ ap length alike ∙ length-map (taken_under p x.smbus.kept) seen in
          ap (λ (n : ℕ). n == 0) long
          ∙ ap (λ (ps : List Piece). length ps == 0) (sym (joined-more p x.smbus.kept more))
          ∙ sym (passes x.smbus.eid x.smbus.kept p none).1.started
          ∙ more

      -- its request was begun
      was_begun : hold.part.frame.request < length (on Smbus).bus.begun
      was_begun =
          let sent = (smbus_holds setup names plan start x on h).1.holds.sound.frames hold.which hold.part.frame hold.part.sent in
          let fits : slice_get (on Smbus).bus.begun hold.part.frame.request ≡ Some hold.part.bytes =
          subst (λ (c : Content). Fits (rules_on setup names Smbus) (on Smbus).bus.begun (on Smbus).bus.carried hold.part.frame.request c) hold.part.asks sent.fits in
          slice_get_within (on Smbus).bus.begun hold.part.frame.request hold.part.bytes fits

      -- so what it joins is of its own request
      own_by : IsLiveThere (rules_on setup names Smbus) (on Smbus).bus hold.part.frame → begun_on (own_plans setup names).words Smbus x.manager.machine ≤ x.opened p.envelope.tag + 8
          → (ts : List SentPacket) → waits ≡ ts → (length waits == 0) ≡ false → x.opened p.envelope.tag ≡ f.request
      own_by live recent [] none some = absurd (false≢true (sym some ∙ ap (λ (l : List SentPacket). length l == 0) none))
      own_by live recent (t ∷ ts) there some =
          let m = hold.part.frame.request in
          let is : In t waits = subst (λ (l : List SentPacket). In t l) (sym there) (inl refl) in
          let assembly = (smbus_holds setup names plan start x on h).1.port (m % 8) in
          let named : waits ≡ (on Smbus).port (let n : Name = record { source = names.own_eid; owner = true; tag = m % 8 } in n) =
          ap (λ (k : ℕ). (on Smbus).port (let n : Name = record { source = names.own_eid; owner = true; tag = k % 8 } in n)) (sym (from_zero m)) in
          let at : In t ((on Smbus).port (let n : Name = record { source = names.own_eid; owner = true; tag = m % 8 } in n)) = subst (λ (l : List SentPacket). In t l) named is in
          let each = assembly.each t at in
          let below : t.request < length (on Smbus).bus.begun = slice_get_within (on Smbus).bus.begun t.request each.0 each.1 in
          let tags : (0 + t.request) % 8 ≡ (0 + m) % 8 = assembly.tags t at ∙ ap (λ (k : ℕ). k % 8) (from_zero m) in
          let opened : t.request ≡ x.opened p.envelope.tag = tied.opened m t is ∙ ap x.opened (sym tag_is) in
          let most = most_begun setup names plan start x on tied h Smbus in
          let waited : length (on Smbus).bus.begun ≤ t.request + 8 = omega (arith, recent, opened, most) in
          sym opened ∙ one_tag 0 t.request m (length (on Smbus).bus.begun) below was_begun waited live.0 tags ∙ hold.same_request

      pub joins_own : IsLiveThere (rules_on setup names Smbus) (on Smbus).bus hold.part.frame → JoinsLive (own_plans setup names) x (Part p) → JoinsOwn (own_plans setup names) x f.request (Part p)
      joins_own live recent more none =
          let there : p.envelope.destination ≡ x.smbus.wire = hold.to_port ∙ sym tied.smbus_wire in
          own_by live (recent more there none) waits refl (some_waits more none)

    module _ (f : LabFrame) where
      abbrev Own : Value → Type 0
      Own v = JoinsOwn (own_plans setup names) x f.request v

      abbrev Live : Value → Type 0
      Live v = JoinsLive (own_plans setup names) x v

      own_on : (bus : Bus) → f.on ≡ bus → IsLive (own_plans setup names) x f → IsHeldBy setup names ToPort bus on f → Live f.value → Own f.value
      own_on Ipmb at live hold joins = subst Own (sym hold.value) tt
      own_on Smbus at live hold joins =
          let there = live_there setup names plan start x on tied h f hold.part.frame Smbus at live hold.same_request hold.same_idles in
          subst Own (sym hold.value) (joins_own f hold there (subst Live hold.value joins))

      -- a packet that joins one of its own request, and is live, joins a recent one
      recent_too : begun_on (own_plans setup names).words Smbus x.manager.machine ≤ f.request + 8 → (v : Value) → Own v → Live v
      recent_too recent (Asks r) own = tt
      recent_too recent (Tells r) own = tt
      recent_too recent (Part p) own = λ more there none. let same : x.opened p.envelope.tag ≡ f.request = own more none in omega (arith, recent, same)

      live_on : (bus : Bus) → f.on ≡ bus → IsLive (own_plans setup names) x f → IsHeldBy setup names ToPort bus on f → Own f.value → Live f.value
      live_on Ipmb at live hold joins = subst Live (sym hold.value) tt
      live_on Smbus at live hold joins =
          recent_too (subst (λ (b : Bus). begun_on (own_plans setup names).words b x.manager.machine ≤ f.request + span_of b) at live.recent) f.value joins

    module _ (number : ℕ) (d : IsDelivered (own_plans setup names) ToPort x number) where
      held : IsHeldBy setup names ToPort d.frame.on on d.frame
      held = subst (λ way. IsHeldBy setup names way d.frame.on on d.frame) d.meant (each_at (IsHeld setup names on) x.frames number d.frame tied.frames d.sent)

      abbrev At : (LabFrame → Type 0) → Type 0
      At Q = IfSome (slice_get x.frames number) Q

      at_frame : (Q : LabFrame → Type 0) → At Q → Q d.frame
      at_frame Q there = subst (λ (o : Option LabFrame). IfSome o Q) d.sent there

      from_frame : (Q : LabFrame → Type 0) → Q d.frame → At Q
      from_frame Q here = subst (λ (o : Option LabFrame). IfSome o Q) (sym d.sent) here

      pub is_own : IsJoinLive (own_plans setup names) x (ToBmc number) → IsOwn (own_plans setup names) x (ToBmc number)
      is_own joins = from_frame (λ f. JoinsOwn (own_plans setup names) x f.request f.value) (own_on d.frame d.frame.on refl d.live held (at_frame (λ f. JoinsLive (own_plans setup names) x f.value) joins))

      pub is_live : IsOwn (own_plans setup names) x (ToBmc number) → IsJoinLive (own_plans setup names) x (ToBmc number)
      is_live joins = from_frame (λ f. JoinsLive (own_plans setup names) x f.value) (live_on d.frame d.frame.on refl d.live held (at_frame (λ f. JoinsOwn (own_plans setup names) x f.request f.value) joins))
