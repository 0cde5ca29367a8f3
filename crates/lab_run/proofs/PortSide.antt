-- What the ports do in a lab, those of the model do.
use Rattle.std.proofs.Common.{◌≡◌, ℕ, cond, List, ◌++◌, map, Option, Some, None, Result, refl, sym, ◌∙◌, ap, subst, ◌&&◌, [], ◌∷◌, take, length}
use Rattle.std.specs.Prelude.{◌==◌, slice_get}
use Rattle.std.specs.List.{All, AllZip}
use Rattle.std.proofs.lemmas.Bool.{cond_both}
use Rattle.std.proofs.lemmas.List.Elements.{All-head, All-tail}
use Rattle.std.proofs.lemmas.Slice.Zip.{AllZip-long}
use Rattle.std.proofs.Math.Seq.{take-length}
use Rattle.two_wire.specs.declared.Bus.{Bus}
use Rattle.two_wire.specs.declared.Bus.TheVariants as bus
use Rattle.mctp_net.specs.declared.packet.Packet.{Packet}
use Rattle.mctp_net.specs.declared.message.Message.{Message}
use Rattle.mctp_net.specs.Assembly.{is_ours}
use Rattle.cfg_records.specs.declared.board_file.BoardFile.{BoardFile}
use Rattle.bmc_board.specs.State.{State, state_of}
use Rattle.ipmb_frame.specs.declared.message.Request.{Request}
use Rattle.bmc_core.specs.Values.{Value, Asks, Tells, Part, written, IsFrameOn, parts_of}
use Rattle.bmc_core.specs.PortSteps.{PortState, StepResult, hears, hears_all}
use Rattle.model_lab.specs.ManagerSteps.{own_on}
use Rattle.model_lab.specs.declared.way.Way.TheVariants.{ToManager, ToOthers}
use Rattle.model_lab.specs.Lab.{LabFrame, Lab as LabModel, port_on, with_port, idles_on, port_does, opens, delivered}
use Rattle.bmc_core.specs.declared.out.Out.{Out}
use Rattle.bmc_core.specs.declared.out.Disposition.{Disposition}
use Rattle.bmc_core.specs.declared.out.Reason.{Reason}
use Rattle.bmc_core.specs.declared.ipmb_port.IpmbPort.{IpmbPort}
use Rattle.bmc_core.specs.declared.smbus_port.SmbusPort.{SmbusPort}
use Rattle.bmc_core.specs.Outs.{sent, ReadBack}
use Rattle.bmc_core.specs.IpmbShown as ipmb
use Rattle.bmc_core.specs.SmbusShown as smbus
use Rattle.undo_core.specs.declared.manager.Manager.{Manager}
use Rattle.undo_core.specs.Shown as manager
use Rattle.lab_run.specs.declared.frames.SentFrame.{SentFrame}
use Rattle.model_lab.specs.Meaning.{lab_names}
use Rattle.model_lab.specs.Played.{plans}
use Rattle.lab_run.specs.declared.lab_state.Idles.{Idles}
use Rattle.lab_run.specs.declared.lab_state.Lab.{Lab}
use Rattle.lab_run.specs.Shown.{Represents, IsSentFrame, idles_in}
use Rattle.lab_run.specs.Hearing.{HasHeard, done_on}
use Rattle.lab_run.proofs.Sent.{beside, none_beside}
use Rattle.lab_run.proofs.Deeds.{Keeps, hears_keeps, heard_as, two_deeds, no_deed, hears_each, one_more_heard, all_heard}

-- values that are read as themselves are read from their frames
pub all_read : (on : Bus) (values : List Value) (frames : List (List ℕ)) → frames ≡ map written values → ReadBack on values → AllZip (IsFrameOn on) values frames
all_read on values frames is all = subst (λ (fs : List (List ℕ)). AllZip (IsFrameOn on) values fs) (sym is) (by values all)
  where
    by : (vs : List Value) → All (λ v. IsFrameOn on v (written v)) vs → AllZip (IsFrameOn on) vs (map written vs)
    by [] read = tt
    by (v ∷ vs) read = (All-head (λ u. IsFrameOn on u (written u)) v vs read, by vs (All-tail (λ u. IsFrameOn on u (written u)) v vs read))

-- all but the board, the ports and what is to be sent is as it was
pub record Stays (old new : Lab) : Type 0 where
  pub setup : new.board.setup ≡ old.board.setup
  pub manager : new.manager ≡ old.manager
  pub names : new.names ≡ old.names
  pub frames : new.frames ≡ old.frames
  pub idles : new.idles ≡ old.idles

module _ (file : BoardFile) (old new : Lab) (x : LabModel plans) (shows : Represents file old x) (stays : Stays old new) where
  manager_still : manager.Represents lab_names new.manager x.manager
  manager_still = subst (λ (m : Manager). manager.Represents lab_names m x.manager) (sym stays.manager) shows.manager

  frames_still : AllZip IsSentFrame new.frames x.frames
  frames_still = subst (λ (fs : List SentFrame). AllZip IsSentFrame fs x.frames) (sym stays.frames) shows.frames

  idles_still : (on : Bus) → idles_on plans on x ≡ idles_in on new.idles
  idles_still on = shows.idles on ∙ ap (λ (n : Idles). idles_in on n) (sym stays.idles)

  -- the port on IPMB did this deed
  pub ipmb_shown : (d : StepResult) → new.smbus ≡ old.smbus → ipmb.Represents new.ipmb d.port → state_of new.board ≡ d.board → Keeps x.ipmb d
      → Represents file new (with_port plans bus.Ipmb d.port (record x { board = d.board }))
  ipmb_shown d other port board keeps = record {
    setup = stays.setup ∙ shows.setup;
    board = sym board;
    ipmb = port;
    smbus = subst (λ (s : SmbusPort). smbus.Represents s x.smbus) (sym other) shows.smbus;
    manager = manager_still;
    named = stays.names ∙ shows.named;
    frames = frames_still;
    idles = idles;
  } where
    idles : (on : Bus) → idles_on plans on (with_port plans bus.Ipmb d.port (record x { board = d.board })) ≡ idles_in on new.idles
    idles bus.Ipmb = keeps.idles (own_on bus.Ipmb x.manager.names) ∙ idles_still bus.Ipmb
    idles bus.Smbus = idles_still bus.Smbus

  -- and the one on SMBus
  pub smbus_shown : (d : StepResult) → new.ipmb ≡ old.ipmb → smbus.Represents new.smbus d.port → state_of new.board ≡ d.board → Keeps x.smbus d
      → Represents file new (with_port plans bus.Smbus d.port (record x { board = d.board }))
  smbus_shown d other port board keeps = record {
    setup = stays.setup ∙ shows.setup;
    board = sym board;
    ipmb = subst (λ (s : IpmbPort). ipmb.Represents s x.ipmb) (sym other) shows.ipmb;
    smbus = port;
    manager = manager_still;
    named = stays.names ∙ shows.named;
    frames = frames_still;
    idles = idles;
  } where
    idles : (on : Bus) → idles_on plans on (with_port plans bus.Smbus d.port (record x { board = d.board })) ≡ idles_in on new.idles
    idles bus.Ipmb = idles_still bus.Ipmb
    idles bus.Smbus = keeps.idles (own_on bus.Smbus x.manager.names) ∙ idles_still bus.Smbus

  -- what the ports heard, they heard at this board
  pub ipmb_here : (bytes : List ℕ) → ipmb.PortStep old.board.setup old.ipmb (state_of old.board) bytes new.out new.ipmb (state_of new.board)
      → ipmb.PortStep file old.ipmb x.board bytes new.out new.ipmb (state_of new.board)
  ipmb_here bytes hearing =
      subst (λ (t : BoardFile × State). ipmb.PortStep t.0 old.ipmb t.1 bytes new.out new.ipmb (state_of new.board)) (λ i. (shows.setup i, sym shows.board i)) hearing

  pub smbus_here : (bytes : List ℕ)
      → ((p : PortState) → smbus.Represents old.smbus p → smbus.HearsBytes old.board.setup p (state_of old.board) bytes new.smbus new.out (state_of new.board))
      → smbus.HearsBytes file x.smbus x.board bytes new.smbus new.out (state_of new.board)
  smbus_here bytes hearing =
      subst (λ (t : BoardFile × State). smbus.HearsBytes t.0 x.smbus t.1 bytes new.smbus new.out (state_of new.board)) (λ i. (shows.setup i, sym shows.board i)) (hearing x.smbus shows.smbus)

  pub ipmb_hears : (bytes : List ℕ) (v : Value) → new.smbus ≡ old.smbus
      → ipmb.PortStep old.board.setup old.ipmb (state_of old.board) bytes new.out new.ipmb (state_of new.board)
      → IsFrameOn bus.Ipmb v bytes → HasHeard file bus.Ipmb x (hears file x.ipmb x.board v) new
  ipmb_hears bytes v other hearing is =
      let told = heard_as file x.ipmb x.board bytes v is in
      let did = subst (λ (d : StepResult). ipmb.IsStepResult d (ipmb.done_of x.ipmb told.heard) new.ipmb (state_of new.board) new.out) told.same (ipmb_here bytes hearing x.ipmb shows.ipmb told.heard told.is) in
      let d = hears file x.ipmb x.board v in
      let written_so : sent new.out ≡ map written d.sent = ap sent did.sent in
      record {
        shows = ipmb_shown d other did.shows did.left (hears_keeps file x.board x.ipmb v);
        out = record { frames = written_so; read = all_read bus.Ipmb d.sent (sent new.out) written_so did.read };
      }

  smbus_did : (v : Value) (what : Disposition) → new.ipmb ≡ old.ipmb → smbus.IsStepResult new.smbus new.out (state_of new.board) (hears file x.smbus x.board v) what
      → HasHeard file bus.Smbus x (hears file x.smbus x.board v) new
  smbus_did v what other did =
      let d = hears file x.smbus x.board v in
      let written_so : sent new.out ≡ map written d.sent = ap sent did.sent in
      record {
        shows = smbus_shown d other did.shows did.left (hears_keeps file x.board x.smbus v);
        out = record { frames = written_so; read = all_read bus.Smbus d.sent (sent new.out) written_so did.read };
      }

  pub smbus_hears : (bytes : List ℕ) (v : Value) → new.ipmb ≡ old.ipmb
      → ((p : PortState) → smbus.Represents old.smbus p → smbus.HearsBytes old.board.setup p (state_of old.board) bytes new.smbus new.out (state_of new.board))
      → IsFrameOn bus.Smbus v bytes → HasHeard file bus.Smbus x (hears file x.smbus x.board v) new
  smbus_hears bytes (Asks r) other hearing is = absurd is
  smbus_hears bytes (Tells r) other hearing is = absurd is
  smbus_hears bytes (Part p) other hearing is = smbus_did (Part p) _ other ((smbus_here bytes hearing).packet p is)

  -- what the port did stands in what is to be sent
  pub ipmb_done : (bytes : List ℕ) (v : Value) → ipmb.PortStep old.board.setup old.ipmb (state_of old.board) bytes new.out new.ipmb (state_of new.board)
      → IsFrameOn bus.Ipmb v bytes → new.out.done ≡ done_on bus.Ipmb x.ipmb v
  ipmb_done bytes v hearing is =
      let told = heard_as file x.ipmb x.board bytes v is in
      let did = hearing x.ipmb shows.ipmb told.heard told.is in
      ap (λ (o : Out). o.done) did.sent ∙ ap (λ (h : Result Request Reason). ipmb.done_of x.ipmb h) told.says

  pub smbus_done : (bytes : List ℕ) (v : Value)
      → ((p : PortState) → smbus.Represents old.smbus p → smbus.HearsBytes old.board.setup p (state_of old.board) bytes new.smbus new.out (state_of new.board))
      → IsFrameOn bus.Smbus v bytes → new.out.done ≡ done_on bus.Smbus x.smbus v
  smbus_done bytes (Asks r) hearing is = absurd is
  smbus_done bytes (Tells r) hearing is = absurd is
  smbus_done bytes (Part p) hearing is = ap (λ (o : Out). o.done) ((hearing x.smbus shows.smbus).packet p is).sent

-- ---- which request a start opened isn't shown

opens_by : (v : Value) (n : ℕ) (x : LabModel plans) (Q : LabModel plans → Type 0) → Q x → ((g : ℕ → ℕ) → Q (record x { opened = g })) → Q (opens plans v n x)
opens_by (Asks r) n x Q same other = same
opens_by (Tells r) n x Q same other = same
opens_by (Part p) n x Q same other =
    cond_both (p.start && is_ours x.smbus.eid p) (record x { opened = λ tag. cond (tag == p.envelope.tag) n (x.opened tag) }) x Q (λ _. other (λ tag. cond (tag == p.envelope.tag) n (x.opened tag))) (λ _. same)

opened_shown : (file : BoardFile) (lab : Lab) (x : LabModel plans) (g : ℕ → ℕ) → Represents file lab x → Represents file lab (record x { opened = g })
opened_shown file lab x g shows = record {
  setup = shows.setup;
  board = shows.board;
  ipmb = shows.ipmb;
  smbus = shows.smbus;
  manager = shows.manager;
  named = shows.named;
  frames = shows.frames;
  idles = idles;
} where
  idles : (on : Bus) → idles_on plans on (record x { opened = g }) ≡ idles_in on lab.idles
  idles bus.Ipmb = shows.idles bus.Ipmb
  idles bus.Smbus = shows.idles bus.Smbus

opened_port : (on : Bus) (x : LabModel plans) (g : ℕ → ℕ) → port_on plans on (record x { opened = g }) ≡ port_on plans on x
opened_port bus.Ipmb x g = refl
opened_port bus.Smbus x g = refl

module _ (file : BoardFile) (old new : Lab) (x : LabModel plans) (shows : Represents file old x) where
  -- the port on this bus heard the value, and what it sends was sent
  abbrev pub Delivers : Bus → (request : ℕ) → Value → Type 0
  Delivers on request v = (y : LabModel plans) → Represents file old y → Represents file new (port_does plans on ToManager request (hears file (port_on plans on y) y.board v) y)

  delivered_by : (on : Bus) (request : ℕ) (v : Value) → Delivers on request v → Represents file new (port_does plans on ToManager request (hears file (port_on plans on x) x.board v) (opens plans v request x))
  delivered_by on request v delivers =
      opens_by v request x (λ y. Represents file new (port_does plans on ToManager request (hears file (port_on plans on x) x.board v) y)) (delivers x shows)
      (λ g. subst (λ (p : PortState). Represents file new (port_does plans on ToManager request (hears file p x.board v) (record x { opened = g }))) (opened_port on x g)
      (delivers (record x { opened = g }) (opened_shown file old x g shows)))

  pub delivered_shown : (number : ℕ) (s : SentFrame) → slice_get old.frames number ≡ Some s
      → ((v : Value) → IsFrameOn s.mark.on v s.bytes → Delivers s.mark.on s.mark.request v) → Represents file new (delivered plans file (slice_get x.frames number) x)
  delivered_shown number s there delivers =
      let at = beside IsSentFrame old.frames x.frames number s shows.frames there in
      let f = at.0 in
      let read : IsFrameOn s.mark.on f.value s.bytes = subst (λ (b : Bus). IsFrameOn b f.value s.bytes) at.2.is.mark.on at.2.read in
      let all : Delivers f.on f.request f.value = subst (λ (t : Bus × ℕ). Delivers t.0 t.1 f.value) (λ i. (sym at.2.is.mark.on i, sym at.2.is.mark.request i)) (delivers f.value read) in
      subst (λ (o : Option LabFrame). Represents file new (delivered plans file o x)) (sym at.1) (delivered_by f.on f.request f.value all)

pub not_delivered : (file : BoardFile) (old : Lab) (x : LabModel plans) (number : ℕ) → Represents file old x → slice_get old.frames number ≡ None
    → Represents file old (delivered plans file (slice_get x.frames number) x)
not_delivered file old x number shows none =
    subst (λ (o : Option LabFrame). Represents file old (delivered plans file o x)) (sym (none_beside IsSentFrame old.frames x.frames number shows.frames none)) shows

-- ---- somebody else's message, packet by packet

-- no packet came yet
pub none_heard : (file : BoardFile) (lab : Lab) (x : LabModel plans) → Represents file lab x → Represents file lab (port_does plans bus.Smbus ToOthers 0 (hears_each file x.smbus x.board []) x)
none_heard file lab x shows = subst (Represents file lab) (sym (no_deed x)) shows

-- one more came
pub next_heard : (file : BoardFile) (new : Lab) (x : LabModel plans) (vs more : List Value) (v : Value) → more ≡ vs ++ v ∷ []
    → (let y = port_does plans bus.Smbus ToOthers 0 (hears_each file x.smbus x.board vs) x in Represents file new (port_does plans bus.Smbus ToOthers 0 (hears file y.smbus y.board v) y))
    → Represents file new (port_does plans bus.Smbus ToOthers 0 (hears_each file x.smbus x.board more) x)
next_heard file new x vs more v is shown =
    let d = hears_each file x.smbus x.board vs in
    let e = hears file d.port d.board v in
    let all : port_does plans bus.Smbus ToOthers 0 (hears_each file x.smbus x.board more) x ≡ port_does plans bus.Smbus ToOthers 0 e (port_does plans bus.Smbus ToOthers 0 d x) =
    ap (λ (values : List Value). port_does plans bus.Smbus ToOthers 0 (hears_each file x.smbus x.board values) x) is
    ∙ ap (λ (t : StepResult). port_does plans bus.Smbus ToOthers 0 t x) (one_more_heard file x.smbus x.board vs v)
    ∙ two_deeds x d e (hears_keeps file d.board d.port v).idles in
    subst (Represents file new) (sym all) shown

-- all came
pub message_heard : (file : BoardFile) (new : Lab) (x : LabModel plans) (m : Message) (frames : List (List ℕ)) (n : ℕ)
    → AllZip (IsFrameOn bus.Smbus) (map (λ p. Part p) (parts_of m)) frames → n ≡ length frames
    → Represents file new (port_does plans bus.Smbus ToOthers 0 (hears_each file x.smbus x.board (take n (map (λ p. Part p) (parts_of m)))) x)
    → Represents file new (port_does plans bus.Smbus ToOthers 0 (hears_all file x.smbus x.board m) x)
message_heard file new x m frames n read is shown =
    let values = map (λ (p : Packet). Part p) (parts_of m) in
    let whole : take n values ≡ values = ap (λ (k : ℕ). take k values) (is ∙ AllZip-long (IsFrameOn bus.Smbus) values frames read) ∙ take-length values in
    subst (λ (d : StepResult). Represents file new (port_does plans bus.Smbus ToOthers 0 d x)) (ap (hears_each file x.smbus x.board) whole ∙ all_heard file m x.smbus x.board) shown

-- ---- what the port did with a frame of a number

-- of a frame that was sent it did what is said of its value
pub done_shown : (file : BoardFile) (old : Lab) (x : LabModel plans) (number : ℕ) (s : SentFrame) (f : LabFrame) (what : Disposition) → Represents file old x → slice_get old.frames number ≡ Some s
    → slice_get x.frames number ≡ Some f → ((v : Value) → IsFrameOn s.mark.on v s.bytes → what ≡ done_on s.mark.on (port_on plans s.mark.on x) v) → what ≡ done_on f.on (port_on plans f.on x) f.value
done_shown file old x number s f what shows there is did =
    let at = beside IsSentFrame old.frames x.frames number s shows.frames there in
    let same : at.0 ≡ f = cc (sym at.1 ∙ is) in
    let sent : IsSentFrame s f = subst (IsSentFrame s) same at.2 in
    let read : IsFrameOn s.mark.on f.value s.bytes = subst (λ (b : Bus). IsFrameOn b f.value s.bytes) sent.is.mark.on sent.read in
    subst (λ (b : Bus). what ≡ done_on b (port_on plans b x) f.value) (sym sent.is.mark.on) (did f.value read)

-- there is none that wasn't sent
pub none_done : (file : BoardFile) (old : Lab) (x : LabModel plans) (number : ℕ) (f : LabFrame) (P : Type 0) → Represents file old x → slice_get old.frames number ≡ None
    → slice_get x.frames number ≡ Some f → P
none_done file old x number f P shows none is = cc (sym (none_beside IsSentFrame old.frames x.frames number shows.frames none) ∙ is)
