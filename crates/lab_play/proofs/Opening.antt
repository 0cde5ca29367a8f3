-- Which request's start came last under each tag, after an event.
use Rattle.std.proofs.Common.{◌≡◌, ◌==◌, ℕ, zero, suc, Bool, true, false, ◌&&◌, cond, List, [], ◌∷◌, Option, Some, None, refl, sym, ◌∙◌, ap, subst}
use Rattle.std.specs.Prelude.{slice_get, slice_index, slice_set}
use Rattle.std.proofs.lemmas.Bool.{false≢true, eqb-true, eq-eqb}
use Rattle.std.proofs.lemmas.Option.{same_Some, none-some}
use Rattle.two_wire.specs.declared.Bus.{Bus}
use Rattle.two_wire.specs.declared.Bus.TheVariants.{Ipmb, Smbus}
use Rattle.mctp_net.specs.Assembly.{is_ours}
use Rattle.cfg_records.specs.declared.board_file.BoardFile.{BoardFile}
use Rattle.bmc_core.specs.Values.{Value, Asks, Tells, Part}
use Rattle.bmc_core.specs.PortSteps.{PortState, hears, idles}
use Rattle.model_lab.specs.ManagerSteps.{ManagerStepResult, Sent, called, manager_hears}
use Rattle.model_lab.specs.Lab.{LabFrame, Lab as LabModel, sends, call_does, with_port, port_on, opens, delivered, returned, step}
use Rattle.model_lab.specs.Played.{plans, happens}
use Rattle.text_lines.specs.declared.event.Event.{Event}
use Rattle.text_lines.specs.declared.event.Event.TheVariants as event
use Rattle.lab_run.specs.declared.part.ManagerPart.{ManagerPart}
use Rattle.lab_run.specs.Parts.{part_of, part_in, part_at}

-- under each tag the request that was opened, once a packet came, if one did
abbrev pub opened_by : Option ManagerPart → (ℕ → ℕ) → ℕ → ℕ
opened_by None opened tag = opened tag
opened_by (Some part) opened tag = cond (part.start && part.ours && (tag == part.tag)) part.request (opened tag)

sends_same : (o : Option Sent) (x : LabModel plans) → (sends plans o x).opened ≡ x.opened
sends_same None x = refl
sends_same (Some s) x = refl

call_same : (d : Option (ManagerStepResult plans)) (x : LabModel plans) → (call_does plans d x).opened ≡ x.opened
call_same None x = refl
call_same (Some d) x = sends_same d.sent (record x { manager = d.manager })

port_same : (on : Bus) (port : PortState) (x : LabModel plans) → (with_port plans on port x).opened ≡ x.opened
port_same Ipmb port x = refl
port_same Smbus port x = refl

opens_by : (v : Value) (request : ℕ) (x : LabModel plans) (tag : ℕ) → (opens plans v request x).opened tag ≡ opened_by (part_of x request v) x.opened tag
opens_by (Asks r) request x tag = refl
opens_by (Tells r) request x tag = refl
opens_by (Part p) request x tag = by (p.start && is_ours x.smbus.eid p)
  where
    by : (t : Bool) → (let y : LabModel plans = cond t (record x { opened = λ k. cond (k == p.envelope.tag) request (x.opened k) }) x in y).opened tag
        ≡ cond (t && (tag == p.envelope.tag)) request (x.opened tag)
    by true = refl
    by false = refl

module _ (file : BoardFile) where
  delivered_by : (o : Option LabFrame) (x : LabModel plans) (tag : ℕ) → (delivered plans file o x).opened tag ≡ opened_by (part_in x o) x.opened tag
  delivered_by None x tag = refl
  delivered_by (Some f) x tag =
      let d = hears file (port_on plans f.on x) x.board f.value in
      ap (λ (o : ℕ → ℕ). o tag) (port_same f.on d.port (record (opens plans f.value f.request x) { board = d.board })) ∙ opens_by f.value f.request x tag

  returned_same : (o : Option LabFrame) (x : LabModel plans) → (returned plans file o x).opened ≡ x.opened
  returned_same None x = refl
  returned_same (Some f) x = let d = manager_hears plans f.value x.manager in sends_same d.sent (record x { manager = d.manager })

  pub happens_by : (e : Event) (x : LabModel plans) (tag : ℕ) → (happens file e x).opened tag ≡ opened_by (part_at x e) x.opened tag
  unfolding step
  happens_by (event.Calls call) x tag = ap (λ (o : ℕ → ℕ). o tag) (call_same (called plans _ x.manager) x)
  happens_by (event.ToBmc number) x tag = delivered_by (slice_get x.frames number) x tag
  happens_by (event.ToMgr number) x tag = ap (λ (o : ℕ → ℕ). o tag) (returned_same (slice_get x.frames number) x)
  happens_by (event.Idle on requester) x tag = ap (λ (o : ℕ → ℕ). o tag) (port_same on (idles requester (port_on plans on x)) x)
  happens_by _ x tag = refl

-- ---- a table

set_here : (xs : List ℕ) (i v old : ℕ) → slice_get xs i ≡ Some old → slice_get (slice_set xs i v) i ≡ Some v
set_here [] i v old at = absurd (none-some old at)
set_here (x ∷ xs) zero v old at = refl
set_here (x ∷ xs) (suc i) v old at = set_here xs i v old at

set_beside : (xs : List ℕ) (i j v : ℕ) → (j ≡ i → ⊥) → slice_get (slice_set xs i v) j ≡ slice_get xs j
set_beside [] i j v other = refl
set_beside (x ∷ xs) zero zero v other = absurd (other refl)
set_beside (x ∷ xs) (suc i) zero v other = refl
set_beside (x ∷ xs) zero (suc j) v other = refl
set_beside (x ∷ xs) (suc i) (suc j) v other = set_beside xs i j v (λ same. other (ap suc same))

-- an entry of a table, once one was set
pub set_one : (xs : List ℕ) (i j v old : ℕ) → slice_get xs j ≡ Some old → slice_get (slice_set xs i v) j ≡ Some (cond (j == i) v old)
set_one xs i j v old at = by (j == i) refl
  where
    by : (t : Bool) → (j == i) ≡ t → slice_get (slice_set xs i v) j ≡ Some (cond t v old)
    by true is =
        let same : j ≡ i = eqb-true j i is in
        subst (λ (k : ℕ). slice_get (slice_set xs k v) j ≡ Some v) same (set_here xs j v old at)
    by false is = set_beside xs i j v (λ same. false≢true (sym is ∙ eq-eqb j i same)) ∙ at

pub index_at : (xs : List ℕ) (i v : ℕ) → slice_get xs i ≡ Some v → slice_index xs i ≡ v
index_at [] i v at = absurd (none-some v at)
index_at (x ∷ xs) zero v at = same_Some x v at
index_at (x ∷ xs) (suc i) v at = index_at xs i v at
