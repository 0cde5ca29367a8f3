use Rattle.std.proofs.Common.{◌≡◌, Err, length, inl, inr, sym, ◌∙◌, ap}
use Rattle.std.proofs.lemmas.Result.{err_from_is_err_and}
use Rattle.std.proofs.lemmas.Slice.Zip.{AllZip-long}
use Rattle.toml.specs.View.{table_view}
use Rattle.text_fields.specs.declared.field.Field.TheVariants as field
use Rattle.text_fields.specs.Trees.{members_in}
use Rattle.text_board.specs.Faults.{channel_faults, users_in}
use Rattle.text_board.specs.Holds.{IsNameIn}
use Rattle.text_board.proofs.BoardChannels.{each_held}
use Rattle.text_board.proofs.ListedChannels.{numbers_known, lans_listed}
use Rattle.text_board.proofs.FileFaults.{own_first, ipmi_first, pldm_first, no_channel_faults, no_lan_faults, no_faults}
use Rattle.text_board.proofs.board.board_in.Goals as goal

pub returns-in_err-own : goal.returns-in_err-own
returns-in_err-own c =
    let p = err_from_is_err_and c.from_residual.result c.from_residual.ensures.1 in
    rw (p.1, p.2) (elim c.in_err-own.ensures.err [
      | inl memory ↦ inl (ap Err memory)
      | inr counts ↦ inr (own_first (table_view c.args.top.now.table.now) c.in_err-own.field-0.0 c.requires.sound counts)
    ])

pub returns-in_err-ipmi : goal.returns-in_err-ipmi
returns-in_err-ipmi c =
    let p = err_from_is_err_and c.from_residual-in_err-ipmi.result c.from_residual-in_err-ipmi.ensures.1 in
    rw (p.1, p.2) (elim c.in_err-ipmi.ensures.err [
      | inl memory ↦ inl (ap Err memory)
      | inr counts ↦ inr (ipmi_first (table_view c.args.top.now.table.now) c.in_err-ipmi.field-0.0 c.requires.sound c.in_ok-own.ensures.sound counts)
    ])

pub returns-in_err-pldm : goal.returns-in_err-pldm
returns-in_err-pldm c =
    let p = err_from_is_err_and c.from_residual-in_err-pldm.result c.from_residual-in_err-pldm.ensures.1 in
    rw (p.1, p.2) (elim c.in_err-pldm.ensures.err [
      | inl memory ↦ inl (ap Err memory)
      | inr counts ↦ inr (pldm_first (table_view c.args.top.now.table.now) c.in_err-pldm.field-0.0 c.requires.sound c.in_ok-own.ensures.sound c.in_ok-ipmi.ensures.sound counts)
    ])

pub invariant_of-result : goal.invariant_of-result
invariant_of-result c =
    let tree = table_view c.args.top.now.table.now in
    let users = c.in_ok-own.own.users.items in
    let channels = c.in_ok-ipmi.ipmi.channels in
    let held = c.in_ok-ipmi.ensures.held.channels in
    let long : users_in tree ≡ length users = sym (AllZip-long IsNameIn (members_in field.Users tree) users c.in_ok-own.ensures.held.users) in
    let sound = ap (λ n. channel_faults n (members_in field.Channel tree)) (sym long) ∙ no_channel_faults tree c.in_ok-ipmi.ensures.sound in
    record {
      apart = channels.apart;
      few = channels.few;
      known = numbers_known (members_in field.Channel tree) channels.channels.items channels.sessionless.items held.with held.without (length users) sound;
      listed = lans_listed tree channels.channels.items channels.sessionless.items c.in_ok-ipmi.ipmi.lans.items (no_lan_faults tree c.in_ok-ipmi.ensures.sound) held.with held.without c.in_ok-ipmi.ensures.held.lans;
      each = each_held (members_in field.Channel tree) channels.channels.items users channels.accesses.items sound held.with held.rights c.in_ok-own.own.users.valid.numbered;
    }

pub returns : goal.returns
returns c =
    let own = c.in_ok-own.ensures.held in
    let ipmi = c.in_ok-ipmi.ensures.held in
    let pldm = c.in_ok-pldm.ensures.held in
    inr (
      no_faults (table_view c.args.top.now.table.now) c.requires.sound c.in_ok-own.ensures.sound c.in_ok-ipmi.ensures.sound c.in_ok-pldm.ensures.sound,
      record {
        terminus = own.terminus;
        clock = own.clock;
        log = own.log;
        enables = own.enables;
        sdr = own.sdr;
        boot = own.boot;
        policy = own.policy;
        watchdog = own.watchdog;
        device = own.device;
        sensors = ipmi.sensors;
        states = pldm.states;
        effecters = pldm.effecters;
        users = own.users;
        channels = ipmi.channels;
        attributes = pldm.attributes;
        lans = ipmi.lans;
      },
    )
