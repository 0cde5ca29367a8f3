use Rattle.std.proofs.Common.{◌≡◌, length, map, true, List, sym, ap, subst, ◌∙◌, arith}
use Rattle.std.specs.Prelude.{IfErr}
use Rattle.std.proofs.lemmas.List.{length-map}
use Rattle.toml.specs.View.{view, table_view}
use Rattle.text_fields.specs.declared.field.Field.TheVariants as field
use Rattle.text_fields.specs.Trees.{members_in}
use Rattle.text_board.specs.declared.fault.FileFault.{FileFault}
use Rattle.text_board.specs.Faults.{channel_faults, users_in, IsFirstFault}
use Rattle.text_fields.specs.Users.{are_names}
use Rattle.text_board.proofs.UserNames.{names_are}
use Rattle.text_board.proofs.channel_items.file_channels.Goals as goal

pub channels_in-requires-clause-few : goal.channels_in-requires-clause-few
channels_in-requires-clause-few c =
    let are : are_names (map view c.members_of-users.result.now) ≡ true = rw (c.requires, ← c.members_of-users.ensures) at c.value.ensures.within in
    let few = (names_are (map view c.members_of-users.result.now) are).0 in
    let long = length-map c.members_of-users.result.now view in
    omega (arith, long, few)

pub returns-clause-err : goal.returns-clause-err
returns-clause-err c =
    let tree = table_view c.args.top.now.table.now in
    let ds = map view c.tables.result.now in
    let users : length c.members_of-users.result.now ≡ users_in tree =
    sym (length-map c.members_of-users.result.now view) ∙ ap length (c.members_of-users.ensures ∙ sym c.value.ensures.listed) in
    let same : channel_faults (length c.members_of-users.result.now) ds ≡ channel_faults (users_in tree) (members_in field.Channel tree) =
    ap (λ n. channel_faults n ds) users ∙ ap (channel_faults (users_in tree)) c.tables.ensures.held in
    subst (λ (faults : List FileFault). IfErr c.channels_in.result (IsFirstFault faults)) same c.channels_in.ensures.err
