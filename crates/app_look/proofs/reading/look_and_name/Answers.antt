use Rattle.app_look.proofs.reading.look_and_name.Goals as goal

pub returns-clause-found : goal.returns-clause-found
returns-clause-found g c = (
  c.in_ok-found.field-0.session,
  c.in_ok-found.ensures.found,
  (c.read_names-names.new.session, (c.read_names-names.ensures.tables, c.read_names-names.ensures.names)),
)
