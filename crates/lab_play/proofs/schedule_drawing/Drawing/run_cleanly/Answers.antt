use Rattle.std.proofs.Common.{Bool, sym, subst}
use Rattle.lab_play.specs.declared.schedule_making.Links.TheVariants as links
use Rattle.lab_play.specs.Made.{IsMade}
use Rattle.lab_play.proofs.Carried.{started_made, undone_made}
use Rattle.lab_play.proofs.schedule_drawing.Drawing.run_cleanly.Goals as goal

pub returns-in_ok-carry_out-2 : goal.returns-in_ok-carry_out-2
returns-in_ok-carry_out-2 c file steps retries few drawn =
    subst (λ (u : Bool). IsMade file steps retries (record { links = links.Clean; undo = u }) c.carry_out-then-undo.new.self.events.items) (sym c.if-undo.true)
    (undone_made file steps retries c.args.self.now c.carry_out.new.self c.carry_out-then-undo.new.self c.requires.empty c.requires.late few drawn
    c.in_ok-carry_out.ensures.carries c.in_ok-carry_out-2.ensures.carries)

pub returns-else-undo : goal.returns-else-undo
returns-else-undo c file steps retries few drawn =
    subst (λ (u : Bool). IsMade file steps retries (record { links = links.Clean; undo = u }) c.carry_out.new.self.events.items) (sym c.if-undo.false)
    (started_made file steps retries c.args.self.now c.carry_out.new.self c.requires.empty c.requires.late few drawn c.in_ok-carry_out.ensures.carries)
