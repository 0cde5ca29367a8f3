use Rattle.std.proofs.Common.{ℕ, List, ◌++◌, Bool, sym, ◌∙◌, ap}
use Rattle.std.specs.List.{flat_map}
use Rattle.std.specs.String.{string_bytes}
use Rattle.std.proofs.lemmas.List.{append-nil}
use Rattle.text_lines.specs.Cuts.{ended}
use Rattle.app_play.specs.Lines.{shown, start_lines}
use Rattle.app_play.proofs.Told.{listed_so}
use Rattle.app_play.proofs.account.Account.listed_text.Goals as goal
use Rattle.app_play.proofs.account.Account.listed_text.Goals.{then-frames+in_ok-push_frames, else-frames}

pub returns : goal.returns
returns c lines is =
    let told = c.args.self.now in
    let start = string_bytes c.push_start.new.text in
    let listed = string_bytes c.push_str.new.self in
    listed_so told c.args.frames c.args.premises lines start listed (string_bytes c.if-frames.text) (string_bytes c.push_end.new.text)
    (c.in_ok-push_start.ensures ∙ ap (λ bytes. bytes ++ flat_map ended (start_lines told)) c.new-text.ensures.bytes)
    (c.in_ok-push_str.ensures.bytes ∙ ap (λ (l : List ℕ). start ++ l) is)
    (elim c.if-frames.branch [
      | then-frames+in_ok-push_frames w ↦ ap string_bytes w.text-is ∙ w.in_ok-push_frames.ensures ∙ ap (λ (b : Bool). listed ++ flat_map ended (shown b told.frames.now)) (sym w.if-frames.true)
      | else-frames w ↦ ap string_bytes w.text-is ∙ sym (append-nil listed) ∙ ap (λ (b : Bool). listed ++ flat_map ended (shown b told.frames.now)) (sym w.if-frames.false)
    ])
    c.in_ok-push_end.ensures
