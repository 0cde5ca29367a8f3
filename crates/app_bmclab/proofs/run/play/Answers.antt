use Rattle.std.proofs.Common.{ℕ, List, [], ◌∷◌, string_bytes, subst}
use Rattle.app_base.specs.Ending.{RunEnds}
use Rattle.app_play.specs.Strict.{PrintsAskedOfFiles}
use Rattle.app_bmclab.proofs.run.play.Goals as goal

pub returns : goal.returns
returns g c =
    let shown = c.args.words.now.shown in
    subst (λ (places : List ℕ). RunEnds g.W.Write.contents g.E.Write.contents (PrintsAskedOfFiles (g.F.TextFiles.gives c.args.files.now) c.args.words.now.options shown places (string_bytes c.args.words.now.board ∷ string_bytes c.args.words.now.plan ∷ string_bytes c.args.words.now.schedule ∷ [])) c.args.console.now c.explained_play_of_files.new.console c.explained_play_of_files.result)
    c.as_slice-restarts.ensures.value
    (subst (λ (words : List (List ℕ)). RunEnds g.W.Write.contents g.E.Write.contents (PrintsAskedOfFiles (g.F.TextFiles.gives c.args.files.now) c.args.words.now.options shown c.as_slice-restarts.result.now words) c.args.console.now c.explained_play_of_files.new.console c.explained_play_of_files.result)
    (λ i. c.as_str.ensures.value i ∷ c.as_str-2.ensures.value i ∷ c.as_str-3.ensures.value i ∷ [])
    c.explained_play_of_files.ensures)
