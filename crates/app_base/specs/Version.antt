-- The word `version`.
use Rattle.std.specs.Prelude.{◌≡◌, ℕ, List, codes}
use Rattle.clap.specs.Words.{App, new_app}
use Rattle.app_base.specs.declared.console.Stream.TheVariants.{Output}
use Rattle.app_base.specs.declared.status.Status.TheVariants.{Success}
use Rattle.app_base.specs.Ending.{Saying}

-- `version`, which takes no further word
abbrev pub version_app : App
version_app = new_app (codes "version")

-- the line of the version
abbrev pub version_line : List ℕ
version_line = codes "version 0.3.0\n"

-- what a run says that is asked for the version: that line, on standard output
abbrev pub SaysVersion : Saying
SaysVersion stream text status = (stream ≡ Output) × (text ≡ version_line) × (status ≡ Success)
