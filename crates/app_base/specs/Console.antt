-- Standard output and standard error.
use Rattle.std.specs.Prelude.{◌≡◌, ℕ, Bool, List, Option, Result, Ok, Err, IsTrue}
use Rattle.std.specs.Io.KnownBytes.{Appends, Keeps}
use Rattle.app_base.specs.declared.console.Console.{Console}
use Rattle.app_base.specs.declared.console.Stream.{Stream}
use Rattle.app_base.specs.declared.console.Stream.TheVariants.{Output, Error}

-- a write failed
abbrev pub HasFailed : {Stdout Stderr : Type 0} → Console Stdout Stderr → Type 0
HasFailed console = IsTrue console.failed

-- the stream grows by the text, and the other one stays as it was
abbrev pub IsWrittenTo : Stream → List ℕ → (out_old out_new err_old err_new : Option (List ℕ)) → Type 0
IsWrittenTo Output text out_old out_new err_old err_new = Appends out_old out_new text × Keeps err_old err_new
IsWrittenTo Error text out_old out_new err_old err_new = Keeps out_old out_new × Appends err_old err_new text

-- once a write gave this, the console has failed if that is a failure, and else where it had failed before
abbrev pub NotesFailure : {A Failure : Type 0} → (old : Bool) → Result A Failure → (new : Bool) → Type 0
NotesFailure old (Ok done) new = new ≡ old
NotesFailure old (Err why) new = IsTrue new
