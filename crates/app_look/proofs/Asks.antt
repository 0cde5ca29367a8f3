-- Requests for parts of tables, one after another.
use Rattle.std.specs.Prelude.{List, [], ◌∷◌, ◌++◌}
use Rattle.std.proofs.Common.{refl, subst}
use Rattle.undo_look.specs.declared.target.TablePart.{TablePart}
use Rattle.app_look.specs.declared.session.Session.{Session}
use Rattle.app_look.specs.Asking.{AsksPart, AsksParts, AsksTables}

-- one part was
pub asks_one : (part : TablePart) (old new : Session) → AsksPart part old new → AsksTables old new
asks_one part old new (end, asks) = record { parts = part ∷ []; each = (new, end, asks, refl) }

each_both : (first later : List TablePart) (a b c : Session) → AsksParts first a b → AsksParts later b c → AsksParts (first ++ later) a c
each_both [] later a b c same rest = subst (λ (s : Session). AsksParts later s c) same rest
each_both (part ∷ first) later a b c (mid, end, asks, more) rest = (mid, end, asks, each_both first later mid b c more rest)

-- parts, and then others
pub asks_both : (a b c : Session) → AsksTables a b → AsksTables b c → AsksTables a c
asks_both a b c first later = record { parts = first.parts ++ later.parts; each = each_both first.parts later.parts a b c first.each later.each }
