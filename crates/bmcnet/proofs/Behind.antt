-- What is asked for behind a subcommand.
use Rattle.std.proofs.Common.{◌≡◌, List, Option, Some, true, false, subst, codes, refl}
use Rattle.clap.specs.Words.{Row, Text, subcommand_name_of, subcommand_rows_of}
use Rattle.clap.specs.declared.parser.matches.ArgMatches.{ArgMatches}
use Rattle.app_base.proofs.Readings.{alike, apart, unnamed}
use Rattle.app_serve.specs.declared.run.ServeWords.{ServeWords}
use Rattle.app_run.specs.declared.running.RunWords.{RunWords}
use Rattle.app_run.specs.declared.undoing.UndoWords.{UndoWords}
use Rattle.app_change.specs.declared.changing.ChangeWords.{ChangeWords}
use Rattle.app_change.specs.declared.taking_back.BackWords.{BackWords}
use Rattle.app_show.specs.declared.showing.ShowWords.{ShowWords}
use Rattle.app_pair.specs.declared.pairing.PairWords.{PairWords}
use Rattle.app_change.specs.declared.previewing.PreviewWords.{PreviewWords}
use Rattle.bmcnet.specs.declared.words.Words.{Words}
use Rattle.bmcnet.specs.declared.words.Words.TheVariants.{Serve, Run, Undo, Pair, Apply, Revert, Preview, Show, Version}
use Rattle.bmcnet.specs.Asked.{AsksBy, AsksServe, AsksRun, AsksUndo, AsksPair, AsksChange, AsksBack, AsksPreview, AsksShow}

-- what asks for anything behind `serve` asks for a serving
pub serve_behind : (met : Option (Text × List Row)) (rows : List Row) → met ≡ Some (codes "serve", rows) → (asked : Words) → AsksBy met asked
    → (words : ServeWords) × AsksServe rows words
serve_behind met rows is (Serve words) asks = (words, subst (λ (r : List Row). AsksServe r words) (alike met (codes "serve") asks.0 rows asks.1 is) asks.2)
serve_behind met rows is _ asks = absurd (apart met (codes "serve") _ rows asks.0 refl is asks.1)

-- what asks for anything behind `run` asks for a run
pub run_behind : (met : Option (Text × List Row)) (rows : List Row) → met ≡ Some (codes "run", rows) → (asked : Words) → AsksBy met asked
    → (words : RunWords) × AsksRun rows words
run_behind met rows is (Run words) asks = (words, subst (λ (r : List Row). AsksRun r words) (alike met (codes "run") asks.0 rows asks.1 is) asks.2)
run_behind met rows is _ asks = absurd (apart met (codes "run") _ rows asks.0 refl is asks.1)

-- what asks for anything behind `undo` asks for an undo
pub undo_behind : (met : Option (Text × List Row)) (rows : List Row) → met ≡ Some (codes "undo", rows) → (asked : Words) → AsksBy met asked
    → (words : UndoWords) × AsksUndo rows words
undo_behind met rows is (Undo words) asks = (words, subst (λ (r : List Row). AsksUndo r words) (alike met (codes "undo") asks.0 rows asks.1 is) asks.2)
undo_behind met rows is _ asks = absurd (apart met (codes "undo") _ rows asks.0 refl is asks.1)

-- what asks for anything behind `pair` asks for a pair
pub pair_behind : (met : Option (Text × List Row)) (rows : List Row) → met ≡ Some (codes "pair", rows) → (asked : Words) → AsksBy met asked
    → (words : PairWords) × AsksPair rows words
pair_behind met rows is (Pair words) asks = (words, subst (λ (r : List Row). AsksPair r words) (alike met (codes "pair") asks.0 rows asks.1 is) asks.2)
pair_behind met rows is _ asks = absurd (apart met (codes "pair") _ rows asks.0 refl is asks.1)

-- what asks for anything behind `apply` asks for a plan to be applied
pub apply_behind : (met : Option (Text × List Row)) (rows : List Row) → met ≡ Some (codes "apply", rows) → (asked : Words) → AsksBy met asked
    → (words : ChangeWords) × AsksChange rows words
apply_behind met rows is (Apply words) asks = (words, subst (λ (r : List Row). AsksChange r words) (alike met (codes "apply") asks.0 rows asks.1 is) asks.2)
apply_behind met rows is _ asks = absurd (apart met (codes "apply") _ rows asks.0 refl is asks.1)

-- what asks for anything behind `revert` asks for a plan to be taken back
pub revert_behind : (met : Option (Text × List Row)) (rows : List Row) → met ≡ Some (codes "revert", rows) → (asked : Words) → AsksBy met asked
    → (words : BackWords) × AsksBack rows words
revert_behind met rows is (Revert words) asks = (words, subst (λ (r : List Row). AsksBack r words) (alike met (codes "revert") asks.0 rows asks.1 is) asks.2)
revert_behind met rows is _ asks = absurd (apart met (codes "revert") _ rows asks.0 refl is asks.1)

-- what asks for anything behind `preview` asks for a plan to be previewed
pub preview_behind : (met : Option (Text × List Row)) (rows : List Row) → met ≡ Some (codes "preview", rows) → (asked : Words) → AsksBy met asked
    → (words : PreviewWords) × AsksPreview rows words
preview_behind met rows is (Preview words) asks = (words, subst (λ (r : List Row). AsksPreview r words) (alike met (codes "preview") asks.0 rows asks.1 is) asks.2)
preview_behind met rows is _ asks = absurd (apart met (codes "preview") _ rows asks.0 refl is asks.1)

-- what asks for anything behind `show` asks for records to be shown
pub show_behind : (met : Option (Text × List Row)) (rows : List Row) → met ≡ Some (codes "show", rows) → (asked : Words) → AsksBy met asked
    → (words : ShowWords) × AsksShow rows words
show_behind met rows is (Show words) asks = (words, subst (λ (r : List Row). AsksShow r words) (alike met (codes "show") asks.0 rows asks.1 is) asks.2)
show_behind met rows is _ asks = absurd (apart met (codes "show") _ rows asks.0 refl is asks.1)

-- where none of the subcommands was met, nothing is asked for
pub none_behind : (m : ArgMatches) → (subcommand_name_of m ≡ Some (codes "serve") → false ≡ true) → (subcommand_name_of m ≡ Some (codes "run") → false ≡ true)
    → (subcommand_name_of m ≡ Some (codes "undo") → false ≡ true) → (subcommand_name_of m ≡ Some (codes "pair") → false ≡ true)
    → (subcommand_name_of m ≡ Some (codes "apply") → false ≡ true) → (subcommand_name_of m ≡ Some (codes "revert") → false ≡ true)
    → (subcommand_name_of m ≡ Some (codes "preview") → false ≡ true) → (subcommand_name_of m ≡ Some (codes "show") → false ≡ true)
    → (subcommand_name_of m ≡ Some (codes "version") → false ≡ true) → (asked : Words) → AsksBy (subcommand_rows_of m) asked → ⊥
none_behind m serve run undo pair apply revert preview show version (Serve words) asks = unnamed m (codes "serve") serve asks.0 asks.1
none_behind m serve run undo pair apply revert preview show version (Run words) asks = unnamed m (codes "run") run asks.0 asks.1
none_behind m serve run undo pair apply revert preview show version (Undo words) asks = unnamed m (codes "undo") undo asks.0 asks.1
none_behind m serve run undo pair apply revert preview show version (Pair words) asks = unnamed m (codes "pair") pair asks.0 asks.1
none_behind m serve run undo pair apply revert preview show version (Apply words) asks = unnamed m (codes "apply") apply asks.0 asks.1
none_behind m serve run undo pair apply revert preview show version (Revert words) asks = unnamed m (codes "revert") revert asks.0 asks.1
none_behind m serve run undo pair apply revert preview show version (Preview words) asks = unnamed m (codes "preview") preview asks.0 asks.1
none_behind m serve run undo pair apply revert preview show version (Show words) asks = unnamed m (codes "show") show asks.0 asks.1
none_behind m serve run undo pair apply revert preview show version Version asks = unnamed m (codes "version") version asks.0 asks.1
