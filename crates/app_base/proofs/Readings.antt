-- What is read off the words that clap matched.
use Rattle.std.proofs.Common.{◌≡◌, ◌∙◌, List, true, false, Option, Some, None, Result, Ok, Err, IfErr, sym, ap, subst, option_map}
use Rattle.std.specs.Result.{IsErrAnd}
use Rattle.std.specs.Prelude.{Box}
use Rattle.std.specs.Str.{bytes_eq}
use Rattle.std.proofs.lemmas.Slice.Eq.{bytes_eq-Decides}
use Rattle.std.proofs.lemmas.Bool.{false≢true}
use Rattle.std.specs.Box.{box_value}
use Rattle.clap.specs.Words.{Row, Text, subcommand_name_of, subcommand_rows, subcommand_rows_of}
use Rattle.clap.specs.declared.parser.matches.ArgMatches.{ArgMatches}
use Rattle.clap.specs.declared.parser.matches.ArgMatches.TheViews.{out-ArgMatches, out-SubCommand}
use Rattle.clap.specs.declared.parser.matches.SubCommand.{SubCommand}
use Rattle.app_base.specs.declared.refusal.Refusal.{Refusal}
use Rattle.app_base.specs.declared.refusal.Refusal.TheVariants.{Memory as Lacking, Words as Refused}
use Rattle.app_base.specs.Asked.{RefusesWords}

-- who asks for nothing of one kind asks for nothing of another, if each of that other has one of the first
pub refuses_more : {A B : Type 0} (P : A → Type 0) (Q : B → Type 0) (refusal : Refusal) → ((b : B) → Q b → (a : A) × P a) → RefusesWords P refusal → RefusesWords Q refusal
refuses_more P Q Lacking has refused = tt
refuses_more P Q (Refused why) has refused = λ asked asks. let one = has asked asks in refused one.0 one.1

-- so it is where the refusal goes on by a `?`
pub refuses_on : {A B X : Type 0} (P : A → Type 0) (Q : B → Type 0) (refusal : Refusal) (result : Result X Refusal) → IsErrAnd result (λ (on : Refusal). on ≡ refusal)
    → ((b : B) → Q b → (a : A) × P a) → RefusesWords P refusal → IfErr result (RefusesWords Q)
refuses_on P Q refusal (Ok x) goes has refused = absurd goes
refuses_on P Q refusal (Err on) goes has refused = refuses_more P Q on has (subst (λ (r : Refusal). RefusesWords P r) (sym goes) refused)

-- who asks for nothing at all is refused rightly
pub refuses_none : {A : Type 0} (P : A → Type 0) (refusal : Refusal) → ((a : A) → P a → ⊥) → RefusesWords P refusal
refuses_none P Lacking none = tt
refuses_none P (Refused why) none = none

-- where memory is the only cause, a refusal says so
pub refuses_unless : {A : Type 0} (P : A → Type 0) (refusal : Refusal) → ((a : A) → P a → refusal ≡ Lacking) → RefusesWords P refusal
refuses_unless P Lacking only = tt
refuses_unless P (Refused why) only = λ asked asks.
    let bad : Refused why ≡ Lacking = only asked asks in
    cc

-- the subcommand that was met has this name and these rows
pub met : (m : ArgMatches) (name : Text) (rows : List Row) → subcommand_name_of m ≡ Some name → option_map (λ p. p.1) (subcommand_rows_of m) ≡ Some rows
    → subcommand_rows_of m ≡ Some (name, rows)
met m name rows = go (out-ArgMatches m).subcommand
  where
    go : {Z : Type 0} (o : Option (Box SubCommand Z)) → option_map (λ b. (out-SubCommand (box_value b)).name.now) o ≡ Some name
        → option_map (λ p. p.1) (subcommand_rows o) ≡ Some rows → subcommand_rows o ≡ Some (name, rows)
    go None is lists = cc
    go (Some b) is lists = cc

-- one answer has one value
pub some_same : {A : Type 0} (o : Option A) (x y : A) → o ≡ Some x → o ≡ Some y → x ≡ y
some_same o x y one other =
    let same : Some x ≡ Some y = sym one ∙ other in
    cc

-- what isn't there is nothing
pub none_there : {A : Type 0} (found : Option A) (thing : A) → found ≡ None → found ≡ Some thing → ⊥
none_there found thing none some =
    let bad : None ≡ Some thing = sym none ∙ some in
    cc

-- what was met under one name wasn't met under another
pub apart : {A : Type 0} (met : Option (Text × A)) (name other : Text) (a b : A) → bytes_eq name other ≡ false → met ≡ Some (name, a) → met ≡ Some (other, b) → ⊥
apart {A} met name other a b differ one two =
    let same : name ≡ other = ap (λ (p : Text × A). p.0) (some_same met (name, a) (other, b) one two) in
    let bad : true ≡ false = sym ((bytes_eq-Decides name other).1 same) ∙ differ in
    cc

-- and under its name it's one thing
pub alike : {A : Type 0} (met : Option (Text × A)) (name : Text) (a b : A) → met ≡ Some (name, a) → met ≡ Some (name, b) → a ≡ b
alike {A} met name a b one two = ap (λ (p : Text × A). p.1) (some_same met (name, a) (name, b) one two)

-- a subcommand that wasn't met under this name has it nowhere
pub unnamed : (m : ArgMatches) (name : Text) → (subcommand_name_of m ≡ Some name → false ≡ true) → (rows : List Row) → subcommand_rows_of m ≡ Some (name, rows) → ⊥
unnamed m name none rows is = false≢true (none (go (out-ArgMatches m).subcommand is))
  where
    go : {Z : Type 0} (o : Option (Box SubCommand Z)) → subcommand_rows o ≡ Some (name, rows) → option_map (λ b. (out-SubCommand (box_value b)).name.now) o ≡ Some name
    go None there = ap (λ (o : Option (Text × List Row)). option_map (λ p. p.0) o) there
    go (Some b) there = ap (λ (o : Option (Text × List Row)). option_map (λ p. p.0) o) there
