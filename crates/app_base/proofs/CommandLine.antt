-- What clap's contracts say of a command line that is written down.
use Rattle.std.proofs.Common.{◌≡◌, ◌∙◌, List, [], Option, true, inl, inr, sym, ap, subst}
use Rattle.clap.specs.Words.{App, Row, Text, HasKind, Kinds, fault_of, is_simple, is_simple_and_free, kind_of, subcommand_of}
use Rattle.clap.specs.declared.error.Error.{Error}
use Rattle.clap.specs.declared.error.kind.ErrorKind.TheVariants.{OutOfMemory}
use Rattle.app_base.specs.Asked.{AsksOf}

without_fault : (error : Error) → HasKind [] error → kind_of error ≡ OutOfMemory
without_fault error (inl memory) = memory
without_fault error (inr among) = absurd among

module _ {W : Type 0} (program : App) (AsksBy : Option (Text × List Row) → W → Type 0) (app : App) (words : List Text) (is : app ≡ program) where
  module _ (met : Option (Text × List Row)) (simple : is_simple program ≡ true) (matched : is_simple app ≡ true → met ≡ subcommand_of app words) where
    -- what is matched is what the written command line has
    met_is : met ≡ subcommand_of program words
    met_is = matched (ap is_simple is ∙ simple) ∙ ap (λ (a : App). subcommand_of a words) is

    -- words in which no fault is found ask for what was matched of them
    pub asks_for : is_simple_and_free program ≡ true → (is_simple_and_free app ≡ true → fault_of app words ≡ []) → (asked : W) → AsksBy met asked
        → AsksOf program AsksBy words asked
    asks_for free faultless asked asks = record {
      taken = subst (λ (a : App). fault_of a words ≡ []) is (faultless (ap is_simple_and_free is ∙ free));
      asks = subst (λ (m : Option (Text × List Row)). AsksBy m asked) met_is asks;
    }

    -- and they ask for nothing else
    pub asks_by : (asked : W) → AsksOf program AsksBy words asked → (same : W) × AsksBy met same
    asks_by asked asks = (asked, subst (λ (m : Option (Text × List Row)). AsksBy m asked) (sym met_is) asks.asks)

  -- words that ask for something are refused for want of memory alone
  pub lacks_memory : (error : Error) → is_simple_and_free program ≡ true → (is_simple_and_free app ≡ true → HasKind (fault_of app words) error)
      → (asked : W) → AsksOf program AsksBy words asked → kind_of error ≡ OutOfMemory
  lacks_memory error free fails asked asks =
      without_fault error (subst (λ (kinds : Kinds). HasKind kinds error) (ap (λ (a : App). fault_of a words) is ∙ asks.taken) (fails (ap is_simple_and_free is ∙ free)))
