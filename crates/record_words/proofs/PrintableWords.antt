-- Words are printable ASCII: terms, meanings, numbers, texts.
use Rattle.std.proofs.Common.{◌≡◌, ℕ, zero, suc, ◌/◌, ◌%◌, ◌<◌, ◌&&◌, ◌==◌, Bool, true, false, List, [], ◌∷◌, ◌++◌, codes, refl, arith, if◌then◌else◌}
use Rattle.std.proofs.lemmas.Bool.Decides.{nat_tests}
use Rattle.std.specs.List.{flat_map}
use Rattle.std.specs.Fmt.{decimal, digits, digits_onto, digit_glyph}
use Rattle.record_words.specs.declared.term.Term.{Term}
use Rattle.record_words.specs.declared.term.Term.TheVariants as term
use Rattle.record_words.specs.declared.meaning.Meaning.{Meaning}
use Rattle.record_words.specs.declared.meaning.Meaning.TheVariants as meaning
use Rattle.record_words.specs.Digits.{hex_of, spaced_of}
use Rattle.record_words.specs.Printable.{is_printable, IsLine}
use Rattle.record_words.specs.Quotes.{escape_of, escaped, is_plain, quoted}
use Rattle.record_words.specs.Terms.{term_words}
use Rattle.record_words.specs.Meanings.{meaning_words}

-- ---- lists

pub both : (a b : Bool) → a ≡ true → b ≡ true → (a && b) ≡ true
both a b one two = λ i. one i && two i

pub joined : (front back : List ℕ) → IsLine front → IsLine back → IsLine (front ++ back)
joined [] back one two = two
joined (byte ∷ front) back one two = both _ _ (first_true _ _ one) (joined front back (second_true _ _ one) two)
  where
    first_true : (a b : Bool) → (a && b) ≡ true → a ≡ true
    first_true true b both = refl
    first_true false b both = both

    second_true : (a b : Bool) → (a && b) ≡ true → b ≡ true
    second_true true b both = both
    second_true false b both = let no : false ≡ true = both in cc no

pub each_joined : {A : Type 0} (f : A → List ℕ) → ((x : A) → IsLine (f x)) → (xs : List A) → IsLine (flat_map f xs)
each_joined f each [] = refl
each_joined f each (x ∷ xs) = joined (f x) (flat_map f xs) (each x) (each_joined f each xs)

pub chosen : (test : Bool) (one other : List ℕ) → IsLine one → IsLine other → IsLine (if test then one else other)
chosen true one other first second = first
chosen false one other first second = second

-- ---- numbers

digit_is : (upper : Bool) (n : ℕ) → n < 16 → is_printable (digit_glyph upper n) ≡ true
digit_is true n few = grind (arith, nat_tests, few)
digit_is false n few = grind (arith, nat_tests, few)

pub hex_line : (byte : ℕ) → IsLine (hex_of byte)
hex_line byte = both _ _ (digit_is true (byte / 16 % 16) (omega arith)) (both _ _ (digit_is true (byte % 16) (omega arith)) refl)

onto_line : (k n : ℕ) (behind : List ℕ) → IsLine behind → IsLine (digits_onto k 10 false n behind)
onto_line zero n behind line = line
onto_line (suc k) n behind line =
    let digit = both _ _ (digit_is false (n % 10) (omega arith)) line in
    chosen (n / 10 == 0) _ _ digit (onto_line k (n / 10) (digit_glyph false (n % 10) ∷ behind) digit)

pub decimal_line : (n : ℕ) → IsLine (decimal n)
unfolding digits
decimal_line n = onto_line 64 n [] refl

pub spaced_line : (bytes : List ℕ) → IsLine (spaced_of bytes)
spaced_line bytes = each_joined (λ byte. codes " " ++ hex_of byte) hex_line bytes

-- ---- texts

escape_line : (byte : ℕ) → IsLine (escape_of byte)
escape_line byte = by_test (is_plain byte) refl
  where
    by_test : (test : Bool) → is_plain byte ≡ test → IsLine (if test then byte ∷ [] else codes "\\x" ++ hex_of byte)
    by_test true is = both _ _ (grind (arith, nat_tests, is)) refl
    by_test false is = hex_line byte

pub quoted_line : (text : List ℕ) → IsLine (quoted text)
quoted_line text = joined (escaped text) (codes "\"") (each_joined escape_of escape_line text) refl

-- ---- terms and meanings

pub term_line : (t : Term) → IsLine (term_words t)
term_line term.LowerNonCritical = refl
term_line term.LowerCritical = refl
term_line term.LowerNonRecoverable = refl
term_line term.UpperNonCritical = refl
term_line term.UpperCritical = refl
term_line term.UpperNonRecoverable = refl
term_line term.PositiveHysteresis = refl
term_line term.NegativeHysteresis = refl
term_line term.EventMessages = refl
term_line term.Scanning = refl
term_line term.AssertionEvents = refl
term_line term.DeassertionEvents = refl
term_line term.EnableAssertions = refl
term_line term.EnableDeassertions = refl
term_line term.DisableAssertions = refl
term_line term.DisableDeassertions = refl
term_line term.Selection = refl
term_line term.TimerUse = refl
term_line term.DoNotLog = refl
term_line term.DoNotStop = refl
term_line term.PreTimeoutInterrupt = refl
term_line term.TimeoutAction = refl
term_line term.PreTimeoutInterval = refl
term_line term.FlagsToClear = refl
term_line term.InitialCountdown = refl
term_line term.MessageQueueInterrupt = refl
term_line term.BufferFullInterrupt = refl
term_line term.MessageBuffer = refl
term_line term.EventLogging = refl
term_line term.ReservedEnable = refl
term_line term.FirstOem = refl
term_line term.SecondOem = refl
term_line term.ThirdOem = refl
term_line term.ClearingInvalid = refl
term_line term.AcknowledgeInvalid = refl
term_line term.FlagsInvalid = refl
term_line term.ValidBitClearing = refl
term_line term.InfoAcknowledge = refl
term_line term.BootDevice = refl
term_line term.OtherBootFlags = refl
term_line term.UserName = refl
term_line term.CallbackOnly = refl
term_line term.LinkAuthentication = refl
term_line term.IpmiMessaging = refl
term_line term.PrivilegeLimit = refl
term_line term.SessionLimit = refl
term_line term.AccessMode = refl
term_line term.UserLevelAuthentication = refl
term_line term.PerMessageAuthentication = refl
term_line term.PefAlerting = refl
term_line term.IpAddress = refl
term_line term.AddressSource = refl
term_line term.SubnetMask = refl
term_line term.DefaultGateway = refl
term_line term.VlanId = refl
term_line term.VlanUse = refl

pub meaning_line : (m : Meaning) → IsLine (meaning_words m)
meaning_line meaning.AlwaysOff = refl
meaning_line meaning.Previous = refl
meaning_line meaning.AlwaysOn = refl
meaning_line meaning.UnknownPolicy = refl
meaning_line meaning.NoUse = refl
meaning_line meaning.BiosFrb2 = refl
meaning_line meaning.BiosPost = refl
meaning_line meaning.OsLoad = refl
meaning_line meaning.SmsOs = refl
meaning_line meaning.OemUse = refl
meaning_line meaning.NoInterrupt = refl
meaning_line meaning.Smi = refl
meaning_line meaning.Nmi = refl
meaning_line meaning.MessagingInterrupt = refl
meaning_line meaning.NoAction = refl
meaning_line meaning.HardReset = refl
meaning_line meaning.PowerDown = refl
meaning_line meaning.PowerCycle = refl
meaning_line meaning.Callback = refl
meaning_line meaning.User = refl
meaning_line meaning.Operator = refl
meaning_line meaning.Administrator = refl
meaning_line meaning.OemPrivilege = refl
meaning_line meaning.NoAccess = refl
meaning_line meaning.ModeDisabled = refl
meaning_line meaning.PreBootOnly = refl
meaning_line meaning.AlwaysAvailable = refl
meaning_line meaning.Shared = refl
meaning_line meaning.Unspecified = refl
meaning_line meaning.Static = refl
meaning_line meaning.Dhcp = refl
meaning_line meaning.BySoftware = refl
meaning_line meaning.OtherSource = refl
meaning_line meaning.ReservedSelection = refl
meaning_line meaning.NoOverride = refl
meaning_line meaning.Pxe = refl
meaning_line meaning.Disk = refl
meaning_line meaning.SafeDisk = refl
meaning_line meaning.Diagnostic = refl
meaning_line meaning.CdDvd = refl
meaning_line meaning.BiosSetup = refl
meaning_line meaning.RemoteFloppy = refl
meaning_line meaning.RemoteCdDvd = refl
meaning_line meaning.RemoteMedia = refl
meaning_line meaning.TenthDevice = refl
meaning_line meaning.RemoteDisk = refl
meaning_line meaning.TwelfthDevice = refl
meaning_line meaning.ThirteenthDevice = refl
meaning_line meaning.FourteenthDevice = refl
meaning_line meaning.Floppy = refl
meaning_line meaning.Uint8 = refl
meaning_line meaning.Sint8 = refl
meaning_line meaning.Uint16 = refl
meaning_line meaning.Sint16 = refl
meaning_line meaning.Uint32 = refl
meaning_line meaning.Sint32 = refl
meaning_line meaning.UnknownSize = refl
