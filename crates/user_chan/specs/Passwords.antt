-- Set User Password (IPMI 2.0). A password has 16 or 20 bytes. No reply shows a password: a test tells whether another password equals it.
-- Neither a password nor the status of a user is a record.
use Rattle.std.specs.Prelude.{◌≡◌, ℕ, ◌-◌, ◌^◌, ◌<◌, ◌%◌, List, [], ◌∷◌, length, get_or, drop, replicate, bit_and, bit_or, ◌==◌, ◌&&◌, Bool, true, false, if◌then◌else◌, Result, Ok, Err}
use Rattle.std.proofs.Math.ListN.{set}
use Rattle.two_wire.specs.Codes.{invalid_length}
use Rattle.record_base.specs.Masks.{has}
use Rattle.record_base.specs.Requests.{byte_at}
use Rattle.record_base.specs.declared.live.Live.{Live}
use Rattle.user_chan.specs.declared.password.Password.{Password}
use Rattle.user_chan.specs.declared.password.Password.TheVariants.{Sixteen, Twenty}
use Rattle.user_chan.specs.declared.password.PasswordChange.{PasswordChange}
use Rattle.user_chan.specs.declared.password.PasswordChange.TheVariants.{Disable, Enable, Set, Test}

-- the codes of a test: another text, and another size
abbrev pub wrong_text : ℕ
wrong_text = 0x80

abbrev pub wrong_size : ℕ
wrong_size = 0x81

-- ---- requests

-- the password with these bytes: 20 where the request says so, else 16
abbrev pub password_in : Bool → List ℕ → Result Password ℕ
password_in true bytes = if length bytes == 20 then Ok (Twenty bytes) else Err invalid_length
password_in false bytes = if length bytes == 16 then Ok (Sixteen bytes) else Err invalid_length

-- the operation with a password, if the bytes are a password
abbrev pub with_password : (Password → PasswordChange) → Result Password ℕ → Result PasswordChange ℕ
with_password change (Ok password) = Ok (change password)
with_password change (Err code) = Err code

-- the operation of this number, with the bytes behind it: 0 disable, 1 enable, 2 set, 3 test
abbrev pub change_in : Bool → ℕ → List ℕ → Result PasswordChange ℕ
change_in twenty number bytes =
    if number == 0 then Ok Disable
    else (if number == 1 then Ok Enable
    else (if number == 2 then with_password Set (password_in twenty bytes)
    else with_password Test (password_in twenty bytes)))

-- the operation with these data: bit 7 of the first byte stands for 20 bytes, and bits 1:0 of the second byte are the operation
abbrev pub change_of : List ℕ → Result PasswordChange ℕ
change_of body = change_in (has (byte_at body 0) 7) (byte_at body 1 % 4) (drop 2 body)

-- ---- tests

-- both lists are the same
abbrev pub same_bytes : List ℕ → List ℕ → Bool
same_bytes [] [] = true
same_bytes (byte ∷ rest) (other ∷ others) = (byte == other) && same_bytes rest others
same_bytes _ _ = false

-- both passwords are the same
abbrev pub same_password : Password → Password → Bool
same_password (Sixteen first) (Sixteen second) = same_bytes first second
same_password (Twenty first) (Twenty second) = same_bytes first second
same_password _ _ = false

-- both passwords have the same size
abbrev pub same_size : Password → Password → Bool
same_size (Sixteen first) (Sixteen second) = true
same_size (Twenty first) (Twenty second) = true
same_size _ _ = false

-- the answer to a test of a password
abbrev pub test_answer : (kept given : Password) → Result (Unit {0}) ℕ
test_answer kept given = if same_password kept given then Ok tt else Err (if same_size kept given then wrong_text else wrong_size)

-- ---- what is kept

-- the password of each user, by the user's number
abbrev pub KeptPasswords : Type 0
KeptPasswords = List Password

-- the password with which a board begins: sixteen bytes 00h
abbrev pub opening_password : Password
opening_password = Sixteen (replicate 16 0)

abbrev pub opening_passwords : KeptPasswords
opening_passwords = replicate 64 opening_password

abbrev pub password_of : KeptPasswords → ℕ → Password
password_of kept user = get_or kept user opening_password

-- the passwords after a Set of this password
abbrev pub after_set : KeptPasswords → ℕ → Password → KeptPasswords
after_set kept user password = set kept user password

-- ---- who is enabled

-- the enabled users, after a Set of this user's status
abbrev pub enabled_after : ℕ → ℕ → Bool → ℕ
enabled_after users user true = bit_or users (2 ^ user)
enabled_after users user false = bit_and users (18446744073709551615 - 2 ^ user)

abbrev pub with_enabled : Live → ℕ → Bool → Live
with_enabled live user enabled = record live { enabled_users = enabled_after live.enabled_users user enabled }

-- ---- what holds of that

-- only the stored password passes a test. The test tells a password of another size from a password with another text.
pub record TestsTell (kept given : Password) : Type 0 where
  pub passed : test_answer kept given ≡ Ok tt → given ≡ kept
  pub itself : given ≡ kept → test_answer kept given ≡ Ok tt
  pub size : same_size kept given ≡ false → test_answer kept given ≡ Err wrong_size
  pub text : same_size kept given ≡ true → ¬ (given ≡ kept) → test_answer kept given ≡ Err wrong_text

abbrev pub AllTestsTell : Type 0
AllTestsTell = (kept given : Password) → TestsTell kept given

-- the last Set stores its password, and changes no other user's
pub record SetsAreKept (kept : KeptPasswords) (user : ℕ) (password : Password) : Type 0 where
  pub own : password_of (after_set kept user password) user ≡ password
  pub others : (other : ℕ) → ¬ (other ≡ user) → password_of (after_set kept user password) other ≡ password_of kept other

abbrev pub AllSetsAreKept : Type 0
AllSetsAreKept = (kept : KeptPasswords) (user : ℕ) (password : Password) → user < length kept → SetsAreKept kept user password

-- to enable or disable a user changes this user's status alone
abbrev pub ChangesOneStatus : Type 0
ChangesOneStatus = (users user other : ℕ) (enabled : Bool) → user < 64 → other < 64 → has (enabled_after users user enabled) other ≡ (if other == user then enabled else has users other)
