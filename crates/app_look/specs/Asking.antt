-- Requests for parts of a controller's own tables, one after another.
use Rattle.std.specs.Prelude.{◌≡◌, ℕ, ◌+◌, ◌-◌, ◌*◌, ◌==◌, ◌||◌, ◌&&◌, not, min, List, [], ◌∷◌, take, Option, Some, None, if◌then◌else◌}
use Rattle.pldm_base.specs.Parts.{flag_byte}
use Rattle.pldm_base.specs.declared.table.TransferFlag.TheVariants.{Start, Middle, End, StartAndEnd}
use Rattle.record_base.specs.Requests.{byte_at}
use Rattle.bios_attr.specs.EntryParts.{transfer_handle}
use Rattle.undo_look.specs.declared.looker.Seen.{Seen}
use Rattle.undo_look.specs.declared.looker.Seen.TheVariants as seen
use Rattle.undo_look.specs.Looks.{IsSeen}
use Rattle.undo_look.specs.declared.target.TablePart.{TablePart}
use Rattle.app_look.specs.declared.look_driver.LookEnd.{LookEnd}
use Rattle.app_look.specs.declared.session.Session.{Session}
use Rattle.app_look.specs.Looking.{AsksFor}
use Rattle.app_look.specs.declared.asking.Told.{Told}
use Rattle.app_look.specs.declared.asking.Told.TheVariants as told
use Rattle.app_look.specs.declared.attributes.Behind.{Behind}
use Rattle.app_look.specs.declared.attributes.Behind.TheVariants.{Part, Whole, Unknown}

-- ---- what is asked for

-- these parts were asked for, one after another
abbrev pub AsksParts : List TablePart → (old new : Session) → Type 0
AsksParts [] old new = new ≡ old
AsksParts (part ∷ parts) old new = (mid : Session) × (end : LookEnd) × AsksFor old part end mid × AsksParts parts mid new

-- parts of tables were, and nothing else
pub record AsksTables (old new : Session) : Type 0 where
  pub parts : List TablePart
  pub each : AsksParts parts old new

-- this part was
abbrev pub AsksPart : TablePart → (old new : Session) → Type 0
AsksPart part old new = (end : LookEnd) × AsksFor old part end new

-- ---- what comes of it

-- so many bytes of a reply are kept
abbrev pub most_reply : ℕ
most_reply = 24

-- what a look came to is told, and of what it shows so much
abbrev pub TellsSeen : Option Seen → Told → Type 0
TellsSeen (Some (seen.Shown bytes)) (told.Shown reply) = reply ≡ take most_reply bytes.now
TellsSeen (Some (seen.Refused code)) (told.Refused byte) = byte ≡ code
TellsSeen None told.Silent = Unit {0}
TellsSeen _ _ = ⊥

-- this is told of the session's last look
abbrev pub IsToldOf : Session → Told → Type 0
IsToldOf session told = (came : Option Seen) × IsSeen session.looker.stage session.looker.shown came × TellsSeen came told

-- this part was asked for, and this is told of it
pub record PartTells (part : TablePart) (old : Session) (told : Told) (new : Session) : Type 0 where
  pub asks : AsksPart part old new
  pub tells : IsToldOf new told

-- the number of two bytes, the low byte first
abbrev pub word_at : List ℕ → ℕ → ℕ
word_at bytes place = byte_at bytes place + 256 * byte_at bytes (place + 1)

-- how many bytes an id string has at most from an offset on, in a record of this size, which doesn't count its first five bytes
abbrev pub name_count : (size place : ℕ) → ℕ
name_count size place = min (size - (place - 5)) 17

-- what comes behind the part of a table that a reply shows
abbrev pub behind_part : List ℕ → Behind
behind_part shown =
    if byte_at shown 4 == flag_byte End || byte_at shown 4 == flag_byte StartAndEnd then Whole
    else (if (byte_at shown 4 == flag_byte Start || byte_at shown 4 == flag_byte Middle) && not (transfer_handle shown == 0) then Part (transfer_handle shown)
    else Unknown)
