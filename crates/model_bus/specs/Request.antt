-- What a port is asked, and what it did: the words in which the rule for repeated requests is said.
use Rattle.std.specs.Prelude.{ℕ, ◌+◌, Bool, ◌==◌, ◌&&◌, List, [], ◌∷◌, ◌++◌, if◌then◌else◌}
use Rattle.std.specs.Str.{bytes_eq}

-- requesters are told apart by a byte
abbrev pub requester_bytes : ℕ
requester_bytes = 256

-- a request as a port hears it: who asks, the sequence number (IPMB) or instance (PLDM), and the bytes: all but addresses and
-- check bytes, the number included, with PLDM's ignored bit 0
pub record Request : Type 0 where
  pub requester : ℕ
  pub number : ℕ
  pub bytes : List ℕ

-- a request that is carried out, and the reply that is kept for it
pub record Kept : Type 0 where
  pub request : Request
  pub reply : List ℕ

-- what a port did that its windows depend on: it carried a request out, or forgot a requester's window
pub data Entry : Type 0 where
  Carried : Kept → Entry
  Idled : (requester : ℕ) → Entry

-- two requests are the same: equal requester, number and bytes
abbrev pub is_same : Request → Request → Bool
is_same request asked = ((request.requester == asked.requester) && (request.number == asked.number)) && bytes_eq request.bytes asked.bytes

-- what a requester had carried out since its last idle, newest first; a log is newest first too
abbrev pub carried_since : ℕ → List Entry → List Kept
carried_since requester [] = []
carried_since requester (Carried kept ∷ log) = if kept.request.requester == requester then kept ∷ carried_since requester log else carried_since requester log
carried_since requester (Idled other ∷ log) = if other == requester then [] else carried_since requester log

-- all that a requester ever had carried out, oldest first
abbrev pub carried_by : ℕ → List Entry → List Kept
carried_by requester [] = []
carried_by requester (Carried kept ∷ log) = if kept.request.requester == requester then carried_by requester log ++ kept ∷ [] else carried_by requester log
carried_by requester (Idled other ∷ log) = carried_by requester log

-- how often a requester's window was forgotten
abbrev pub idles_of : ℕ → List Entry → ℕ
idles_of requester [] = 0
idles_of requester (Carried kept ∷ log) = idles_of requester log
idles_of requester (Idled other ∷ log) = if other == requester then idles_of requester log + 1 else idles_of requester log
