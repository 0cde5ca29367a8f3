-- What is told of files against a board, one behind another.
use Rattle.std.proofs.Common.{◌≡◌, ◌∙◌, ◌⊎◌, inl, inr, ℕ, ◌+◌, ◌<◌, List, [], ◌∷◌, ◌++◌, Result, Ok, Err, map, take, length, get_or, refl, sym, ap, subst, String, Global, string_bytes}
use Rattle.std.proofs.lemmas.List.{append-nil, append_assoc, take_more, map-append}
use Rattle.cfg_records.specs.declared.board_file.BoardFile.{BoardFile}
use Rattle.text_board.specs.declared.fault.FileFault.{FileFault}
use Rattle.text_board.specs.declared.fault.FileFault.TheVariants.{Memory}
use Rattle.text_board.specs.Holds.{ReadsText}
use Rattle.app_base.specs.Files.{Readings}
use Rattle.text_check.specs.declared.outcome.Outcome.{Outcome}
use Rattle.app_bmclab.specs.Against.{OnBoardOf, TellsEach}

-- a text of which a board was read holds it
pub board_read : (text : List ℕ) (file : BoardFile) (read : Result BoardFile FileFault) → read ≡ Ok file → (read ≡ Err Memory) ⊎ ReadsText text read → ReadsText text (Ok file)
board_read text file read is (inl lacks) =
    let bad : Ok file ≡ Err Memory = sym is ∙ lacks in
    cc
board_read text file read is (inr reads) = subst (λ (r : Result BoardFile FileFault). ReadsText text r) is reads

-- one more file
tells_more : (gives : Readings) (board : List ℕ) (words : List (List ℕ)) (outcomes : List Outcome) (said : List ℕ) (word : List ℕ) (outcome : Outcome) (last : List ℕ)
    → TellsEach gives board words outcomes said → OnBoardOf gives board word outcome last → TellsEach gives board (words ++ word ∷ []) (outcomes ++ outcome ∷ []) (said ++ last)
tells_more gives board [] [] said word outcome last tells here =
    (last, [], here, refl, ap (λ (s : List ℕ). s ++ last) tells ∙ sym (append-nil last))
tells_more gives board [] (first ∷ outcomes) said word outcome last tells here = absurd tells
tells_more gives board (first ∷ words) [] said word outcome last tells here = absurd tells
tells_more gives board (first ∷ words) (came ∷ outcomes) said word outcome last tells here = (
  tells.0,
  tells.1 ++ last,
  tells.2,
  tells_more gives board words outcomes tells.1 word outcome last tells.3 here,
  ap (λ (s : List ℕ). s ++ last) tells.4 ∙ append_assoc tells.0 tells.1 last,
)

-- the file of a place
pub told_next : (gives : Readings) (board : List ℕ) (words : List (String Global)) (place : ℕ) (word : String Global) (shown : List ℕ) (outcomes now : List Outcome) (outcome : Outcome) (said text last : List ℕ)
    → place < length words → word ≡ get_or words place word → shown ≡ string_bytes word → TellsEach gives board (map string_bytes (take place words)) outcomes said
    → OnBoardOf gives board shown outcome last → now ≡ outcomes ++ outcome ∷ [] → text ≡ said ++ last
    → TellsEach gives board (map string_bytes (take (place + 1) words)) now text
told_next gives board words place word shown outcomes now outcome said text last within is read tells here grown longer =
    let more : map string_bytes (take (place + 1) words) ≡ map string_bytes (take place words) ++ string_bytes word ∷ [] =
    rw (take_more words place word within, ← is, map-append) in
    let told = tells_more gives board (map string_bytes (take place words)) outcomes said (string_bytes word) outcome last tells
    (subst (λ (w : List ℕ). OnBoardOf gives board w outcome last) read here) in
    rw (more, grown, longer) told
